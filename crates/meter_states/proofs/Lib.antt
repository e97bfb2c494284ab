-- lawful acts keep the ranges of the store
mod ActRanges
-- counts that a tariff allows, and the sum of their amounts
mod Amounts
-- the weights of the tables give the charges that the rate's own numbers give
mod Charges
-- how often each number stands in a list
mod Counts
-- when a core shows a display
mod Displays
-- equal intervals in each operating position
mod EqualIntervals
-- a trip that fits the tables fits their setting
mod HeldFits
-- what a key does, as a stage of an event
mod KeyStages
-- the laws that the crates above may cite
pub mod Laws
-- a charge more
mod Meterages
-- how stages that follow one another join, and which cores meet the outcome of an event
mod Outcomes
-- what a powered core has in its operating position, and cores in wider ranges
mod Powered
-- acts with one act more
mod Pushes
-- intervals at which nothing is done
mod Quiet
-- what a refusal leaves
mod Refused
-- what the check of the roaming pulses does in each case
mod RoamingStages
-- what tables have of their setting
mod Settings
-- each stage of an event commits what its acts say, and puts a receipt directly behind its entry
mod Stages
-- what a drop of the supply and its coming do in each case
mod SupplyStages
-- the supplements of tables are those of the tariff
mod TableSupplements
-- what the core keeps of a trip is its saved form
mod Trips
