-- what stays of an entry with other rates
mod AlikeEntries
-- what stays of lines with other rates
mod AlikeLines
-- which faults stay
mod OtherFaults
-- the first fault of plain rates is the first other one
mod PlainFaults
-- the answer to a text
mod NearTexts
-- a tariff with plain measures
mod PlainTariff
-- the rates of lines, with the numbers of these
mod RateNumbers
-- charges under a near rate
mod NearCharges
-- fares of such charges
mod NearFares
-- numbers that are within a share of others
mod Shares
-- the rates of a near tariff are within its share
mod NearRates
-- a near tariff is sound
mod NearSound
-- what a near tariff chooses in a context
mod NearChoices
