-- what the meter commits keeps the ranges
mod CommitRanges
-- the state after a list of commits, and after one list and then another
mod CommittedStates
-- totals are sums over lists of entries
mod EntrySums
-- the laws that the crates above may cite
pub mod Laws
-- how an entry changes the shares
mod Shares
