-- a body stored at place 0 is the durable state of the store
mod Commits
-- the laws that the crates above may cite
pub mod Laws
-- what scans find is what a sealing asks for
mod Scans
-- what a sealing leaves at each moment
mod Sealings
