-- what intervals in Hired cost together, and the fares of their bounds
mod Charges
-- what an event makes of a trip and of which trip its receipts are
mod Events
-- the laws that crates above cite
pub mod Laws
-- each receipt is of a trip of its run
mod Receipts
-- the fare of a trip that lasts over events
mod Spans
