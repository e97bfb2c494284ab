-- Rules: which words are which command, and what a call of the program promises
pub mod Called
pub mod Command
pub mod NoCommand
pub mod Words
-- For proofs
pub mod Carried
pub mod Common
