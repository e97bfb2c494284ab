-- Rules: what a command is, and how a call of one may end
pub mod Answer
pub mod Call
pub mod Course
pub mod LastLine
pub mod NumberLine
pub mod Pieces
pub mod Plan
pub mod Stream
pub mod Tariffs
pub mod TextCommands
pub mod Unwritten
-- For proofs
pub mod Carried
pub mod Ending
pub mod Making
pub mod Reads
pub mod Common
