-- how many bytes the items of a request have together
mod Bodies
-- what a call passes on of one that failed behind others
mod Causes
-- the laws that the crates above may cite
pub mod Laws
-- how many bytes the content of each item has
mod Parts
-- what each byte of a piece changes of a port
mod PieceBytes
-- a piece that is served, and a stream that is served piece by piece
mod Pieces
-- what bytes make of a port, one behind the other
mod Runs
-- what an unfinished request is like, and what a byte that may follow makes of it
mod Shapes
-- requests and bad places are those that the streams that there are have
mod Streams
