-- where a band begins: at the last cut that is at most the value, or at 0
mod Beginnings
-- one bit of a word as a mark, through each operation
mod Bits
-- the cells block by block, and the contexts of a block
mod Blocks
-- the numbers of cells: the bands of a cell give its number back, and a number its bands
mod CellNumbers
-- what compiled tables have: the ranges of their numbers, and what is looked up in them
mod Compiled
-- what is looked up for a context: the lines that its cell has are those that the tree names
mod ContextLines
-- what is so of each kind of line in tables: its lines, its numbers and its rows
mod EachKind
-- how large the weights of a sound rate are
mod Fits
-- the laws that the crates above may cite
pub mod Laws
-- the cuts of days and of minutes are low enough for a context
mod LowCuts
-- how marks are made: one context after another, and the first mark that a place has
mod Marked
-- the weights of a rate are its own
mod OwnWeights
-- the rows of sections, one after another
mod RowOrder
-- what is the same in contexts, and what has one answer in them
mod SameInContexts
-- texts that fit into an empty line: numbers, amounts, and the rows of sections
mod ShortRows
