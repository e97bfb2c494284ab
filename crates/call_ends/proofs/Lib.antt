-- the laws of the runs of a board's calls that the functions of this crate try
mod BoardRuns
-- commands that are given no files or no board, as ones that are
mod CallsWithoutDevices
-- how the parts of a call end together
mod Endings
-- ends of a command that are not one another
mod EndsApart
-- what the counts of faults say of a command, from the calls that it made, and over its last line
mod FaultCounts
-- what parts of a command do to the files that they read, one after the other
mod Following
-- the lemmas that the crates above cite
pub mod Laws
-- what a command has made, and how it ends once that is printed
mod Making
-- one answer has one fault, and what it says of another that it is equal to
mod OneAnswer
-- texts that are printed part by part
mod PrintedParts
-- a command that gives nothing: memory ran out, a read failed, or it refuses
mod Refusals
-- whether a command ended by a fault of the board
mod Rests
-- the rows of tables, printed one after the other
mod Rows
-- commands that show a text, the whole of it or a beginning
mod ShownTexts
-- what is taken in pieces, and the status by which it is bad
mod Streams
-- the sound tariff of a text that was read
mod Tariffs
-- calls that write nothing, one after another
mod Unwritten
