-- bytes that are parted at a byte, and the fields of a line
mod Blanks
-- what a drive means doesn't depend on where its bytes were cut
mod Cuts
-- numbers that are written in decimal
mod Decimals
-- the CR at a line's end, comments, and lines that are too long
mod Endings
-- how a drive ends, from the bytes that were taken
mod Ends
-- the laws that the crates above may cite
pub mod Laws
-- the lines of a text are what stands between its LFs
mod LineLaw
-- fields that are numbers
mod Numbers
-- a part of a text without an LF, and a line with its LF, behind other bytes
mod Parts
-- lines without a byte below the blank, and those of them that are read in one pass
mod PlainLines
-- first bad lines and runs of lists of lines, of which more come
mod Positions
-- the runs of a line are in the ranges of a drive
mod Ranges
-- the line of an event is read as that event
mod ReadBack
-- what a part of a piece, and then a piece, changes of a reader
mod ReaderPieces
-- where a reader stands after a part of a piece
mod ReaderPlaces
-- what a line means is what the table says
mod Table
-- the first bad line and the runs of a text are those that its lines say
mod Wholes
-- the lines of events, and the drive of all of them
mod WrittenDrives
