-- what a beginning of a roll is read as is what the roll is read as, so far
mod Beginnings
-- how long the fields of a row are, and how they are joined
mod Fields
-- a receipt at the front of a text, as it is printed
mod FrontReceipts
-- a receipt stands at the front of a text if it is read there and is written so
mod Fronts
-- what crates above may cite
pub mod Laws
-- no receipt lies in another's text with more behind it: only the last line of a receipt is that of its end
mod Overlaps
-- the fields of a row are plain, so a row that is cut at its commas gives them
mod PlainFields
-- how the reading of a roll goes on, with the files' counts of faults
mod Readings
-- what a roll is read as
mod RollLaws
-- how the reader of a roll goes on
mod Rolls
-- a receipt's text is made of the fields of its row, so a row is that of one receipt
mod RowTexts
-- how a search for a receipt goes on
mod SearchSteps
-- what was handed out of a roll, when no more of it is read
mod WholeRolls
