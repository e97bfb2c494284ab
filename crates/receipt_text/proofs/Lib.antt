-- what is written of a number, an amount or a word is read again
mod Again
-- all elements of a list are bytes if each is
mod Bytes
-- what is written of a date, a day or a local time is read again
mod Dates
-- the numbers that digits make, and a limit
mod Digits
-- a text is a receipt of the grammar exactly if it is the one that is written
mod GrammarTexts
-- what is written of a group of lines is read again
mod Groups
-- the laws that the crates above may cite
pub mod Laws
-- how long receipts are
mod Lengths
-- the optional lines of a receipt and its total: they are short, and what is written of the lines is read again
mod OptionalLines
-- a receipt that was written is read again
mod ReadAgain
-- what a receipt says of a seal is in its ranges
mod Sealed
-- displays are told apart by their texts
mod ShownApart
-- receipts under seals that say the same but for the digest
mod TariffLines
-- a text is one receipt at most, and no beginning of it is another
mod Unique
-- how long the lines of a receipt are at most, whatever it says
mod Widths
