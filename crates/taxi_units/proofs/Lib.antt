-- what is written as an amount is read as that amount
mod Amounts
-- what is appended in two pieces
mod Appends
-- digits at the front of a text, and the numbers and units that they make
mod Digits
-- numbers of a width and a range are read by their digits
mod Figures
-- the answer to a text of a decimal is the one that its form has
mod Form
-- a text is parted where its first digits end, and read so
mod Front
-- look-ups by halving: how many elements they count, and in how many steps
mod Halvings
-- the laws that the crates above may cite
pub mod Laws
-- how long texts of numbers and amounts are
mod Lengths
-- a number at the front of a text is read by its digits
mod Numbers
-- dates and their places in a leap year go back and forth
mod Places
-- texts of numbers and amounts are the ones that have their digits
mod Spelled
-- how streams end, from the bytes that were taken
mod StreamEnds
-- a word is read where it stands at the front of a text
mod Words
-- numbers are written digit by digit
mod Written
