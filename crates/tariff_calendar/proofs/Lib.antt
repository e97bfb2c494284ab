-- two contexts that compare alike with the cuts of a condition's atoms: the condition holds in both or in neither
mod Comparisons
-- how many numbers of a list are at most a value
mod Counts
-- months and dates compare as their places in a leap year do
mod Dates
-- what a look-up finds in numbers that don't fall
mod Found
-- holidays by their day numbers
mod Holidays
-- numbers put into order one by one: which they are, and that they rise
mod Insertions
-- the laws that the crates above may cite
pub mod Laws
-- the lists of a tariff: they don't fall, are short, and have nothing at 0
mod Lists
-- how far a value may grow while as many numbers are at most it
mod Reaches
-- two contexts of one cell: the conditions of the tariff hold in both or in neither, and the same lines hold first
mod SameCell
