-- the first seconds of years
mod Bounds
-- the list of a rule has the offsets of the rule
mod Follows
-- parts of lines are read by their forms
mod Forms
-- the list of a rule is a list of offsets
mod Lawful
-- the laws that the crates above may cite
pub mod Laws
-- lines are read by their forms
mod LinesRead
-- the list of offsets as it grows, year by year
mod Listed
-- the list of a rule has exactly the changes of its years
mod Members
-- the dates of changes
mod Named
-- names are read as their numbers
mod NamesRead
-- where a number stands among those of a range that pass a test
mod Places
-- a plain text is read as its rule, and what is read is in its ranges
mod PlainTexts
-- what is read one part behind the other
mod ReadOn
-- texts of rules are read by their lines
mod TextsRead
-- the two changes of a year, the earlier one and the later one
mod TwoChanges
-- the days of a year by their months
mod YearDays
