-- the line of a mark is read as that mark
pub mod Again
-- what is read of a text is what the text says
pub mod BookAnswers
-- the drivers' sums grow by one shift after the other
pub mod DriverSums
-- which words are drivers
pub mod DriverWords
-- characters of drivers at the front of a text
pub mod Drivers
-- a report has no more shifts than marks, and no more drivers than shifts
pub mod Fewer
-- what grew between the points of a book adds up, column by column
pub mod GrowthSums
-- entries in the order of their keys, with one more
pub mod Inserted
-- the laws that the crates above may cite
pub mod Laws
-- the line of a mark says the mark, and no other text does
pub mod Lines
-- a book that has one mark more
pub mod LongerBooks
-- a text is read one way
pub mod Once
-- the text of a report is put together from its lines
pub mod ReportLines
-- a report has the drivers' sums, and its parts add up
pub mod Reported
