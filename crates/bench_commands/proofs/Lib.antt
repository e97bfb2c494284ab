-- why the command `bench` judges nothing, what it judges, and how it comes to its last line
mod BenchEnds
-- what a command answers that prints a text of a drive
mod DriveTextAnswers
-- texts line by line, and numbered texts one after the other
mod TextsInTurn
-- a charge that is cut off, in its parts
mod ExplainedLines
-- readings that were read, and why others weren't
mod JudgedReadings
-- a drive that is read whole into memory, part by part
mod WholeDrives
