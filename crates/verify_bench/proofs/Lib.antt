-- what parts of a generated drive add to a writing, one behind the other
mod Adds
-- the amounts of supplements, number by number, are those of the whole list
mod AmountSums
-- the supply of the bench's meter: what it finds held, and what it leaves
mod BenchSupply
-- the meter of the bench stands for the next state behind each stage of an event
mod Benches
-- a fare of more steps than can be shown is the fare of the most steps
mod Capped
-- events that the bench carries out, one behind the other
mod Carried
-- how large the charge of an interval is, and which of its parts it is
mod ChargeRange
-- the cross-over lines of a list of lines of a tariff, line by line
mod CrossOverLines
-- the rows of a text by the relation of csv are those by its function
mod CsvRows
-- each explanation is of a trip of its drive
mod DriveTrips
-- readings pass exactly if each row of the report does
mod EachPasses
-- what the acts of an event refuse and show
mod EventActs
-- explanations have the receipts of the run of the meter, and what an event makes of a trip
mod Explanations
-- the fields of a row of csv, if it has three
mod Fields
-- a verdict is the first fault, and one only
mod FirstFaults
-- the sums of intervals, gathered one by one, are those of the whole list
mod GatheredSums
-- a generated drive is good, means its lines, and is short
mod GeneratedLaws
-- the groups of rate lines, line by line
mod GroupLists
-- the laws that the crates above may cite
pub mod Laws
-- the lines of a generated drive: their lengths, their events, and their texts
mod Lines
-- the lines of a generated drive are read as they are meant
mod LinesRead
-- a text of readings has one answer, which is that of the function
mod OneReading
-- the groups of parts, those in Stopped and those left unfinished are all parts
mod Partition
-- permissible errors, found by division
mod Permitted
-- the numbers of a generated drive are those that a line of a drive may have, and its bytes are few
mod Ranged
-- the expected list has a hiring for each receipt of the meter's actions
mod ReceiptList
-- the rows of a report, one behind the other
mod ReportRows
-- rows of readings, taken one by one
mod Rows
-- what a drive should come to is its explanations cut short
mod ShortExplanations
-- how many display steps a trip can show
mod StepCounts
-- stories, moment by moment
mod StoryLists
-- the supplements that were taken, number by number
mod TakenLists
-- events that a meter tells, one behind the other
mod Tellings
-- the parts of a sound tariff that hold in a context are sound
mod TreeParts
-- each explanation has the fees in force at the hiring, with their lines
mod TripFees
-- each group has the line and the way that charged its intervals
mod TripGroups
-- the trips of a generated drive, one behind the other
mod Trips
