-- filing a roll again appends nothing, whatever of it is read the second time
mod AgainFiled
-- what a beginning of a roll is read as is what the roll is read as, so far
mod Beginnings
-- a log that stands for a list passes each slot from the newest record back
mod Bounds
-- what a call comes to before its last line, by what finding the log's end, filing a roll and showing records come to
mod CallEnds
-- a count of faults over calls one after another
mod Causes
-- how many records a log has whose end is known, and where the first of them is held
mod Counted
-- which ends and statuses the finding of the log's end and the filing of a roll come to
mod EndCases
-- what filing the receipts of a roll comes to
mod FiledLaws
-- a receipt at the front of a text
mod FrontReceipts
-- what a call comes to when its last line is printed
mod LastLines
-- the newest record of a log that stands for a list
mod NewestFound
-- the greatest place of the entries is that of the newest record
mod NewestPlace
-- an image stands for one list at most, and then no slot of it is bad
mod OneList
-- what stays of the log when one of its slots is written
mod OtherSlots
-- no receipt lies in another's text with more behind it: only the last line of a receipt is that of its end
mod Overlaps
-- calls that read alone
mod ReadOnlyCalls
-- what follows of an answer that is Ok
mod Results
-- how the filing of a roll goes on and ends
mod RollFilings
-- what a roll is read as
mod RollLaws
-- how the reader of a roll goes on
mod Rolls
-- going through the slots of the log from the newest record back
mod Rows
-- what a slot's content tells of it
mod Scans
-- how a search for a receipt goes on
mod SearchSteps
-- how records are shown one after another
mod Shown
-- what a record's bytes are read as
mod Spelled
-- what each stage of an append leaves, while it goes on and at its end
mod Staged
-- how the end of the log goes on when receipts are filed
mod Tails
-- what was handed out of a roll, when no more of it is read
mod WholeRolls
-- what a call of `rows` comes to
mod RowsEnds
-- words that are two
mod WordPairs
