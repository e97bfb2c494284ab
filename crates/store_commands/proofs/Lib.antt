-- what the command `seal` leaves of the store, in the end and after a cut
mod Amid
-- the ends by which a store bars a command, case by case
mod BarredEnds
-- commands that end by the store, with a refusal or with a fault of the board before their answer
mod EndsByStore
-- the lemmas that the crates above cite
pub mod Laws
-- the lines of a list of offsets, printed one after the other, and the answers of the command `offsets`
mod OffsetLines
-- the opening of the store, from its two scans, and what is known of it behind its answer
mod Openings
-- the replies to requests over a sealed store, and what is left of the store
mod PortReplies
-- which faults of parameters and rules are those of a read
mod ReadFaults
-- what a cut leaves of calls that only look at the store
mod ReadOnlyCalls
-- in which texts no byte of the line `SEALED n` stands
mod SealLines
-- the text of what a store was sealed with is read as the parameters of its seal
mod SealedLaws
-- which text is the sealed tariff, and why another has no tables
mod SealedTariffs
-- the text of what a store was sealed with, part by part
mod SealedTexts
-- what the command `seal` answers
mod Sealings
-- the seal of a sealing is of its two texts, and what was sealed is sealed the same again
mod SealsOfTexts
-- the report of a book beside a sealed store
mod ShiftReports
-- commands that show a text of a sealed store, or end because the store bars them
mod StoreTexts
-- the files of two words that are read one behind the other
mod Turns
-- what a part of a command read of a word, whatever it gives of it
mod WordsRead
