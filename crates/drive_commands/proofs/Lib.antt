-- the drive of the command `gen`, over a new store
mod GenDrive
-- the test whether a held trip fits the tables decides it
mod HeldTripFits
-- the lemmas that the crates above cite
pub mod Laws
-- what the command `run` answers, and what it leaves of the store
mod RunAnswers
-- places in the list of what a run does, with the last line behind it
mod RunCuts
-- what the command `run` answers and leaves once its drive was carried out, and after its last line
mod RunEnds
-- how the command `run` begins
mod RunStarts
-- the drive of the command `fare`, under its tariff
mod TariffDrives
