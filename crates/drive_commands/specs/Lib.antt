-- Rules: the commands that carry out a drive on the meter. The headline is `IsRun` in Run
pub mod Fare
pub mod Generate
pub mod Run
-- For proofs
pub mod DriveEnds
pub mod RunSteps
pub mod Common
