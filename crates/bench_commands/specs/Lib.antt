-- Rules: the commands that go through a drive by the plain program
pub mod Bench
pub mod DriveTexts
pub mod Explain
pub mod ExplainedText
pub mod Story
pub mod StoryText
-- For proofs
pub mod BenchSteps
pub mod ExplainSteps
pub mod Common
