-- the lemmas that the crates above may cite
pub mod Laws
-- how a source goes on and stops
mod SourceSteps
