-- Rules: any chain of runs and cuts of the power, and runs under tariffs that are the same
pub mod Chain
pub mod Link
pub mod MemoryRuns
pub mod NewStore
pub mod SameRuns
-- For proofs
pub mod ChainSteps
pub mod Common
