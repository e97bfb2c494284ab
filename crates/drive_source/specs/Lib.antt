pub mod Source
pub mod Common
