pub mod Sealing
pub mod Stored
pub mod Common
