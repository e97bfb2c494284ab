pub mod Shown
pub mod Common
