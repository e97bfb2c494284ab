pub mod Alike
pub mod Contexts
pub mod Drives
pub mod Reached
pub mod Same
pub mod Common
