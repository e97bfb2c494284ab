pub mod Choices
pub mod Condition
pub mod Meaning
pub mod Part
pub mod Tree
pub mod Writable
pub mod Common
