pub mod Alike
pub mod Cells
pub mod Marks
pub mod Near
pub mod Rows
pub mod Tables
pub mod Common
