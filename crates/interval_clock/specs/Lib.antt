pub mod Calendar
pub mod Offsets
pub mod LocalTime
