pub mod Lists
pub mod Range
pub mod Common
