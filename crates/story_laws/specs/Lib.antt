-- Rules: what the stories of a drive are of
pub mod Closings
pub mod ClosedStories
pub mod Common
