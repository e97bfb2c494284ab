pub mod RunTrips
pub mod Common
