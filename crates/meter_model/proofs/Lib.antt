-- what the fare of a trip depends on
mod Fares
-- each stage of an event keeps the trip of the store
mod KeptTrips
-- what accepted keys do, key by key
mod KeyActs
-- what was shown last is the display of a state that keeps its trip
mod LastDisplays
-- the laws that the crates above may cite
pub mod Laws
-- a held trip that is opened is saved again as it was held
mod Resumed
-- a trip that is opened from its saved form has the saved form of the whole trip
mod ResumedForms
-- runs over lists of events
mod Runs
-- when two displays are the same, when one is shown, and what a display for hire has
mod ShownDisplays
