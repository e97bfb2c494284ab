-- how the days of the calendar follow one another
mod CalendarDays
-- the day numbers of dates
mod DayNumbers
-- the dates that jiff gives are those of the calendar
mod Dates
-- the laws that the crates above may cite
pub mod Laws
-- the local time at a local second is one
mod LocalTimes
-- lists of offsets: the pair in force
mod OffsetLists
