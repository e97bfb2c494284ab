-- what is asked of tables in a context of a meter
pub mod Asked
-- what the tables of a sound tariff answer is what the tariff says
pub mod Bridge
-- what is so in a context is so in the one of the grid that stands for it
pub mod Carried
-- for each context of a meter the grid has one in the same cell that isn't later
pub mod Covers
-- the days that are kept
pub mod Days
-- the part that is found is the first that differs
pub mod FirstParts
-- the first context that the grid has is the first of the meter
pub mod Firsts
-- what differs first between two tariffs
pub mod DifferenceLaws
-- the frame of two tariffs
pub mod Frames
-- what is found in a grid is the first of its contexts that meets the test
pub mod Found
-- the grid of two tariffs: its numbers, its order and its contexts
pub mod GridIs
-- the days of the grid are in order, and each day is like one of them
pub mod GridDays
-- what is so of each kind of line
pub mod EachKind
-- the laws that the crates above may cite
pub mod Laws
-- the days and minutes that a meter has
pub mod MeterTimes
-- numbers of the grid
pub mod Numbers
-- the order of contexts
pub mod Order
-- numbers from one on
pub mod Ranges
-- days and minutes of a meter
pub mod Times
