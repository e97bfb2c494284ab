-- day numbers of the years 2000 to 2199
mod DayBounds
-- a line that is bad has the fault that its form says
mod FaultLaws
-- values are read by their forms
mod FormLaws
-- the laws that the crates above may cite
pub mod Laws
-- a line that is read says what its form says
mod LineLaws
-- how a text is parted into lines, and a line into key and value
mod LineParts
-- what has been said with one offset more
mod OffsetsSoFar
-- pairs of a list of offsets, one behind the other
mod Pairs
-- parameters that a text says are in their ranges
mod ParamRanges
-- a plain text of parameters is read as them
mod PlainTexts
-- the values of a plain text are read as they are
mod PlainValues
-- parameters and seals that bytes give, if they are in their ranges
mod Ranged
-- texts are read by their lines, and lines by their parts
mod TextLaws
-- when a text is too long, or lacks a parameter
mod WholeFaults
-- a text that is read says its parameters
mod WholeLaws
