-- all faults: the first is the one that is answered, and each that is there is named
mod AllFaults
-- what a hiring begins with is what the lines that hold first say
mod Amounts
-- the choices of the program are those of the tariff
mod ChoiceLaws
-- each choice of the lines stands at its line, and none is left out
mod ChoicePlaces
-- the common measure is the least common multiple of all measures
mod CommonMeasure
-- the choices that lines give, line after line
mod CountedChoices
-- how cuts are put among others
mod CutLaws
-- cuts are in order, each once
mod CutOrder
-- some line always holds
mod DefaultLines
-- the first fault, stage by stage
mod FaultStages
-- the first line that meets a test
mod FirstLine
-- what is looked for among lines one by one is found among their parts
mod FirstParts
-- a sound tariff tells its frame once
mod FrameLines
-- what is proved of each kind of line
mod KindLaws
-- the laws that the crates above may cite
pub mod Laws
-- the least common multiple of two numbers is what its name says
mod LeastMultiples
-- what holds of each line of a sound tariff whose numbers a text can have
mod LineFacts
-- the common measure of more than two measures
mod MeasureLaws
-- what holds of the lines of a tariff holds of its parts
mod PartLaws
-- the common measure is a multiple of both measures of the rate in force
mod RateMeasures
-- a sound tariff has its parts in their ranges
mod SoundParts
-- supplements outside the numbers that a text can have
mod Supplements
