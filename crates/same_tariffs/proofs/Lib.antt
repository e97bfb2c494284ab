-- what two settings agree on, so that their meters do the same
mod Agreement
-- more pulses than any tariff can name change no line that holds
mod Capped
-- the local day and minute of a second of a meter
mod Clocks
-- a drive that comes to an interval in a context of a meter
mod DrivesToContexts
-- what each key does at two meters that stand alike
mod Keys
-- the laws that the crates above may cite
pub mod Laws
-- the contexts that meters within reach are charged and hired in, and settings that agree
mod MeterContexts
-- two meters that stand alike, and outcomes that come to such meters
mod MetersAlike
-- sums, quotients and rests of the same money
mod Money
-- rates that cost the same make charges of the same money
mod Rates
-- runs of two meters that stand alike, and of one meter
mod Runs
-- each stage of an event, at two meters that stand alike
mod Stages
-- the events of each drive are timely
mod Timely
-- what two meters make of trips that are alike
mod Trips
-- the events that lead to a context are those of a drive, whose lines are within the limit
mod WayTexts
