-- the cross-over speed reaches the bound of even speeds
mod AtCrossOver
-- a gate counts the sum of its bursts of pulses
mod Bursts
-- what intervals are charged lies between their distance or their time alone, and both together
mod Charged
-- how much an even speed is charged too much, in units of charge and as a share
mod Coarseness
-- mode S charges the time below the cross-over speed and the distance from it on
mod Crossover
-- fares of even speeds are shown nearly, over several rates
mod EvenFares
-- mode S charges even speeds nearly what the intervals cost as one
mod EvenSpeeds
-- the largest fare is shown from some number of display steps on
mod Largest
-- the laws that the crates above may cite
pub mod Laws
-- display steps are whole steps: the most that an amount fills, or the fewest that hold it
mod Steps
-- a meterage that is kept from charge to charge is what their sum makes of it
mod Sums
-- distances are the most whole millimetres for which the pulses are enough
mod WholeMillimetres
