-- acts on a store, one after the other
mod ActsOnStore
-- one call of the board as a deed: a print, a commit, a scan
mod BoardDeeds
-- acts that are carried out, one after the other
mod CarriedActs
-- what acts leave of the durable state
mod CommittedStates
-- what an image that a cut left has
mod CutImages
-- what a point of a list of deeds says of an image that a cut leaves
mod Cuts
-- displays of a meter, by their texts
mod Displays
-- equal intervals that the core carries out at once
mod Equal
-- events, intervals and runs that are carried out, one behind the other
mod EventLists
-- one event on a store
mod EventOnStore
-- a line that is printed behind a run
mod LastLines
-- the laws that the crates above may cite
pub mod Laws
-- lines that are printed: which text they have, and that it isn't empty
mod Lines
-- an event commits at most once
mod OneCommit
-- how a run ends, by what its drive came to
mod RunEnds
-- what a scan of the pair of totals finds on a board that is settled
mod SettledScans
-- the supply behind events, and the steps of a drive with the supply drop at its end
mod Supplies
-- one event, and the supply drop at the end
mod SupplyDrop
-- a drive, from its first byte to where no more of it is read
mod WholeDrive
-- a whole run on a store: its events, and the supply drop at its end
mod WholeRun
