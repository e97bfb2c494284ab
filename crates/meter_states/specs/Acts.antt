-- Rules: the ranges of what the meter does.
use Rattle.std.specs.Prelude.{ℕ, ◌+◌, ◌≡◌, ◌≤◌, All, List, false}
use Rattle.{taxi_units.specs.Shown.{IsReceipt, IsShown}, totals_record.specs.Ranges.{IsEntry, IsTripInItsRanges}}
use Rattle.{totals_record.specs.{Entries.{closes}, States.{after}}, meter_states.specs.Common.{last_number}}
use Rattle.meter_states.specs.Common.{Act, Durable, Enter, Hold, IsDurable, Receipt, Refuse, Show, TableParts, Trip}
use Rattle.meter_states.specs.Fits.{Fits}
use Rattle.totals_record.specs.declared.change.Change.TheVariants as changes
use Rattle.totals_record.specs.declared.entry.Entry as store

-- an entry may be made beside a store's number of at most 2 * 10^15 if it is in its ranges; an entry of roaming leaves
-- room for the entry of a trip
pub record IsEntryBeside (number : ℕ) (entry : store.Entry) : Type 0 where
  pub room : number ≤ last_number
  pub range : IsEntry entry
  pub roaming : closes entry ≡ false → number + 1 ≤ last_number

-- a trip may be held beside a store's number below 2 * 10^15 if it is in its ranges and fits the tables
pub record IsHoldBeside (tables : TableParts) (number : ℕ) (trip : Trip) : Type 0 where
  pub room : number + 1 ≤ last_number
  pub range : IsTripInItsRanges (number + 1) trip
  pub fits : Fits tables trip

-- an act is lawful at a number of the store if what it shows or prints has a text, and what it commits keeps the ranges
-- of the store
abbrev pub IsLawfulAct : TableParts → (number : ℕ) → Act → Type 0
IsLawfulAct tables number (Show display) = IsShown display
IsLawfulAct tables number (Refuse why) = Unit {0}
IsLawfulAct tables number (Enter entry) = IsEntryBeside number entry
IsLawfulAct tables number (Hold trip) = IsHoldBeside tables number trip
IsLawfulAct tables number (Receipt receipt) = IsReceipt receipt

-- acts stay lawful at a number of the store if they are lawful whenever the acts before them are
abbrev pub StayLawful : TableParts → (number : ℕ) → (before acts : List Act) → Type 0
StayLawful tables number before acts =
    All (IsLawfulAct tables number) before → All (IsLawfulAct tables number) acts

-- an act keeps the ranges if the store's state after it is in its ranges, if it commits something
abbrev pub KeepsRanges : Durable → Act → Type 0
KeepsRanges durable (Enter entry) = IsDurable (after durable (changes.Enter entry))
KeepsRanges durable (Hold trip) = IsDurable (after durable (changes.Hold trip))
KeepsRanges durable act = Unit {0}
