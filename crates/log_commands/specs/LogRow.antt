-- For proofs: how the slots of the log are gone through from the newest record back. StandsFor, in LogList, says which
-- list they are.
use Rattle.std.specs.Prelude.{ℕ, ◌%◌, ◌+◌, ◌-◌, ◌<◌, ◌≡◌, ◌≤◌, ◌⊎◌, List, None, Option, Some, get_or, length}
use Rattle.log_commands.specs.{LogList.{AreInSlots, RiseFrom}, LogScan.{IsEntry}, declared.scanning.Entry.{Entry}}
use Rattle.log_commands.specs.{Record.{Record}, Slots.{IsClosed}}

-- entries are those of an image if each tells what is known of its slot
abbrev pub AreEntries : List ℕ → List (Option Entry) → Type 0
AreEntries image entries = (slot : ℕ) → slot < 256 → IsEntry image slot (get_or entries slot None)

-- the slot back from a place `last` is that of the place `back` places before it
abbrev pub slot_back : (last back : ℕ) → ℕ
slot_back last back = (last % 256 + 255 - back) % 256

-- `back` slots, from that of the newest record downwards, have `count` records if each down to place 1 has one, or all
-- but the 256th
abbrev pub IsCountBack : (last back count : ℕ) → Type 0
IsCountBack last back count =
    ((back ≤ last) × (count ≡ back))
    ⊎ (((last < back) × (count ≡ last)) ⊎ ((back ≡ 256) × (256 ≤ last) × (count ≡ 255)))

-- `back` slots, from that of the newest record downwards, are a row if they hold records whose places follow each other
-- and whose numbers rise to below `newer`, and the other slots among them are closed
pub record IsRow (image : List ℕ) (last back newer : ℕ) : Type 0 where
  pub records : List Record
  pub count : IsCountBack last back (length records)
  pub held : AreInSlots image (last + 1 - length records) records
  pub rise : (number : ℕ) → number < newer → RiseFrom number records
  pub some : 0 < newer
  pub others : (other : ℕ) → other < back → length records ≤ other → IsClosed image (slot_back last other)

-- the number `newer` bounds a list's records that are `back` places or more before its end if each has a lower number
abbrev pub IsBound : List Record → (back newer : ℕ) → Type 0
IsBound records back newer = (place : ℕ) (other : Record) → place + back < length records
    → (get_or records place other).number < newer

-- an entry is at most at a place if its own is no later, or if it has none
abbrev pub IsAtMost : ℕ → Option Entry → Type 0
IsAtMost place None = Unit {0}
IsAtMost place (Some entry) = entry.place ≤ place

-- an entry is of a place if that is its own
abbrev pub IsPlaceOf : ℕ → Option Entry → Type 0
IsPlaceOf place None = ⊥
IsPlaceOf place (Some entry) = entry.place ≡ place
