-- Rules: the three stages in which the log gets one more record, on the one slot of its place. IsStep, in Appends, says
-- what a cut leaves meanwhile.
use Rattle.std.specs.Prelude.{ℕ, ◌+◌, ◌≡◌, ◌≤◌, Bool, List, false, length, true}
use Rattle.log_commands.specs.{LogList.{EndsWith}, Slots.{IsClosed, IsOpen, Spells, behind_gate, slot_of}}
use Rattle.log_commands.specs.Record.{Record}

-- a board is still if nothing is in flight
abbrev pub IsStill : (ℕ → Type 0) → Type 0
IsStill in_flight = (place : ℕ) → ¬ in_flight place

-- a log is ready for one more record if nothing is in flight, the newest of its records is at the place `last`, and it
-- is known whether the slot of the next place is open
pub record IsReady (image : List ℕ) (in_flight : ℕ → Type 0) (last : ℕ) (is_open : Bool)
    (records : List Record) : Type 0 where
  pub still : IsStill in_flight
  pub ends : EndsWith image last records
  pub opened : is_open ≡ true → IsOpen image (slot_of (last + 1))
  pub closed : is_open ≡ false → IsClosed image (slot_of (last + 1))

-- a log is shut for the second stage if the slot of the next place is closed and none of its records is there
pub record IsShut (image : List ℕ) (in_flight : ℕ → Type 0) (last : ℕ) (records : List Record) : Type 0 where
  pub still : IsStill in_flight
  pub ends : EndsWith image last records
  pub few : length records ≤ 255
  pub closed : IsClosed image (slot_of (last + 1))

-- a new record is written, for the third stage, if its bytes are behind the closed gate of the next place
pub record IsWritten (image : List ℕ) (in_flight : ℕ → Type 0) (last : ℕ) (records : List Record)
    (it : Record) : Type 0 where
  pub shut : IsShut image in_flight last records
  pub spells : Spells (behind_gate image (slot_of (last + 1))) (last + 1) it
