-- Rules: a log that isn't read: one with a bad slot, or whose records are no list.
use Rattle.std.specs.Prelude.{ℕ, ◌<◌, ◌≢◌, List}
use Rattle.log_commands.specs.{LogList.{StandsFor}, Record.{Record}, Slots.{HasRecord, IsOpen, slot_of}}

-- a slot is bad if it is open and holds no record at a place whose slot it is
pub record IsBad (image : List ℕ) (slot : ℕ) : Type 0 where
  pub opened : IsOpen image slot
  pub none : (place : ℕ) (it : Record) → HasRecord image slot place it → slot_of place ≢ slot

-- a slot is the lowest bad one if it is bad and no slot before it is
pub record IsLowestBad (image : List ℕ) (slot : ℕ) : Type 0 where
  pub small : slot < 256
  pub bad : IsBad image slot
  pub lowest : (lower : ℕ) → lower < slot → ¬ IsBad image lower

-- a log is broken if no slot is bad, and yet its image stands for no list of receipts
pub record IsBroken (image : List ℕ) : Type 0 where
  pub none_bad : (slot : ℕ) → slot < 256 → ¬ IsBad image slot
  pub no_list : (records : List Record) → ¬ StandsFor records image
