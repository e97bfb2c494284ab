-- Rules: what is told of the store of the system, and of the device over it.
use Rattle.std.specs.Prelude.{ℕ, Bool, IsErr, IsTrue, Result, false, true}
use Rattle.outside.specs.declared.file_store.State.{State, TheVariants.{Absent, Found, Lost, Settled, Unseen}}

-- a store is lost if its opening, its making or a sync of it failed
abbrev pub is_lost : {F : Type 0} → State F → Bool
is_lost Unseen = false
is_lost Absent = false
is_lost Found = false
is_lost (Settled file) = false
is_lost Lost = true

-- how many calls of a device failed, and whether its store is lost
pub record DeviceState : Type 0 where
  pub failed : ℕ
  pub lost : Bool

-- a device that was lost stays so, and its call fails
pub record StaysLost {T E : Type 0} (before now : Bool) (result : Result T E) : Type 0 where
  pub later : IsTrue before → IsErr result
  pub kept : IsTrue before → IsTrue now
