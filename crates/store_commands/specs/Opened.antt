-- For proofs: what an opening of the store leaves. Opening says what an image stands for.
use Rattle.std.specs.Prelude.{ℕ, ◌≡◌, ◌⊎◌}
use Rattle.{outside.specs.declared.files.Files.{Ghosts as FileGhosts}, slot_store.specs.Scan.{IsValidFinding}}
use Rattle.{call_ends.specs.declared.ending.Ended.TheVariants.{NotSealed}, store_commands.specs.Opening.{store_ended}}
use Rattle.store_commands.specs.Common.{Durable, Ended, Ghosts, IsAsFound, IsAsHeld, IsAtRest, IsDurable, IsSeal}
use Rattle.store_commands.specs.Common.{LeavesFromSync, Opening, Place, ReadsOnly, Rose, StoreFault}
use Rattle.totals_record.specs.Reading as totals
use Rattle.meter_store.specs.Stored as states
use Rattle.seal_record.specs.Decoding as seals

-- an opening is sound if its durable state and its seal are in their ranges, if it has them
pub record IsOpeningInRange (opening : Opening) : Type 0 where
  pub totals : IsValidFinding IsDurable opening.totals
  pub seal : IsValidFinding IsSeal opening.seal

-- a command is barred by the store if it ended by a fault of the store, or because the store isn't sealed
abbrev pub IsBarred : Ended → Type 0
IsBarred ended = (ended ≡ NotSealed) ⊎ ((fault : StoreFault) × (ended ≡ store_ended fault))

-- files tell what they hold only if something else is told, too
abbrev pub also_told : {E : Type 0} → FileGhosts E → (told : Type 0) → FileGhosts E
also_told F told = record { tells = F.tells × told; rest = F.rest; faults = F.faults }

module _ {D L : Type 0} {N : ℕ} (B : Ghosts D N L) where
  -- a board is opened if nothing of either pair is in flight, and both pairs are as they were found
  pub record IsOpened (board : D) (opening : Opening) : Type 0 where
    pub totals : IsAsFound totals.reads states.state_number_of 0 (B.image board) (B.in_flight board) opening.totals
    pub seal : IsAsFound seals.reads seals.seal_number_of 1024 (B.image board) (B.in_flight board) opening.seal

  -- a board is opened with a durable state if its pair of totals is settled with the state
  abbrev pub IsOpenedWith : (board : D) → Durable → Type 0
  IsOpenedWith board durable = (place : Place) × states.HoldsState B place board durable

  -- a call only opens the store if it only reads, and a cut from its opening sync on leaves the store as it was. If it
  -- `fails`, the board's count of faults rose. If it doesn't, that count is as it was, nothing is in flight, and no
  -- byte has changed.
  pub record OnlyOpens (fails : Type 0) (old new : D) : Type 0 where
    pub reads : ReadsOnly B old new
    pub synced : B.tells_image → LeavesFromSync B fails old new (IsAsHeld B old)
    pub settled : B.tells_image → ¬ fails → IsAtRest B new
    pub same : ¬ fails → B.image new ≡ B.image old
    pub count : ¬ fails → B.faults new ≡ B.faults old
    pub cause : fails → Rose (B.faults old) (B.faults new)
