-- Rules: receipts and their entries, and what of a list of acts is committed.
use Rattle.std.specs.Prelude.{[], ℕ, ◌+◌, ◌∷◌, ◌≡◌, List, None, Option, Some}
use Rattle.{taxi_units.specs.declared.receipt.Kind.{Kind}, totals_record.specs.declared.change.Change.{Change}}
use Rattle.meter_states.specs.Common.{Act, Enter, Entry, Hold, Receipt, Roam}
use Rattle.taxi_units.specs.declared.receipt.Receipt as receipts
use Rattle.totals_record.specs.declared.change.Change.TheVariants as changes

-- a receipt is that of an entry if it has the entry's kind, position, distance, fare and supplements
pub record IsReceiptOf (entry : Entry) (receipt : receipts.Receipt) : Type 0 where
  pub kind : receipt.kind ≡ entry.kind
  pub position : receipt.position ≡ entry.position
  pub hired : receipt.hired_mm ≡ entry.hired_mm
  pub fare : receipt.fare ≡ entry.fare
  pub supplements : receipt.supplements ≡ entry.supplements

-- an entry of a kind waits for its receipt if it is one of a hiring
abbrev pub waiting_after : Kind → Entry → Option Entry
waiting_after Roam entry = None
waiting_after kind entry = Some entry

-- acts are paired if each entry of a hiring stands directly before its receipt, and each receipt directly behind its
-- entry, with the number that the store has then; `number` is the store's before the acts, and `waiting` is the entry
-- directly before them whose receipt is still to come
abbrev pub ArePaired : (number : ℕ) → (waiting : Option Entry) → List Act → Type 0
ArePaired number None [] = Unit {0}
ArePaired number None (Enter entry ∷ acts) = ArePaired (number + 1) (waiting_after entry.kind entry) acts
ArePaired number None (Hold trip ∷ acts) = ArePaired (number + 1) None acts
ArePaired number None (Receipt receipt ∷ acts) = ⊥
ArePaired number None (act ∷ acts) = ArePaired number None acts
ArePaired number (Some entry) (Receipt receipt ∷ acts) =
    (IsReceiptOf entry receipt × (receipt.number ≡ number)) × ArePaired number None acts
ArePaired number (Some entry) acts = ⊥

-- the commits of acts are their entries and held trips, in order
abbrev pub commits_of : List Act → List Change
commits_of [] = []
commits_of (Enter entry ∷ acts) = changes.Enter entry ∷ commits_of acts
commits_of (Hold trip ∷ acts) = changes.Hold trip ∷ commits_of acts
commits_of (act ∷ acts) = commits_of acts
