-- How many records a log has whose end is known, and at which place the first of them is held.
use Rattle.std.proofs.Common.{ℕ, ◌+◌, ◌-◌, ◌≡◌, ◌≤◌, Bool, List, arith, false, inl, inr, length, refl, subst, true}
use Rattle.{std.proofs.lemmas.Bool.{cases_lt}, log_commands.specs.LogList.{AreInSlots, EndsWith, StandsFor}}
use Rattle.log_commands.specs.{Filings.{IsTailOf}, Record.{Record}}
use Rattle.log_commands.{specs.Slots.{IsClosed, IsOpen, slot_of}, proofs.CallEnds.{few_records, last_all}}
use Rattle.log_commands.{specs.declared.tail.Tail.{Tail}, proofs.{OneList.{next_open}, OtherSlots.{bounds}}}

module _ (image : List ℕ) (last : ℕ) (is_open : Bool) (records : List Record) (ends : EndsWith image last records)
    (opened : is_open ≡ true → IsOpen image (slot_of (last + 1)))
    (closed : is_open ≡ false → IsClosed image (slot_of (last + 1))) where
  -- if that of the next place is closed, one slot is spare
  pub spare_count : 256 ≤ last → is_open ≡ false → length records ≡ 255
  spare_count many shut = elim (cases_lt (length records) 256) [
    | inl fewer ↦ omega (arith, fewer, (bounds last (length records) ends.count).great many)
    | inr all ↦ absurd (closed shut
        (next_open image last records ends (omega (arith, all, (bounds last (length records) ends.count).most))))
  ]

-- ---- the end that was found

module _ (old new : List ℕ) (in_flight : ℕ → Type 0) (tail : Tail) (records : List Record)
    (stands : StandsFor records old) (same : new ≡ old) (at : IsTailOf new in_flight tail records) where
  -- the log ends with the list at the tail's place
  found_ends : EndsWith new tail.last records
  found_ends = subst (EndsWith new tail.last) (last_all records (few_records records old stands)) at.ready.ends

  -- its first record is held as many places before the next
  found_held : (count first : ℕ) → length records ≡ count → first ≡ tail.last + 1 - count → AreInSlots new first records
  found_held count first is from = subst (λ (place : ℕ). AreInSlots new place records)
      (let e : tail.last + 1 - length records ≡ first = omega (arith, is, from) in e) found_ends.held

  -- so it is held from that place on where the printing begins, and is as long as is counted
  pub found_shown : (count : ℕ) → ((image : List ℕ) (records : List Record) → EndsWith image tail.last records
      → (tail.is_open ≡ true → IsOpen image (slot_of (tail.last + 1)))
      → (tail.is_open ≡ false → IsClosed image (slot_of (tail.last + 1))) → length records ≡ count)
      → AreInSlots new (tail.last + 1 - count) records × (length records ≡ count)
  found_shown count counts =
      let long = counts new records found_ends at.ready.opened at.ready.closed in
      (found_held count (tail.last + 1 - count) long refl, long)
