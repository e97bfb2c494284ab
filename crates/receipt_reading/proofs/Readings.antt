-- How the reading of a roll goes on, with the files' counts of faults.
use Rattle.std.proofs.Common.{[], ℕ, ◌++◌, ◌+◌, ◌<◌, ◌∙◌, ◌≡◌, ◌≢◌, ◌≤◌, ◌⊎◌, List, None, Option, Some, ap, arith, inl}
use Rattle.{std.proofs.Common.{inr, length, length-append, refl, subst, sym}, outside.specs.Faults.{Rose}}
use Rattle.outside.specs.declared.files.Files.{Ghosts as FileGhosts}
use Rattle.outside.proofs.Laws.{may_rise_not, rises_not, rose_behind}
use Rattle.receipt_reading.{specs.Common.{LeavesOthers, MayRise, RisesOnlyIf, stream_limit}, proofs.Rolls.{starts}}
use Rattle.receipt_reading.specs.{Printed.{Printed}, Reading.{FailsNow, GoesOn, HasBegun, IsReading, Place, ReadsOn}}
use Rattle.receipt_reading.specs.declared.roll.RollEnd.{RollEnd, TheVariants.{ReadFault, TooLong, Whole}}

fault_or_not : (end : Option RollEnd) → (end ≡ Some ReadFault) ⊎ (end ≢ Some ReadFault)
fault_or_not None = inr (λ e. absurd cc)
fault_or_not (Some Whole) = inr (λ e. absurd cc)
fault_or_not (Some TooLong) = inr (λ e. absurd cc)
fault_or_not (Some ReadFault) = inl refl

-- a reader that failed has failed, and takes no more
module _ (old new : Place) (first then now : ℕ) (stays : old.end ≡ Some ReadFault → new.end ≡ Some ReadFault) where
  -- so its count of faults rose before or in this call
  rises_since : RisesOnlyIf (old.end ≡ Some ReadFault) first then → RisesOnlyIf (FailsNow old new) then now
      → RisesOnlyIf (new.end ≡ Some ReadFault) first now
  rises_since before here = elim (fault_or_not old.end) [
    | inl was ↦ record {
      kept = λ no. absurd (no (stays was));
      rose = λ _. subst (λ (n : ℕ). Rose first n) (sym (here.kept (λ fails. fails.1 was))) (before.rose was);
    }
    | inr not ↦ record {
      kept = λ no. here.kept (λ fails. no fails.0) ∙ before.kept not;
      rose = λ yes. rose_behind first then now (before.kept not) (here.rose (yes, not));
    }
  ]

  -- and another count by one at most
  may_since : MayRise (old.end ≡ Some ReadFault) first then → MayRise (FailsNow old new) then now
      → MayRise (new.end ≡ Some ReadFault) first now
  may_since before here = elim (fault_or_not old.end) [
    | inl was ↦ record {
      kept = λ no. absurd (no (stays was));
      most = subst (λ (n : ℕ). (n ≡ first) ⊎ Rose first n) (sym (here.kept (λ fails. fails.1 was))) before.most;
    }
    | inr not ↦ record {
      kept = λ no. here.kept (λ fails. no fails.0) ∙ before.kept not;
      most = subst (λ (n : ℕ). (now ≡ n) ⊎ Rose n now) (before.kept not) here.most;
    }
  ]

module _ {E : Type 0} (F : FileGhosts E) (word : ℕ) where
  -- a call of a reader
  pub reads_on : (now now' : E) (old new : Place) (more : List Printed)
      → (F.tells → GoesOn old new (F.rest now word) (F.rest now' word) more)
      → length more + (length new.ahead + new.left) ≤ length old.ahead + old.left
      → (old.end ≡ Some ReadFault → new.end ≡ Some ReadFault)
      → RisesOnlyIf (FailsNow old new) (F.faults now word) (F.faults now' word) → LeavesOthers F.rest word now now'
      → ((other : ℕ) → MayRise (FailsNow old new) (F.faults now other) (F.faults now' other))
      → ReadsOn F word now now' old new more
  reads_on now now' old new more goes few stays fault others counts first receipts h = record {
    read = λ told. goes told (F.rest first word) receipts (h.read told);
    few = omega (arith, few, h.few, length-append receipts more);
    fault = rises_since old new (F.faults first word) (F.faults now word) (F.faults now' word) stays h.fault fault;
    others = λ other ne. others other ne ∙ h.others other ne;
    counts = λ other. may_since old new (F.faults first other) (F.faults now other) (F.faults now' other) stays
        (h.counts other) (counts other);
  }

  -- a reader that has read nothing
  pub reads_nothing : (files : E) (place : Place) → place.ahead ≡ [] → place.left ≡ stream_limit → place.end ≡ None
      → IsReading F word files files place []
  reads_nothing files place none left going = record {
    read = λ told. starts (F.rest files word) place none left going;
    few = omega (arith, ap length none, left);
    fault = rises_not (λ is. not_fault place.end going is) refl;
    others = λ other ne. refl;
    counts = λ other. may_rise_not refl;
  }
    where
      not_fault : (end : Option RollEnd) → end ≡ None → end ≡ Some ReadFault → ⊥
      not_fault end none_is fault_is = absurd cc

-- a reader has begun by its first reading, unless that failed
pub begins : (left : ℕ) (place : Place) → left ≡ stream_limit → (place.end ≡ None → place.left < left)
    → (place.end ≡ Some TooLong → left ≡ 0) → place.end ≢ Some ReadFault → HasBegun place
begins left place is fewer long not = by place.end refl
  where
    by : (end : Option RollEnd) → place.end ≡ end → HasBegun place
    by None e = inl (omega (arith, fewer e, is))
    by (Some Whole) e = inr e
    by (Some TooLong) e = absurd (omega (arith, long e, is))
    by (Some ReadFault) e = absurd (not e)
