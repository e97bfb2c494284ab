-- What acts leave of the durable state.
use Rattle.{std.specs.Option.{ForSome}, totals_record.proofs.Laws.{entries_keep_the_ranges, held_trips_keep_the_ranges}}
use Rattle.std.{specs.Prelude.{if◌then◌else◌}, proofs.{Common.{subst, true}, lemmas.List.Elements.{All-head, All-tail}}}
use Rattle.std.proofs.Common.{[], ℕ, ◌++◌, ◌+◌, ◌∷◌, ◌≡◌, ◌≤◌, All, Bool, List, None, Option, Some, arith, false, refl}
use Rattle.totals_record.specs.{Entries.{closes}, declared.trip.Trip.{Trip}}
use Rattle.{meter_states.specs.Acts.{IsEntryBeside, IsHoldBeside}, meter_run.specs.Common.{TableParts, after}}
use Rattle.meter_run.specs.Commits.{AreFor, after_act, after_acts, commits_in}
use Rattle.meter_run.specs.Common.{Act, Durable, Enter, Fits, Hold, IsDurable, IsLawfulAct, Receipt, Refuse, Show}
use Rattle.totals_record.specs.declared.change.Change.TheVariants as changes

pub after_append : (d : Durable) (xs ys : List Act) → after_acts d (xs ++ ys) ≡ after_acts (after_acts d xs) ys
after_append d [] ys = refl
after_append d (x ∷ xs) ys = after_append (after_act d x) xs ys

pub commits_append : (xs ys : List Act) → commits_in (xs ++ ys) ≡ commits_in xs + commits_in ys
commits_append [] ys = omega arith
commits_append (Show display ∷ xs) ys = commits_append xs ys
commits_append (Refuse why ∷ xs) ys = commits_append xs ys
commits_append (Enter entry ∷ xs) ys = omega (arith, commits_append xs ys)
commits_append (Hold trip ∷ xs) ys = omega (arith, commits_append xs ys)
commits_append (Receipt receipt ∷ xs) ys = commits_append xs ys

-- ---- acts that the core gives may be carried out, one after the other
module _ (tables : TableParts) where
  -- without a commit
  are_for_none : (n : ℕ) (d : Durable) (acts : List Act) → commits_in acts ≡ 0 → All (IsLawfulAct tables n) acts
      → AreFor d acts
  are_for_none n d [] none lawful = tt
  are_for_none n d (Show display ∷ acts) none lawful = (
    All-head (IsLawfulAct tables n) (Show display) acts lawful,
    are_for_none n d acts none (All-tail (IsLawfulAct tables n) (Show display) acts lawful),
  )
  are_for_none n d (Refuse why ∷ acts) none lawful =
      (tt, are_for_none n d acts none (All-tail (IsLawfulAct tables n) (Refuse why) acts lawful))
  are_for_none n d (Enter entry ∷ acts) none lawful = absurd cc
  are_for_none n d (Hold trip ∷ acts) none lawful = absurd cc
  are_for_none n d (Receipt receipt ∷ acts) none lawful =
      (tt, are_for_none n d acts none (All-tail (IsLawfulAct tables n) (Receipt receipt) acts lawful))

  -- with one
  pub are_for : (d : Durable) (acts : List Act) → IsDurable d → commits_in acts ≤ 1
      → All (IsLawfulAct tables d.number) acts → AreFor d acts
  are_for d [] range few lawful = tt
  are_for d (Show display ∷ acts) range few lawful = (
    All-head (IsLawfulAct tables d.number) (Show display) acts lawful,
    are_for d acts range few (All-tail (IsLawfulAct tables d.number) (Show display) acts lawful),
  )
  are_for d (Refuse why ∷ acts) range few lawful =
      (tt, are_for d acts range few (All-tail (IsLawfulAct tables d.number) (Refuse why) acts lawful))
  are_for d (Enter entry ∷ acts) range few lawful =
      let here : IsEntryBeside d.number entry = All-head (IsLawfulAct tables d.number) (Enter entry) acts lawful in
      let none : commits_in acts ≡ 0 = omega (arith, few) in (
        entries_keep_the_ranges d entry range here.room here.range (λ roams holds. here.roaming roams),
        are_for_none d.number (after d (changes.Enter entry)) acts none
            (All-tail (IsLawfulAct tables d.number) (Enter entry) acts lawful),
      )
  are_for d (Hold trip ∷ acts) range few lawful =
      let here : IsHoldBeside tables d.number trip = All-head (IsLawfulAct tables d.number) (Hold trip) acts lawful in
      let none : commits_in acts ≡ 0 = omega (arith, few) in (
        held_trips_keep_the_ranges d trip range here.room here.range,
        are_for_none d.number (after d (changes.Hold trip)) acts none
            (All-tail (IsLawfulAct tables d.number) (Hold trip) acts lawful),
      )
  are_for d (Receipt receipt ∷ acts) range few lawful =
      (tt, are_for d acts range few (All-tail (IsLawfulAct tables d.number) (Receipt receipt) acts lawful))

  -- a held trip fits after them
  cleared : (closing : Bool) (hold : Option Trip) → ForSome hold (Fits tables)
      → ForSome (if closing then None else hold) (Fits tables)
  cleared true hold fits = λ trip is. absurd cc
  cleared false hold fits = fits

  pub fits_after : (n : ℕ) (d : Durable) (acts : List Act) → ForSome d.hold (Fits tables)
      → All (IsLawfulAct tables n) acts → ForSome (after_acts d acts).hold (Fits tables)
  fits_after n d [] fits lawful = fits
  fits_after n d (Show display ∷ acts) fits lawful =
      fits_after n d acts fits (All-tail (IsLawfulAct tables n) (Show display) acts lawful)
  fits_after n d (Refuse why ∷ acts) fits lawful =
      fits_after n d acts fits (All-tail (IsLawfulAct tables n) (Refuse why) acts lawful)
  fits_after n d (Enter entry ∷ acts) fits lawful = fits_after n (after d (changes.Enter entry)) acts
      (cleared (closes entry) d.hold fits) (All-tail (IsLawfulAct tables n) (Enter entry) acts lawful)
  fits_after n d (Hold trip ∷ acts) fits lawful =
      let here : IsHoldBeside tables n trip = All-head (IsLawfulAct tables n) (Hold trip) acts lawful in
      let held : ForSome (Some trip) (Fits tables) =
      λ other is. subst (Fits tables) (some_same trip other is) here.fits in
      fits_after n (after d (changes.Hold trip)) acts held (All-tail (IsLawfulAct tables n) (Hold trip) acts lawful)
    where
      some_same : (a b : Trip) → Some a ≡ Some b → a ≡ b
      some_same a b is = cc
  fits_after n d (Receipt receipt ∷ acts) fits lawful =
      fits_after n d acts fits (All-tail (IsLawfulAct tables n) (Receipt receipt) acts lawful)

-- the state after them is in its ranges
pub range_after : (d : Durable) (acts : List Act) → IsDurable d → AreFor d acts → IsDurable (after_acts d acts)
range_after d [] range are = range
range_after d (Show display ∷ acts) range are = range_after d acts range are.1
range_after d (Refuse why ∷ acts) range are = range_after d acts range are.1
range_after d (Enter entry ∷ acts) range are = range_after (after d (changes.Enter entry)) acts are.0 are.1
range_after d (Hold trip ∷ acts) range are = range_after (after d (changes.Hold trip)) acts are.0 are.1
range_after d (Receipt receipt ∷ acts) range are = range_after d acts range are.1
