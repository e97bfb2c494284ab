-- The first fault of a tariff with plain measures is the first one, but for NoCommonMeasure, of the tariff.
use Rattle.std.{specs.List.{flat_map, list_any}, proofs.Common.{false, map, refl, suc, sym, true, zero}}
use Rattle.std.{specs.Prelude.{⊤, All, is_none, min, nat_lt, not}, proofs.lemmas.Bool.{ne_eqb}}
use Rattle.std.proofs.Common.{[], ℕ, ◌++◌, ◌==◌, ◌^◌, ◌||◌, ◌∙◌, ◌∷◌, ◌≡◌, Bool, List, None, Option, Some, ap, arith}
use Rattle.tariff_check.specs.Faults.{default_faults, fault_if, faults_from_cuts, line_faults, number_faults}
use Rattle.tariff_check.specs.{Faults.{step_faults}, Kinds.{is_great}, Measure.{common_with}}
use Rattle.tariff_check.specs.Lines.{has_great_amount, has_measure_zero, is_after_nothing, is_for_nothing}
use Rattle.near_commands.specs.Common.{Entry, Line, RateNumbers, Tree, atoms_in, fault_at, faults_of, first_line}
use Rattle.near_commands.{specs.Common.{first_some, measure_of, rate, rate_part}, proofs.AlikeEntries.{atoms_same}}
use Rattle.near_commands.specs.{NearSteps.{plain_rate}, NearTariff.{other_faults, with_rate, with_rates}}
use Rattle.near_commands.proofs.AlikeLines.{AreAlike, AreTold, first_alike}
use Rattle.near_commands.proofs.OtherFaults.{alike_after, alike_cells, alike_count, alike_date, alike_duplicate}
use Rattle.near_commands.proofs.OtherFaults.{alike_initial, alike_rate, alike_step, alike_too_many, alike_unknown}

abbrev pub Same : ℕ → ℕ → Type 0
Same x y = x ≡ y

-- a copy with other rates is alike, with the same numbers of lines
pub copies_alike : (f : RateNumbers → RateNumbers) (ls : List Line) → AreAlike f Same ls (with_rates f ls)
copies_alike f [] = tt
copies_alike f (l ∷ ls) = (refl, refl, copies_alike f ls)

-- so what is told of both is the same
pub told_same : (f : RateNumbers → RateNumbers) (x y : Option ℕ) → AreTold f Same x y → y ≡ x
told_same f None None told = refl
told_same f None (Some y) told = absurd told
told_same f (Some x) None told = absurd told
told_same f (Some x) (Some y) told = ap Some (sym told)

great_same : (x : Entry) → is_great (with_rate plain_rate x) ≡ is_great x
great_same (rate a b c e when) = refl
great_same x = refl

zero_same : (n : ℕ) → (min n 1 == 0) ≡ (n == 0)
zero_same zero = refl
zero_same (suc n) =
    ne_eqb (min (suc n) 1) 0 (λ e. absurd (omega (arith, e))) ∙ sym (ne_eqb (suc n) 0 (λ e. absurd (omega (arith, e))))

nothing_same : (x : Entry) → is_for_nothing (with_rate plain_rate x) ≡ is_for_nothing x
nothing_same (rate a b c e when) = rw (zero_same b, zero_same e) refl
nothing_same x = refl

pub same_great : (ls : List Line)
    → first_line has_great_amount (with_rates plain_rate ls) ≡ first_line has_great_amount ls
same_great ls =
    told_same plain_rate _ _ (first_alike plain_rate Same has_great_amount has_great_amount
    (λ before before' sofar x. great_same x) [] [] ls (with_rates plain_rate ls) tt (copies_alike plain_rate ls))

pub same_zero : (ls : List Line)
    → first_line has_measure_zero (with_rates plain_rate ls) ≡ first_line has_measure_zero ls
same_zero ls =
    told_same plain_rate _ _ (first_alike plain_rate Same has_measure_zero has_measure_zero
    (λ before before' sofar x. rw (nothing_same x, atoms_same plain_rate x) refl)
    [] [] ls (with_rates plain_rate ls) tt (copies_alike plain_rate ls))
