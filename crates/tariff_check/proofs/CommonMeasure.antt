-- The common measure is the least common multiple of all measures.
use Rattle.std.proofs.{Common.{[], ℕ, ◌<◌, ◌∷◌, ◌≡◌, All, List, None, Some, arith, subst}, lemmas.Nat.Gcd.{le_of_dvd}}
use Rattle.std.proofs.Math.Nat.{div-mul_cancel, dvd_refl, dvd_trans, one-dvd}
use Rattle.std.proofs.lemmas.List.Elements.{All-cons, All-head, All-nil, All-tail}
use Rattle.tariff_check.specs.{Common.{Line, NoCommonMeasure, Tree}, Stages.{early_fault, late_fault}}
use Rattle.tariff_check.{specs.Faults.{IsSound, fault_of}, proofs.LeastMultiples.{divides, lcm_divides, lcm_is_least}}
use Rattle.tariff_check.specs.Measure.{IsLeastCommonMultiple, common_with, lcm_of, measures_of}
use Rattle.tariff_check.proofs.FaultStages.{measured_if, no_early_fault, none_if_sound, or_parts, staged}
use Rattle.tariff_check.proofs.MeasureLaws.{IsSome, common_grows, lcm_some, measures_some}
use Prim.Native.Nat.{◌∣◌}

-- the first number, and each further one, divides it
first_divides : (first : ℕ) (ns : List ℕ) → 0 < first → All IsSome ns → first ∣ common_with first ns
first_divides first [] some all = dvd_refl first
first_divides first (n ∷ ns) some all =
    let here = All-head IsSome n ns all in
    let joined = lcm_of first n in
    dvd_trans first (divides joined first (lcm_is_least first n some here).of_first)
    (first_divides joined ns (lcm_some first n some here) (All-tail IsSome n ns all))

each_divides : (first : ℕ) (ns : List ℕ) → 0 < first → All IsSome ns → All (λ (n : ℕ). n ∣ common_with first ns) ns
each_divides first [] some all = All-nil (λ (n : ℕ). n ∣ first)
each_divides first (n ∷ ns) some all =
    let here = All-head IsSome n ns all in
    let rest = All-tail IsSome n ns all in
    let joined = lcm_of first n in
    let above = lcm_some first n some here in
    All-cons (λ (m : ℕ). m ∣ common_with joined ns) n ns
    (dvd_trans n (divides joined n (lcm_is_least first n some here).of_second) (first_divides joined ns above rest))
    (each_divides joined ns above rest)

-- and it divides what they all divide
divides_all : (first : ℕ) (ns : List ℕ) (m : ℕ) → 0 < first → All IsSome ns → first ∣ m → All (λ (n : ℕ). n ∣ m) ns
    → common_with first ns ∣ m
divides_all first [] m some all h each = h
divides_all first (n ∷ ns) m some all h each =
    let here = All-head IsSome n ns all in
    divides_all (lcm_of first n) ns m (lcm_some first n some here) (All-tail IsSome n ns all)
    (lcm_divides first n m some h (All-head (λ (k : ℕ). k ∣ m) n ns each)) (All-tail (λ (k : ℕ). k ∣ m) n ns each)

pub least_of_some : (ns : List ℕ) → All IsSome ns → IsLeastCommonMultiple ns (common_with 1 ns)
least_of_some ns all = record {
  positive = omega (arith, common_grows 1 ns (omega arith) all);
  multiple = λ (k d : ℕ) within. div-mul_cancel _ (each_divides 1 ns (omega arith) all k d within);
  least = λ (n : ℕ) (some : 0 < n) each. le_of_dvd some
      (divides_all 1 ns n (omega arith) all (one-dvd n) (λ (k d : ℕ) within. divides n _ (each k d within)));
}

-- without a fault of lines the measures are above 0
early_measures : (ls : List Line) → early_fault ls ≡ None → All IsSome (measures_of ls)
early_measures ls h = measures_some ls (measured_if ls h)

-- a sound tariff's measures are above 0
pub sound_measures : (t : Tree) → IsSound t → All IsSome (measures_of t.lines)
sound_measures t h = early_measures t.lines
    (or_parts (early_fault t.lines) (late_fault t.lines) (subst (λ o. o ≡ None) (staged t.lines) (none_if_sound t h))).0

-- and those of a tariff whose common measure is refused
pub refused_measures : (t : Tree) → fault_of t ≡ Some NoCommonMeasure → All IsSome (measures_of t.lines)
refused_measures t h = early_measures t.lines (no_early_fault t h)
