-- A tariff with plain measures: its first fault, and that a text can have its numbers.
use Rattle.std.{specs.{List.{flat_map}, Option.{option_or}}, proofs.lemmas.Bool.{le-ltb}}
use Rattle.std.{specs.Prelude.{min, nat_lt}, proofs.Common.{false, map, refl, subst, suc, sym, true, zero}}
use Rattle.std.proofs.Common.{[], ℕ, ◌*◌, ◌++◌, ◌/◌, ◌^◌, ◌∙◌, ◌∷◌, ◌≡◌, ◌≤◌, All, List, None, Option, Some, ap, arith}
use Rattle.std.proofs.{Math.Nat.{div-le_self}, lemmas.List.Elements.{All-cons, All-head, All-nil, All-tail}}
use Rattle.tariff_tree.specs.{Part.{Part}, Tree.{parts_of}, Writable.{IsWritableEntry, IsWritablePart, greatest}}
use Rattle.tariff_check.specs.{Faults.{fault_if}, Measure.{common_with, gcd_of, lcm_of, measures_of}}
use Rattle.near_commands.specs.Common.{Condition, Distance, Entry, IsWritable, Line, Minute, MonthDay, RateNumbers}
use Rattle.near_commands.specs.Common.{Time, Tree, choices, fault_at, fault_of, faults_of, first_some, measure_of, rate}
use Rattle.near_commands.specs.{Common.{rate_part, rates_of, values_of}, declared.copies.Change.TheVariants.{Plain}}
use Rattle.near_commands.specs.{NearSteps.{changed_tree, plain_rate}, NearTariff.{other_faults, with_rate, with_rates}}
use Rattle.near_commands.proofs.OtherFaults.{alike_after, alike_cells, alike_count, alike_date, alike_duplicate}
use Rattle.near_commands.proofs.OtherFaults.{alike_initial, alike_rate, alike_step, alike_too_many, alike_unknown}
use Rattle.near_commands.proofs.PlainFaults.{Same, copies_alike, same_great, same_zero, told_same}

few : (n : ℕ) → min n 1 ≤ greatest
few n = omega arith

-- only the two measures are others
writable_entry : (x : Entry) → IsWritableEntry x → IsWritableEntry (with_rate plain_rate x)
writable_entry (rate a b c e when) is = at
  where
    at : IsWritableEntry (rate a (min b 1) c (min e 1) when)
    at zero d within = is zero d within
    at (suc zero) d within = is (suc zero) d within
    at (suc (suc zero)) d within = few b
    at (suc (suc (suc zero))) d within = is (suc (suc (suc zero))) d within
    at (suc (suc (suc (suc zero)))) d within = is (suc (suc (suc (suc zero)))) d within
    at (suc (suc (suc (suc (suc zero))))) d within = is (suc (suc (suc (suc (suc zero))))) d within
    at (suc (suc (suc (suc (suc (suc zero)))))) d within = is (suc (suc (suc (suc (suc (suc zero)))))) d within
    at (suc (suc (suc (suc (suc (suc (suc zero))))))) d within = few e
    at (suc (suc (suc (suc (suc (suc (suc (suc k)))))))) d within =
        is (suc (suc (suc (suc (suc (suc (suc (suc k)))))))) d within
writable_entry x is = is

writable_lines : (ls : List Line) → All (λ (l : Line). IsWritableEntry l.entry) ls
    → All (λ (l : Line). IsWritableEntry l.entry) (with_rates plain_rate ls)
writable_lines [] all = all
writable_lines (l ∷ ls) all =
    let P : Line → Type 0 = λ m. IsWritableEntry m.entry in
    All-cons P (record { line = l.line; entry = with_rate plain_rate l.entry }) (with_rates plain_rate ls)
    (writable_entry l.entry (All-head P l ls all)) (writable_lines ls (All-tail P l ls all))

pub plain_writable : (t : Tree) → IsWritable t → IsWritable (changed_tree Plain t)
plain_writable t is = record { decimals = is.decimals; lines = writable_lines t.lines is.lines }

-- the common measure of measures of at most 1 isn't greater than where it begins
common_small : (first : ℕ) (ns : List ℕ) → All (λ n. n ≤ 1) ns → common_with first ns ≤ first
common_small first [] all = omega arith
common_small first (n ∷ ns) all =
    let rest = common_small (lcm_of first n) ns (All-tail (λ n. n ≤ 1) n ns all) in
    omega (
      arith,
      rest,
      joined (first / gcd_of first n) first n (div-le_self first (gcd_of first n))
          (All-head (λ n. n ≤ 1) n ns all),
    )
  where
    joined : (quotient first n : ℕ) → quotient ≤ first → n ≤ 1 → quotient * n ≤ first
    joined quotient first zero below small = omega arith
    joined quotient first (suc zero) below small = omega (arith, below)
    joined quotient first (suc (suc n)) below small = absurd (omega (arith, small))

small : (ls : List Line) → All (λ n. n ≤ 1) (measures_of (with_rates plain_rate ls))
small [] = All-nil (λ n. n ≤ 1)
small (l ∷ ls) = by l.entry (small ls)
  where
    by : (x : Entry) → All (λ n. n ≤ 1) (measures_of (with_rates plain_rate ls))
        → All (λ n. n ≤ 1)
        (measures_of (record { line = l.line; entry = with_rate plain_rate x } ∷ with_rates plain_rate ls))
    by (rate a b c e when) rest =
        let P : ℕ → Type 0 = λ n. n ≤ 1 in
        let more = measures_of (with_rates plain_rate ls) in
        All-cons P (min b 1) (min e 1 ∷ more) (omega arith) (All-cons P (min e 1) more (omega arith) rest)
    by x rest = rest

-- so the first fault of a tariff with plain measures is the first other one of the tariff
pub plain_fault : (t : Tree) → fault_of (changed_tree Plain t) ≡ first_some (other_faults t.lines)
plain_fault t =
    let ls = t.lines in
    let ms = with_rates plain_rate ls in
    let alike = copies_alike plain_rate ls in
    let same = told_same plain_rate in
    let f = plain_rate in
    let measure : nat_lt (10 ^ 18) (measure_of ms) ≡ false =
    le-ltb _ _ (omega (arith, common_small 1 (measures_of ms) (small ls))) in
    rw (
      alike_cells f Same ls ms alike,
      alike_step f Same ls ms alike,
      same _ _ (alike_duplicate f Same ls ms alike),
      same _ _ (alike_too_many f Same ls ms alike),
      same _ _ (alike_unknown f Same ls ms alike),
      alike_rate f Same ls ms alike,
      alike_initial f Same ls ms alike,
      same _ _ (alike_after f Same ls ms alike),
      same _ _ (alike_date f Same ls ms alike),
      same_great ls,
      same_zero ls,
      measure,
      alike_count f Same ls ms alike MonthDay,
      alike_count f Same ls ms alike Minute,
      alike_count f Same ls ms alike Distance,
      alike_count f Same ls ms alike Time,
    ) refl
