-- The list of a rule is a list of offsets.
use Rattle.std.{specs.Prelude.{⊤, filter}, proofs.Common.{length, refl, subst, suc, sym, true, zero}}
use Rattle.std.proofs.Common.{[], ℕ, ℤ, ◌*◌, ◌+◌, ◌-◌, ◌<◌, ◌∷◌, ◌≡◌, ◌≤◌, Bool, List, ap, arith, cond, false, inl, inr}
use Rattle.{taxi_units.specs.Time.{last_second}, offset_rules.specs.Common.{IsOffset, IsOffsetList, first_second}}
use Rattle.interval_clock.specs.Offsets.{EachPlace, IsInRangeAt, RisesAt, second_at}
use Rattle.offset_rules.specs.{Changes.{second_of_change}, Summer.{first_second_of, is_summer, offset_by, year_of}}
use Rattle.offset_rules.{specs.Pairs.{AreYears, is_later, pairs_of}, proofs.TwoChanges.{earlier_change, later_one, two}}
use Rattle.offset_rules.{specs.Rule.{IsRule, Rule}, proofs.Bounds.{to_the_last}}
use Rattle.offset_rules.proofs.{Follows.{AreLaterChanges, first_year, kept_is, years}, Listed.{all_years, so_far}}

-- pairs rise from a second on, in range
abbrev Rise : ℕ → List (ℕ × ℤ) → Type 0
Rise low [] = ⊤
Rise low (pair ∷ pairs) = (low < pair.0) × (pair.0 ≤ last_second) × IsOffset pair.1 × Rise pair.0 pairs

rise_step : (pair : ℕ × ℤ) (pairs : List (ℕ × ℤ)) (place : ℕ) → Rise pair.0 pairs → suc place < length (pair ∷ pairs)
    → second_at (pair ∷ pairs) place < second_at (pair ∷ pairs) (suc place)
rise_step pair [] place rise lt = absurd (omega arith)
rise_step pair (next ∷ pairs) zero rise lt = rise.0
rise_step pair (next ∷ pairs) (suc place) rise lt = rise_step next pairs place rise.3 (omega arith)

rises : (pair : ℕ × ℤ) (pairs : List (ℕ × ℤ)) → Rise pair.0 pairs → EachPlace (pair ∷ pairs) (RisesAt (pair ∷ pairs))
rises pair pairs rise zero lt some = absurd (omega arith)
rises pair pairs rise (suc place) lt some =
    let back : suc place - 1 ≡ place = omega arith in
    rw back (rise_step pair pairs place rise lt)

in_range : (pair : ℕ × ℤ) (pairs : List (ℕ × ℤ)) → first_second ≤ pair.0 → pair.0 ≤ last_second → IsOffset pair.1
    → Rise pair.0 pairs → EachPlace (pair ∷ pairs) (IsInRangeAt (pair ∷ pairs))
in_range pair pairs low high offset rise zero lt = ((low, high), offset)
in_range pair [] low high offset rise (suc place) lt = absurd (omega arith)
in_range pair (next ∷ pairs) low high offset rise (suc place) lt =
    in_range next pairs (omega (arith, rise.0)) rise.1 rise.2 rise.3 place (omega arith)

-- the changes of years rise
years_rise : (rule : Rule) → IsRule rule → (count year low : ℕ) → 1970 ≤ year → low < first_second_of year
    → year + count ≤ 2200 → Rise low (years rule year count)
years_rise rule is zero year low from before most = tt
years_rise rule is (suc count) year low from before most =
    let t = two rule year is from in
    let last = to_the_last year from (omega arith) in
    rw (first_year rule year count is from) (
      omega (arith, t.begins),
      omega (arith, t.order, t.ends, last),
      t.earlier_is,
      (
        t.order,
        omega (arith, t.ends, last),
        t.later_is,
        years_rise rule is count (year + 1) (later_one rule year).0 (omega arith) t.ends (omega arith),
      ),
    )

-- a year has two
years_are_long : (rule : Rule) → IsRule rule → (count year : ℕ) → 1970 ≤ year
    → length (years rule year count) ≡ 2 * count
years_are_long rule is zero year from = refl
years_are_long rule is (suc count) year from =
    let rest = years_are_long rule is count (year + 1) (omega arith) in
    let more = ap (length {A = ℕ × ℤ}) (first_year rule year count is from) in
    omega (arith, rest, more)

-- what is kept rises, and is no longer
record IsGood (count : ℕ) (kept : List (ℕ × ℤ)) : Type 0 where
  rise : Rise first_second kept
  few : length kept ≤ 2 * count + 2

kept_is_good : (rule : Rule) (from count : ℕ) (kept : List (ℕ × ℤ)) → IsRule rule → 2000 ≤ from
    → from + suc count ≤ 2200 → AreLaterChanges rule from count kept → IsGood count kept
kept_is_good rule from count kept is low most (inl all) =
    let t = two rule from is (omega arith) in
    let last = to_the_last from (omega arith) (omega arith) in
    let rest = years_rise rule is count (from + 1) (later_one rule from).0 (omega arith) t.ends (omega arith) in
    let long = years_are_long rule is count (from + 1) (omega arith) in
    let good : IsGood count (earlier_change rule from ∷ later_one rule from ∷ years rule (from + 1) count) = record {
      rise = (
        all.0,
        omega (arith, t.order, t.ends, last),
        t.earlier_is,
        (t.order, omega (arith, t.ends, last), t.later_is, rest),
      );
      few = omega (arith, long);
    } in
    subst (IsGood count) (sym all.1) good
kept_is_good rule from count kept is low most (inr one) =
    let t = two rule from is (omega arith) in
    let last = to_the_last from (omega arith) (omega arith) in
    let rest = years_rise rule is count (from + 1) (later_one rule from).0 (omega arith) t.ends (omega arith) in
    let long = years_are_long rule is count (from + 1) (omega arith) in
    let good : IsGood count (later_one rule from ∷ years rule (from + 1) count) = record {
      rise = (omega (arith, t.order, one.0), omega (arith, t.ends, last), t.later_is, rest);
      few = omega (arith, long);
    } in
    subst (IsGood count) (sym one.1) good

-- the offset of a rule is in its range
pub offset_in_range : (rule : Rule) (second : ℕ) → IsRule rule → IsOffset (offset_by rule second)
unfolding offset_by
offset_in_range rule second is =
    by (is_summer (second_of_change (year_of second) rule.begin) (second_of_change (year_of second) rule.end) second)
  where
    by : (summer : Bool) → IsOffset (cond summer rule.summer rule.standard)
    by true = is.summer
    by false = is.standard

-- the list is one of offsets, and has at most 31 pairs
pub record IsLawful (pairs : List (ℕ × ℤ)) : Type 0 where
  pub list : IsOffsetList pairs
  pub few : length pairs ≤ 31

pub lists_are_lawful : (rule : Rule) (from to : ℕ) → IsRule rule → AreYears from to → IsLawful (pairs_of rule from to)
lists_are_lawful rule from to is asked =
    let count = to - from in
    let whole : pairs_of rule from to ≡ so_far rule from (suc count) =
    all_years rule from to (suc count) (omega (arith, asked.order)) in
    let kept = filter is_later (years rule from (suc count)) in
    let good = kept_is_good rule from count kept is asked.first (omega (arith, asked.order, asked.last))
    (kept_is rule from count is asked.first) in
    let first : ℕ × ℤ = (first_second, offset_by rule (first_second_of from)) in
    let o = offset_in_range rule (first_second_of from) is in
    let lawful : IsLawful (first ∷ kept) = record {
      list = record {
        some = omega arith;
        few = omega (arith, good.few, asked.few);
        start = refl;
        in_range = in_range first kept (omega arith) (omega arith) o good.rise;
        rising = rises first kept good.rise;
      };
      few = omega (arith, good.few, asked.few);
    } in
    subst IsLawful (sym whole) lawful
