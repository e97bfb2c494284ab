-- Rules: the list of offsets that a rule gives for some years.
use Rattle.std.specs.{List.{range_with_len}, Prelude.{if◌then◌else◌, nat_lt, not}}
use Rattle.std.specs.Prelude.{[], ℕ, ℤ, ◌+◌, ◌-◌, ◌==◌, ◌↔◌, ◌∷◌, ◌≡◌, ◌≢◌, ◌≤◌, Bool, Contains, List, filter, flat_map}
use Rattle.{interval_clock.specs.Offsets.{EachPlace, RisesAt}, offset_rules.specs.Summer.{first_second_of, offset_by}}
use Rattle.offset_rules.specs.{Changes.{second_of_change}, Common.{first_second}, Rule.{Rule}}

-- a list may be asked for one to fifteen years, one after another, of 2000 to 2199
pub record AreYears (from to : ℕ) : Type 0 where
  pub first : 2000 ≤ from
  pub order : from ≤ to
  pub last : to ≤ 2199
  pub few : to ≤ from + 14

-- a year has two changes, in order of time, each with the offset that begins there
unfoldable pub changes_of_year : Rule → (year : ℕ) → List (ℕ × ℤ)
changes_of_year rule year =
    let begins = second_of_change year rule.begin in
    let ends = second_of_change year rule.end in
    if nat_lt begins ends then (begins, rule.summer) ∷ (ends, rule.standard) ∷ []
    else (ends, rule.standard) ∷ (begins, rule.summer) ∷ []

-- the years from one to another have the changes of each year, year by year
abbrev pub changes_of_years : Rule → (from to : ℕ) → List (ℕ × ℤ)
changes_of_years rule from to = flat_map (changes_of_year rule) (range_with_len from (to + 1 - from))

-- the test `is_later` is true if a change comes at another second than the meter's first
abbrev pub is_later : ℕ × ℤ → Bool
is_later pair = not (pair.0 == first_second)

-- the pairs of a rule for some years are the meter's first second with the offset at the beginning of the first year,
-- and then the changes of the years, except one at the meter's first second
unfoldable pub pairs_of : Rule → (from to : ℕ) → List (ℕ × ℤ)
pairs_of rule from to =
    (first_second, offset_by rule (first_second_of from)) ∷ filter is_later (changes_of_years rule from to)

-- a pair is a change in some years if its second is the one at which summer time begins or ends in one of them, and
-- its offset is the one that begins there
pub data IsChangeIn (rule : Rule) (from to : ℕ) : ℕ × ℤ → Type 0 where
  begins : (year : ℕ) → from ≤ year → year ≤ to
      → IsChangeIn rule from to (second_of_change year rule.begin, rule.summer)
  ends : (year : ℕ) → from ≤ year → year ≤ to
      → IsChangeIn rule from to (second_of_change year rule.end, rule.standard)

-- a list of pairs is that of a rule for some years if it begins with the meter's first second and the offset at the
-- beginning of the first year, then has exactly the changes of the years at other seconds, and its seconds rise
pub record IsListOf (rule : Rule) (from to : ℕ) (pairs : List (ℕ × ℤ)) : Type 0 where
  pub later : List (ℕ × ℤ)
  pub pairs_are : pairs ≡ (first_second, offset_by rule (first_second_of from)) ∷ later
  pub changes : (pair : ℕ × ℤ) → Contains later pair ↔ (IsChangeIn rule from to pair × (pair.0 ≢ first_second))
  pub in_order : EachPlace pairs (RisesAt pairs)
