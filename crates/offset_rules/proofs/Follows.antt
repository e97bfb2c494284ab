-- The list of a rule has the offsets of the rule.
use Rattle.std.{specs.List.{range_with_len}, proofs.lemmas.Bool.{cases_lt, eq-eqb, le-leb, lt-leb, ne_eqb}}
use Rattle.std.{specs.Prelude.{filter, flat_map}, proofs.Common.{inl, inr, pos, refl, subst, suc, sym, true, zero}}
use Rattle.std.proofs.Common.{ℕ, ℤ, ◌*◌, ◌++◌, ◌+◌, ◌-◌, ◌/◌, ◌<◌, ◌∙◌, ◌∷◌, ◌≡◌, ◌≤◌, ◌⊎◌, List, ap, arith, eqb, false}
use Rattle.interval_clock.specs.{Calendar.{date_after}, Offsets.{offset_from}}
use Rattle.interval_clock.proofs.Laws.{IsDateOf-date_after, IsDateOf-only, is_date_of_number}
use Rattle.offset_rules.specs.{Common.{CalendarDate, day_number_of, first_second, offset_at}, Rule.{IsRule, Rule}}
use Rattle.offset_rules.specs.Pairs.{AreYears, changes_of_year, is_later, pairs_of}
use Rattle.offset_rules.specs.Summer.{first_second_of, offset_by, offset_in_year, year_of}
use Rattle.offset_rules.proofs.{Bounds.{from_the_first, second_in_year, years_in_order}, Listed.{all_years, so_far}}
use Rattle.offset_rules.proofs.{TwoChanges.{earlier_change, later_one, same_later, two}, YearDays.{first_is_date}}

-- the changes of `count` years from `year` on
abbrev pub years : Rule → (year count : ℕ) → List (ℕ × ℤ)
years rule year count = flat_map (changes_of_year rule) (range_with_len year count)

-- the two of the first year stand in front
pub first_year : (rule : Rule) (year count : ℕ) → IsRule rule → 1970 ≤ year
    → years rule year (suc count) ≡ earlier_change rule year ∷ later_one rule year ∷ years rule (year + 1) count
first_year rule year count is from =
    ap (λ (xs : List (ℕ × ℤ)). xs ++ years rule (year + 1) count) (two rule year is from).list

-- a pair that has begun is in force
one_begun : (before : ℤ) (pair : ℕ × ℤ) (pairs : List (ℕ × ℤ)) (second : ℕ) → pair.0 ≤ second
    → offset_from before (pair ∷ pairs) second ≡ offset_from pair.1 pairs second
one_begun before pair pairs second a = rw (le-leb pair.0 second a) refl

-- two pairs of which none has begun, or the first, or both
none_begun : (before : ℤ) (e l : ℕ × ℤ) (rest : List (ℕ × ℤ)) (second : ℕ) → second < e.0 → second < l.0
    → offset_from before (e ∷ l ∷ rest) second ≡ offset_from before rest second
none_begun before e l rest second a b = rw (lt-leb e.0 second a, lt-leb l.0 second b) refl

first_begun : (before : ℤ) (e l : ℕ × ℤ) (rest : List (ℕ × ℤ)) (second : ℕ) → e.0 ≤ second → second < l.0
    → offset_from before (e ∷ l ∷ rest) second ≡ offset_from e.1 rest second
first_begun before e l rest second a b = rw (le-leb e.0 second a, lt-leb l.0 second b) refl

both_begun : (before : ℤ) (e l : ℕ × ℤ) (rest : List (ℕ × ℤ)) (second : ℕ) → l.0 ≤ second
    → offset_from before (e ∷ l ∷ rest) second ≡ offset_from l.1 rest second
both_begun before e l rest second b = rw (le-leb l.0 second b) refl

-- years that have not begun change nothing
untouched : (rule : Rule) → IsRule rule → (count year second : ℕ) (before : ℤ) → 1970 ≤ year
    → second < first_second_of year → offset_from before (years rule year count) second ≡ before
untouched rule is zero year second before from early = refl
untouched rule is (suc count) year second before from early =
    let t = two rule year is from in
    let rest =
    untouched rule is count (year + 1) second before (omega arith) (omega (arith, t.begins, t.order, t.ends)) in
    rw (first_year rule year count is from) (none_begun before (earlier_change rule year) (later_one rule year)
    (years rule (year + 1) count) second (omega (arith, t.begins)) (omega (arith, t.begins, t.order)) ∙ rest)

-- what is in force when a year begins is what the rule says of its seconds before the first change
abbrev pub IsBefore : Rule → (year : ℕ) → (before : ℤ) → Type 0
IsBefore rule year before =
    (second : ℕ) → first_second_of year ≤ second → second < (earlier_change rule year).0
    → before ≡ offset_in_year rule year second

in_the_year : (rule : Rule) → IsRule rule → (count year second : ℕ) (before : ℤ) → 1970 ≤ year
    → IsBefore rule year before → first_second_of year ≤ second → second < first_second_of (year + 1)
    → offset_from before (earlier_change rule year ∷ later_one rule year ∷ years rule (year + 1) count) second
    ≡ offset_in_year rule year second
in_the_year rule is count year second before from fits low high =
    let t = two rule year is from in
    let e = earlier_change rule year in
    let l = later_one rule year in
    let rest = years rule (year + 1) count in
    elim (cases_lt second e.0) [
      | inl early ↦ none_begun before e l rest second early (omega (arith, t.order))
          ∙ (untouched rule is count (year + 1) second before (omega arith) high ∙ fits second low early)
      | inr begun ↦ elim (cases_lt second l.0) [
        | inl lasts ↦ first_begun before e l rest second begun lasts
            ∙ (untouched rule is count (year + 1) second e.1 (omega arith) high ∙ sym (t.between second begun lasts))
        | inr ended ↦ both_begun before e l rest second ended
            ∙ (untouched rule is count (year + 1) second l.1 (omega arith) high ∙ sym (t.after second ended))
      ]
    ]

-- the later change of a year stays in force into the next
stays : (rule : Rule) (year : ℕ) → IsRule rule → 1970 ≤ year → IsBefore rule (year + 1) (later_one rule year).1
stays rule year is from = λ second low early. same_later rule year (year + 1)
    ∙ sym ((two rule (year + 1) is (omega arith)).before second early)

followed : (rule : Rule) → IsRule rule → (count year y second : ℕ) (before : ℤ) → 1970 ≤ year
    → IsBefore rule year before → year ≤ y → y < year + count → first_second_of y ≤ second → second
    < first_second_of (y + 1) → offset_from before (years rule year count) second ≡ offset_in_year rule y second
followed rule is zero year y second before from fits le lt low high = absurd (omega arith)
followed rule is (suc count) year y second before from fits le lt low high =
    rw (first_year rule year count is from) (elim (cases_lt year y) [
      | inl after ↦
          let t = two rule year is from in
          let order = years_in_order (year + 1) y (omega arith) (omega arith) in
          both_begun before (earlier_change rule year) (later_one rule year) (years rule (year + 1) count) second
          (omega (arith, t.ends, order)) ∙ followed rule is count (year + 1) y second (later_one rule year).1
          (omega arith) (stays rule year is from) (omega arith) (omega arith) low high
      | inr same_or_less ↦
          let same : year ≡ y = omega arith in
          subst (λ (z : ℕ). first_second_of z ≤ second → second < first_second_of (z + 1)
          → offset_from before (earlier_change rule year ∷ later_one rule year ∷ years rule (year + 1) count) second
          ≡ offset_in_year rule z second) same (in_the_year rule is count year second before from fits) low high
    ])

-- the year of the first second of a year is that year
year_begins : (year : ℕ) → 1970 ≤ year → year_of (first_second_of year) ≡ year
year_begins year from =
    let day = day_number_of year 1 1 in
    let back : day * 86400 / 86400 ≡ day = omega arith in
    let one : date_after day ≡ record { year = year; month = 1; date = 1 } =
    IsDateOf-only (pos day) (date_after day) (record { year = year; month = 1; date = 1 }) (IsDateOf-date_after day)
    (is_date_of_number year 1 1 from (first_is_date year)) in
    ap (λ (n : ℕ). (date_after n).year) back ∙ ap (λ (d : CalendarDate). d.year) one

-- so the offset at the first second is that of the year
pub begins_with : (rule : Rule) (year : ℕ) → 1970 ≤ year
    → offset_by rule (first_second_of year) ≡ offset_in_year rule year (first_second_of year)
unfolding offset_by
begins_with rule year from = ap (λ (y : ℕ). offset_in_year rule y (first_second_of year)) (year_begins year from)

-- a pair of a later second is kept
kept_later : (pair : ℕ × ℤ) (pairs : List (ℕ × ℤ)) → first_second < pair.0
    → filter is_later (pair ∷ pairs) ≡ pair ∷ filter is_later pairs
kept_later pair pairs lt =
    let other : eqb pair.0 first_second ≡ false = ne_eqb pair.0 first_second (λ e. absurd (omega arith)) in
    rw other refl

-- of later years all changes are kept
pub all_kept : (rule : Rule) → IsRule rule → (count year : ℕ) → 1970 ≤ year → first_second < first_second_of year
    → filter is_later (years rule year count) ≡ years rule year count
all_kept rule is zero year from after = refl
all_kept rule is (suc count) year from after =
    let t = two rule year is from in
    let e = earlier_change rule year in
    let l = later_one rule year in
    let rest = all_kept rule is count (year + 1) (omega arith) (omega (arith, t.begins, t.order, t.ends)) in
    rw (first_year rule year count is from) (kept_later e (l ∷ years rule (year + 1) count) (omega (arith, t.begins))
    ∙ ap (λ (xs : List (ℕ × ℤ)). e ∷ xs) (kept_later l (years rule (year + 1) count) (omega (arith, t.begins, t.order))
    ∙ ap (λ (xs : List (ℕ × ℤ)). l ∷ xs) rest))

-- what is kept of the years that are asked: all, or all but a change at the first second of all
abbrev pub AreLaterChanges : Rule → (from count : ℕ) → List (ℕ × ℤ) → Type 0
AreLaterChanges rule from count kept =
    ((first_second < (earlier_change rule from).0)
    × (kept ≡ earlier_change rule from ∷ later_one rule from ∷ years rule (from + 1) count))
    ⊎ (((earlier_change rule from).0 ≡ first_second) × (kept ≡ later_one rule from ∷ years rule (from + 1) count))

pub kept_is : (rule : Rule) (from count : ℕ) → IsRule rule → 2000 ≤ from
    → AreLaterChanges rule from count (filter is_later (years rule from (suc count)))
kept_is rule from count is low =
    let t = two rule from is (omega arith) in
    let e = earlier_change rule from in
    let l = later_one rule from in
    let start = from_the_first from low in
    let rest = all_kept rule is count (from + 1) (omega arith) (omega (arith, t.begins, t.order, t.ends)) in
    let tail : filter is_later (l ∷ years rule (from + 1) count) ≡ l ∷ years rule (from + 1) count = kept_later l
    (years rule (from + 1) count) (omega (arith, t.begins, t.order)) ∙ ap (λ (xs : List (ℕ × ℤ)). l ∷ xs) rest in
    let list = ap (filter is_later) (first_year rule from count is (omega arith)) in
    elim (cases_lt first_second e.0) [
      | inl after ↦ inl (
        after,
        list ∙ (kept_later e (l ∷ years rule (from + 1) count) after ∙ ap (λ (xs : List (ℕ × ℤ)). e ∷ xs) tail),
      )
      | inr at ↦
          let same : e.0 ≡ first_second = omega (arith, t.begins) in
          let is_first : eqb e.0 first_second ≡ true = eq-eqb e.0 first_second same in
          let dropped : filter is_later (e ∷ l ∷ years rule (from + 1) count)
          ≡ filter is_later (l ∷ years rule (from + 1) count) = rw is_first refl in
          inr (same, list ∙ (dropped ∙ tail))
    ]

-- the list has the offsets of the rule
pub lists_follow : (rule : Rule) (from to second : ℕ) → IsRule rule → AreYears from to → from ≤ year_of second
    → year_of second ≤ to → offset_at (pairs_of rule from to) second ≡ offset_by rule second
unfolding offset_by
lists_follow rule from to second is asked low high =
    let count = to - from in
    let t = two rule from is (omega (arith, asked.first)) in
    let e = earlier_change rule from in
    let l = later_one rule from in
    let start = from_the_first from asked.first in
    let y = year_of second in
    let within = second_in_year second (omega (arith, asked.first)) in
    let order = years_in_order from y (omega (arith, asked.first)) low in
    let o = offset_by rule (first_second_of from) in
    let begin : o ≡ offset_in_year rule from (first_second_of from) =
    begins_with rule from (omega (arith, asked.first)) in
    let whole : pairs_of rule from to ≡ so_far rule from (suc count) =
    all_years rule from to (suc count) (omega (arith, asked.order)) in
    let fits : IsBefore rule from o =
    λ s later early. begin ∙ (t.before (first_second_of from) (omega arith) ∙ sym (t.before s early)) in
    let all : offset_from o (years rule from (suc count)) second ≡ offset_in_year rule y second = followed rule is
    (suc count) from y second o (omega (arith, asked.first)) fits low (omega (arith, asked.order)) within.0 within.1 in
    let list = first_year rule from count is (omega (arith, asked.first)) in
    let same : offset_from o (filter is_later (years rule from (suc count))) second
    ≡ offset_from o (years rule from (suc count)) second = elim (kept_is rule from count is asked.first) [
      | inl kept ↦ ap (λ (xs : List (ℕ × ℤ)). offset_from o xs second) (kept.1 ∙ sym list)
      | inr kept ↦
          let gives : o ≡ e.1 = begin ∙ t.between (first_second_of from) (omega (arith, kept.0, start))
          (omega (arith, t.order, t.begins, start, kept.0)) in
          let shorter : offset_from o (e ∷ l ∷ years rule (from + 1) count) second
          ≡ offset_from e.1 (l ∷ years rule (from + 1) count) second =
          one_begun o e (l ∷ years rule (from + 1) count) second (omega (arith, kept.0, start, order, within.0)) in
          ap (λ (xs : List (ℕ × ℤ)). offset_from o xs second) kept.1
          ∙ (ap (λ (z : ℤ). offset_from z (l ∷ years rule (from + 1) count) second) gives
          ∙ (sym shorter ∙ ap (λ (xs : List (ℕ × ℤ)). offset_from o xs second) (sym list)))
    ] in
    let begun = one_begun (pos 0) (first_second, o) (filter is_later (years rule from (suc count))) second
    (omega (arith, start, order, within.0)) in
    ap (λ (xs : List (ℕ × ℤ)). offset_at xs second) whole ∙ (begun ∙ (same ∙ all))
