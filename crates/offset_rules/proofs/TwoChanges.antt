-- The two changes of a year, the earlier one and the later one.
use Rattle.std.proofs.Common.{[], ℕ, ℤ, ◌+◌, ◌<◌, ◌∷◌, ◌≡◌, ◌≢◌, ◌≤◌, Bool, arith, cond, false, inl, inr, leb, ltb}
use Rattle.std.proofs.{Common.{refl, subst, sym, true}, lemmas.Bool.{cases_lt, le-leb, le-ltb, lt-leb, lt-ltb}}
use Rattle.offset_rules.specs.{Changes.{date_of_change, second_of_change}, Summer.{first_second_of, offset_in_year}}
use Rattle.offset_rules.{specs.{Common.{IsOffset}, Pairs.{changes_of_year}}, proofs.Named.{one_each_year}}
use Rattle.offset_rules.{specs.Rule.{Change, IsChange, IsRule, Rule}, proofs.YearDays.{day_in_year, later_day}}

-- a change lies in its year
change_in_year : (year : ℕ) (change : Change) → 1970 ≤ year → IsChange change → (first_second_of year
    ≤ second_of_change year change) × (second_of_change year change < first_second_of (year + 1))
unfolding second_of_change
change_in_year year change from is =
    let day =
    day_in_year year change.month (date_of_change year change) from (one_each_year year change from is).there in
    omega (arith, day, is.minute)

-- a change of a later month comes later
later_change : (year : ℕ) (change later : Change) → 1970 ≤ year → IsChange change → IsChange later
    → change.month < later.month → second_of_change year change < second_of_change year later
unfolding second_of_change
later_change year change later from is is_too after =
    let day = later_day year change.month (date_of_change year change) later.month (date_of_change year later) from
    (one_each_year year change from is).there (one_each_year year later from is_too).there after in
    omega (arith, day, is.minute)

-- summer time begins before it ends in each year, or ends before it begins in each
abbrev pub is_north : Rule → Bool
is_north rule = ltb rule.begin.month rule.end.month

-- the earlier change of a year
abbrev pub earlier_change : Rule → (year : ℕ) → ℕ × ℤ
earlier_change rule year =
    cond (is_north rule) (second_of_change year rule.begin, rule.summer) (second_of_change year rule.end, rule.standard)

-- and the later one
abbrev pub later_one : Rule → (year : ℕ) → ℕ × ℤ
later_one rule year =
    cond (is_north rule) (second_of_change year rule.end, rule.standard) (second_of_change year rule.begin, rule.summer)

-- the two stand in the list of the year, in its bounds; and each gives the offset from its second on, the later one
-- also before the earlier
pub record IsTwo (rule : Rule) (year : ℕ) (earlier later : ℕ × ℤ) : Type 0 where
  pub list : changes_of_year rule year ≡ earlier ∷ later ∷ []
  pub begins : first_second_of year ≤ earlier.0
  pub order : earlier.0 < later.0
  pub ends : later.0 < first_second_of (year + 1)
  pub earlier_is : IsOffset earlier.1
  pub later_is : IsOffset later.1
  pub before : (second : ℕ) → second < earlier.0 → offset_in_year rule year second ≡ later.1
  pub between : (second : ℕ) → earlier.0 ≤ second → second < later.0 → offset_in_year rule year second ≡ earlier.1
  pub after : (second : ℕ) → later.0 ≤ second → offset_in_year rule year second ≡ later.1

two_north : (rule : Rule) (year : ℕ) → IsRule rule → 1970 ≤ year → rule.begin.month < rule.end.month
    → IsTwo rule year (second_of_change year rule.begin, rule.summer) (second_of_change year rule.end, rule.standard)
unfolding changes_of_year
two_north rule year is from lt =
    let b = second_of_change year rule.begin in
    let e = second_of_change year rule.end in
    let order : b < e = later_change year rule.begin rule.end from is.begin is.end lt in
    let first : ltb b e ≡ true = lt-ltb b e order in
    record {
      list = rw first refl;
      begins = (change_in_year year rule.begin from is.begin).0;
      order = order;
      ends = (change_in_year year rule.end from is.end).1;
      earlier_is = is.summer;
      later_is = is.standard;
      before = λ second early. let no_yet : leb b second ≡ false = lt-leb b second early in rw (first, no_yet) refl;
      between = λ second begun lasts. let yes : leb b second ≡ true = le-leb b second begun in
          let still : ltb second e ≡ true = lt-ltb second e lasts in rw (first, yes, still) refl;
      after = λ second ended. let yes : leb b second ≡ true = le-leb b second (omega arith) in
          let over : ltb second e ≡ false = le-ltb second e ended in rw (first, yes, over) refl;
    }

two_south : (rule : Rule) (year : ℕ) → IsRule rule → 1970 ≤ year → rule.end.month < rule.begin.month
    → IsTwo rule year (second_of_change year rule.end, rule.standard) (second_of_change year rule.begin, rule.summer)
unfolding changes_of_year
two_south rule year is from lt =
    let b = second_of_change year rule.begin in
    let e = second_of_change year rule.end in
    let order : e < b = later_change year rule.end rule.begin from is.end is.begin lt in
    let first : ltb b e ≡ false = le-ltb b e (omega arith) in
    record {
      list = rw first refl;
      begins = (change_in_year year rule.end from is.end).0;
      order = order;
      ends = (change_in_year year rule.begin from is.begin).1;
      earlier_is = is.standard;
      later_is = is.summer;
      before = λ second early. let still : ltb second e ≡ true = lt-ltb second e early in rw (first, still) refl;
      between = λ second ended waits. let over : ltb second e ≡ false = le-ltb second e ended in
          let no_yet : leb b second ≡ false = lt-leb b second waits in rw (first, over, no_yet) refl;
      after = λ second begun. let over : ltb second e ≡ false = le-ltb second e (omega arith) in
          let yes : leb b second ≡ true = le-leb b second begun in rw (first, over, yes) refl;
    }

pub two : (rule : Rule) (year : ℕ) → IsRule rule → 1970 ≤ year
    → IsTwo rule year (earlier_change rule year) (later_one rule year)
two rule year is from =
    elim (cases_lt rule.begin.month rule.end.month) [
      | inl lt ↦ let north : ltb rule.begin.month rule.end.month ≡ true = lt-ltb rule.begin.month rule.end.month lt in
          subst (λ (b : Bool). IsTwo rule year
          (cond b (second_of_change year rule.begin, rule.summer) (second_of_change year rule.end, rule.standard))
          (cond b (second_of_change year rule.end, rule.standard) (second_of_change year rule.begin, rule.summer)))
          (sym north) (two_north rule year is from lt)
      | inr ge ↦ let south : ltb rule.begin.month rule.end.month ≡ false = le-ltb rule.begin.month rule.end.month ge in
          let months : rule.begin.month ≢ rule.end.month = is.months in
          subst (λ (b : Bool). IsTwo rule year
          (cond b (second_of_change year rule.begin, rule.summer) (second_of_change year rule.end, rule.standard))
          (cond b (second_of_change year rule.end, rule.standard) (second_of_change year rule.begin, rule.summer)))
          (sym south) (two_south rule year is from (omega arith))
    ]

-- the offset of the later change is that of all years
pub same_later : (rule : Rule) (year other : ℕ) → (later_one rule year).1 ≡ (later_one rule other).1
same_later rule year other =
    by (is_north rule) (second_of_change year rule.begin, rule.summer) (second_of_change year rule.end, rule.standard)
    (second_of_change other rule.begin, rule.summer) (second_of_change other rule.end, rule.standard) refl refl
  where
    by : (north : Bool) (b e b' e' : ℕ × ℤ) → b.1 ≡ b'.1 → e.1 ≡ e'.1
        → (cond {A = ℕ × ℤ} north e b).1 ≡ (cond {A = ℕ × ℤ} north e' b').1
    by true b e b' e' p q = q
    by false b e b' e' p q = p
