-- The dates of changes.
use Rattle.std.{specs.{List.{range_with_len}, Prelude.{◌==◌, filter}}, proofs.lemmas.Bool.Decides.{Decides-eqb}}
use Rattle.std.proofs.Common.{ℕ, ◌%◌, ◌*◌, ◌+◌, ◌-◌, ◌/◌, ◌↔◌, ◌≡◌, ◌≢◌, ◌≤◌, ◌⊎◌, Bool, Decides, arith, false, inl}
use Rattle.std.proofs.{Common.{inr, length, refl, subst, suc, sym, true, zero}, lemmas.Bool.{cases_lt, eq-eqb, ne_eqb}}
use Rattle.offset_rules.specs.Changes.{IsDateOfChange, IsLastInMonth, date_of_change, times_before, weekday_on}
use Rattle.offset_rules.{specs.Common.{day_number_of, days_of_month}, proofs.Places.{count_step, placed, placed_last}}
use Rattle.offset_rules.{specs.Rule.{Change, IsChange}, proofs.YearDays.{day_by_day, long_month}}

-- the weekdays of a month go round by sevens from that of its first date on
pub weekdays_go_round : (year month date : ℕ) → 1970 ≤ year → 1 ≤ month → month ≤ 12 → 1 ≤ date
    → weekday_on year month date ≡ 1 + (day_number_of year month 1 + date + 2) % 7
weekdays_go_round year month date from low high first =
    omega (arith, day_by_day year month date from low high first)

-- how many numbers of a range leave a rest by seven, the first being at most seven
hits_counted_more : (test : ℕ → Bool) (first a n : ℕ) → 1 ≤ first → first ≤ 7 → 1 ≤ a → (b : Bool) → test a ≡ b
    → Decides b ((a + 7) % 7 ≡ first % 7)
    → length (filter test (range_with_len (a + 1) n)) + (a + 1 + 6 - first) / 7 ≡ (a + 1 + n + 6 - first) / 7
    → length (filter test (range_with_len a (suc n))) + (a + 6 - first) / 7 ≡ (a + suc n + 6 - first) / 7
hits_counted_more test first a n low high from true is decides rest =
    let hit = decides.0 refl in
    omega (arith, count_step test a n true is, hit, rest)
hits_counted_more test first a n low high from false is decides rest =
    let miss : (a + 7) % 7 ≢ first % 7 = λ same. let e : false ≡ true = decides.1 same in absurd cc in
    omega (arith, count_step test a n false is, miss, rest)

hits_counted : (test : ℕ → Bool) (first a n : ℕ) → 1 ≤ first → first ≤ 7 → 1 ≤ a
    → ((d : ℕ) → 1 ≤ d → Decides (test d) ((d + 7) % 7 ≡ first % 7))
    → length (filter test (range_with_len a n)) + (a + 6 - first) / 7 ≡ (a + n + 6 - first) / 7
hits_counted test first a zero low high from decides = omega arith
hits_counted test first a (suc n) low high from decides =
    hits_counted_more test first a n low high from (test a) refl (decides a from)
    (hits_counted test first (a + 1) n low high (omega arith) decides)

-- the date of the first week that has a weekday
abbrev first_of : (year month weekday : ℕ) → ℕ
first_of year month weekday = 1 + (7 + weekday - weekday_on year month 1) % 7

-- the weekday comes on the dates that leave the rest of that date by seven
comes_by_sevens : (year month weekday : ℕ) → 1970 ≤ year → 1 ≤ month → month ≤ 12 → 1 ≤ weekday → weekday ≤ 7
    → (date : ℕ) → 1 ≤ date
    → Decides (weekday_on year month date == weekday) ((date + 7) % 7 ≡ first_of year month weekday % 7)
comes_by_sevens year month weekday from low high least most date first =
    let here = weekdays_go_round year month date from low high first in
    let begins = weekdays_go_round year month 1 from low high (omega arith) in
    let is = Decides-eqb (weekday_on year month date) weekday in
    (λ e. let same = is.0 e in omega (arith, here, begins, same), λ same. is.1 (omega (arith, here, begins, same)))

-- how often it comes before a date
times_counted : (year month weekday date : ℕ) → 1970 ≤ year → 1 ≤ month → month ≤ 12 → 1 ≤ weekday → weekday ≤ 7
    → 1 ≤ date → times_before year month weekday date ≡ (date + 6 - first_of year month weekday) / 7
unfolding times_before
times_counted year month weekday date from low high least most first =
    omega (
      arith,
      hits_counted (λ (d : ℕ). weekday_on year month d == weekday) (first_of year month weekday) 1 (date - 1)
          (omega arith) (omega arith) (omega arith) (comes_by_sevens year month weekday from low high least most),
    )

-- a named date is there: the first to the fourth
pub early_date : (year : ℕ) (change : Change) → 1970 ≤ year → IsChange change → change.number ≤ 4
    → IsDateOfChange year change (first_of year change.month change.weekday + 7 * (change.number - 1))
early_date year change from is few =
    let long = long_month year change.month is.month.0 is.month.1 in
    let date = first_of year change.month change.weekday + 7 * (change.number - 1) in
    let sevens = comes_by_sevens year change.month change.weekday from is.month.0 is.month.1 is.weekday.0 is.weekday.1
    date (omega arith) in
    let counted = times_counted year change.month change.weekday date from is.month.0 is.month.1 is.weekday.0
    is.weekday.1 (omega arith) in
    record {
      there = (is.month, omega arith, omega (arith, long, is.number));
      weekday = (Decides-eqb (weekday_on year change.month date) change.weekday).0 (sevens.1 (omega arith));
      named = inl (few, omega (arith, counted, is.number));
    }

-- and the last
pub last_date : (year : ℕ) (change : Change) → 1970 ≤ year → IsChange change → change.number ≡ 5
    → IsDateOfChange year change (days_of_month year change.month
    - (days_of_month year change.month - first_of year change.month change.weekday) % 7)
last_date year change from is five =
    let long = long_month year change.month is.month.0 is.month.1 in
    let days = days_of_month year change.month in
    let first = first_of year change.month change.weekday in
    let date = days - (days - first) % 7 in
    let sevens =
    comes_by_sevens year change.month change.weekday from is.month.0 is.month.1 is.weekday.0 is.weekday.1 in
    record {
      there = (is.month, omega (arith, long), omega arith);
      weekday = (Decides-eqb (weekday_on year change.month date) change.weekday).0
          ((sevens date (omega (arith, long))).1 (omega (arith, long)));
      named = inr (
        five,
        λ later after there same.
            let rest =
            (sevens later (omega (arith, there))).0 (eq-eqb (weekday_on year change.month later) change.weekday same) in
            absurd (omega (arith, rest, there, after, long)),
      );
    }

-- the date that is named is the one found
found_by : (year : ℕ) (change : Change) (date : ℕ) → IsDateOfChange year change date
    → ((change.number ≤ 4) × (times_before year change.month change.weekday date + 1 ≡ change.number))
    ⊎ ((change.number ≡ 5) × IsLastInMonth year change.month change.weekday date) → date_of_change year change ≡ date
unfolding date_of_change times_before
found_by year change date is (inl early) =
    let test = λ (d : ℕ). weekday_on year change.month d == change.weekday in
    let place : change.number - 1 ≡ length (filter test (range_with_len 1 (date - 1))) = omega (arith, early.1) in
    let none : (change.number == 5) ≡ false = ne_eqb change.number 5 (λ e. absurd (omega (arith, early.0, e))) in
    rw (none, place) (placed test 1 (days_of_month year change.month) date (date - 1) (eq-eqb
    (weekday_on year change.month date) change.weekday is.weekday) (omega (arith, is.there)) (omega (arith, is.there)))
found_by year change date is (inr last) =
    let test = λ (d : ℕ). weekday_on year change.month d == change.weekday in
    let five : (change.number == 5) ≡ true = eq-eqb change.number 5 last.0 in
    rw five (placed_last test 1 (days_of_month year change.month) date (date - 1) (eq-eqb
    (weekday_on year change.month date) change.weekday is.weekday) (omega (arith, is.there)) (omega (arith, is.there))
    (λ later after within. ne_eqb (weekday_on year change.month later) change.weekday
    (last.1 later after (is.there.0, omega arith, omega arith))))

pub found : (year : ℕ) (change : Change) (date : ℕ) → IsDateOfChange year change date
    → date_of_change year change ≡ date
found year change date is = found_by year change date is is.named

-- each year has one
pub one_each_year : (year : ℕ) (change : Change) → 1970 ≤ year → IsChange change
    → IsDateOfChange year change (date_of_change year change)
one_each_year year change from is =
    elim (cases_lt change.number 5) [
      | inl lt ↦ let there = early_date year change from is (omega arith) in
          subst (IsDateOfChange year change) (sym (found year change _ there)) there
      | inr ge ↦ let there = last_date year change from is (omega (arith, is.number)) in
          subst (IsDateOfChange year change) (sym (found year change _ there)) there
    ]

pub changes_have_their_date : (year : ℕ) (change : Change) (date : ℕ) → 1970 ≤ year → IsChange change
    → (date_of_change year change ≡ date) ↔ IsDateOfChange year change date
changes_have_their_date year change date from is =
    (λ e. subst (IsDateOfChange year change) e (one_each_year year change from is), found year change date)
