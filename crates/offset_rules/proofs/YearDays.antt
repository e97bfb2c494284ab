-- The days of a year by their months.
use Rattle.{std.specs.List.{list_all}, interval_clock.specs.Calendar.{month_lengths, place_in_year}}
use Rattle.std.proofs.Common.{ℕ, ◌+◌, ◌-◌, ◌<◌, ◌≡◌, ◌≤◌, Bool, List, arith, false, if◌then◌else◌, inl, inr, leb}
use Rattle.std.proofs.Common.{length, refl, slice_index, subst, suc, sum, sym, take, true, zero}
use Rattle.std.proofs.lemmas.{Bool.{cases_lt, leb-true}, Int.{ints}, List.{Folds.{list_all_at}, Sums.{sum_by_more}}}
use Rattle.interval_clock.specs.Calendar.{date_after, days_of_months, days_of_year, days_of_years, is_leap_year}
use Rattle.interval_clock.proofs.Laws.{IsDateOf-date_after, is_date_of_number}
use Rattle.offset_rules.specs.Common.{IsDate, day_number_of, days_of_month}

-- each number of a list is at least so great
each_at_least : (low : ℕ) (xs : List ℕ) → list_all (λ x. leb low x) xs ≡ true → (place : ℕ) → place < length xs
    → low ≤ slice_index xs place
each_at_least low xs all place lt = by (leb low (slice_index xs place)) refl
  where
    by : (b : Bool) → leb low (slice_index xs place) ≡ b → low ≤ slice_index xs place
    by true is = leb-true low (slice_index xs place) is
    by false is = let e = list_all_at (λ (x : ℕ). leb low x) xs place 0 lt is in absurd cc

-- a month has at least 28 days
pub long_month : (year month : ℕ) → 1 ≤ month → month ≤ 12 → 28 ≤ days_of_month year month
long_month year month low high = by (is_leap_year year) month low high
  where
    by : (leap : Bool) (month : ℕ) → 1 ≤ month → month ≤ 12 → 28 ≤ slice_index (month_lengths leap) (month - 1)
    by true month low high = each_at_least 28 (month_lengths true) refl (month - 1) (omega arith)
    by false month low high = each_at_least 28 (month_lengths false) refl (month - 1) (omega arith)

-- a month ends where the next one begins
month_after : (year months : ℕ) → months < 12 → days_of_months year (suc months)
    ≡ days_of_months year months + slice_index (month_lengths (is_leap_year year)) months
unfolding days_of_months
month_after year months lt =
    let next : months + 1 ≡ suc months = omega arith in
    rw next at (sum_by_more (λ (n : ℕ). n) (month_lengths (is_leap_year year)) months 0 (omega arith))

-- and later months after it
pub later_month : (year months later : ℕ) → months < later → later ≤ 12
    → days_of_months year months + slice_index (month_lengths (is_leap_year year)) months ≤ days_of_months year later
later_month year months zero after most = absurd (omega arith)
later_month year months (suc later) after most =
    let next : days_of_months year (suc later) ≡ days_of_months year later
    + slice_index (month_lengths (is_leap_year year)) later = month_after year later (omega arith) in
    elim (cases_lt months later) [
      | inl lt ↦ let rest = later_month year months later lt (omega arith) in omega (arith, rest, next)
      | inr ge ↦ let same : later ≡ months = omega arith in subst (λ (m : ℕ). days_of_months year months
          + slice_index (month_lengths (is_leap_year year)) months ≤ days_of_months year (suc m)) (sym same) (omega (
            arith,
            subst (λ (m : ℕ). days_of_months year (suc m)
                ≡ days_of_months year m + slice_index (month_lengths (is_leap_year year)) m) same next,
          ))
    ]

-- twelve months are a year
whole_year : (year : ℕ) → days_of_months year 12 ≡ days_of_year year
unfolding days_of_months
whole_year year = by (is_leap_year year)
  where
    by : (leap : Bool) → sum (take 12 (month_lengths leap)) ≡ (if leap then 366 else 365)
    by true = refl
    by false = refl

no_months : (year : ℕ) → days_of_months year 0 ≡ 0
unfolding days_of_months
no_months year = refl

-- a date lies in its year
pub within_year : (year month date : ℕ) → IsDate year month date → place_in_year year month date < days_of_year year
within_year year month date is =
    let later = later_month year (month - 1) 12 (omega arith) (omega arith) in
    omega (arith, later, whole_year year)

-- the day number of a date, counted from the year 0 on
count_of : (year month date : ℕ) → 1970 ≤ year → IsDate year month date
    → day_number_of year month date + days_of_years 1970 ≡ days_of_years year + place_in_year year month date
count_of year month date from is = omega (arith, ints, (is_date_of_number year month date from is).count)

-- 1 January is a date
pub first_is_date : (year : ℕ) → IsDate year 1 1
first_is_date year = omega (arith, long_month year 1 (omega arith) (omega arith))

next_year : (year : ℕ) → days_of_years (year + 1) ≡ days_of_years year + days_of_year year
unfolding days_of_years
next_year year = let next : year + 1 ≡ suc year = omega arith in rw next refl

-- the days of a year stand between its first day and that of the next
pub day_in_year : (year month date : ℕ) → 1970 ≤ year → IsDate year month date → (day_number_of year 1 1
    ≤ day_number_of year month date) × (day_number_of year month date < day_number_of (year + 1) 1 1)
day_in_year year month date from is =
    let here = count_of year month date from is in
    let first = count_of year 1 1 from (first_is_date year) in
    let next = count_of (year + 1) 1 1 (omega arith) (first_is_date (year + 1)) in
    omega (
      arith,
      here,
      first,
      next,
      next_year year,
      no_months year,
      no_months (year + 1),
      within_year year month date is,
    )

-- a day of a later month has a greater number
pub later_day : (year month date later other : ℕ) → 1970 ≤ year → IsDate year month date → IsDate year later other
    → month < later → day_number_of year month date < day_number_of year later other
later_day year month date later other from is is_too after =
    let here = count_of year month date from is in
    let there = count_of year later other from is_too in
    let months = later_month year (month - 1) (later - 1) (omega arith) (omega arith) in
    omega (arith, here, there, months)

-- the dates of a month follow one another
pub day_by_day : (year month date : ℕ) → 1970 ≤ year → 1 ≤ month → month ≤ 12 → 1 ≤ date
    → day_number_of year month date + 1 ≡ day_number_of year month 1 + date
day_by_day year month date from low high first =
    let begins = count_of year month 1 from (omega (arith, long_month year month low high)) in
    omega (arith, begins)

-- a day lies in the year of its date
pub in_its_year : (day : ℕ) → 1970 ≤ (date_after day).year
    → (day_number_of (date_after day).year 1 1 ≤ day) × (day < day_number_of ((date_after day).year + 1) 1 1)
in_its_year day from =
    let d = date_after day in
    let is = IsDateOf-date_after day in
    let first = count_of d.year 1 1 from (first_is_date d.year) in
    let next = count_of (d.year + 1) 1 1 (omega arith) (first_is_date (d.year + 1)) in
    omega (
      arith,
      ints,
      is.count,
      first,
      next,
      next_year d.year,
      no_months d.year,
      no_months (d.year + 1),
      within_year d.year d.month d.date (is.month_in, is.date_in.0, is.date_in.1),
    )
