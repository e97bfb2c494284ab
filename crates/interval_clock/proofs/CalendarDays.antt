-- How the days of the calendar follow one another.
use Rattle.std.proofs.Common.{ℕ, ℤ, ◌+ℤ◌, ◌+◌, ◌-◌, ◌<◌, ◌∙◌, ◌≡◌, ◌≤◌, Bool, ap, arith, false, if◌then◌else◌, inl, inr}
use Rattle.std.proofs.Common.{pos, refl, rules, slice_index, subst, suc, sum, sym, take, true, zero}
use Rattle.std.proofs.lemmas.{Bool.{cases_lt, le-ltb, lt-ltb}, List.Sums.{sum_by_more}}
use Rattle.{jiff.proofs.SpanFacts.{signed_arith}, interval_clock.specs.declared.day_numbers.CalendarDate.{CalendarDate}}
use Rattle.interval_clock.specs.Calendar.{IsDateOf, date_after, date_place, days_of_month, days_of_months, days_of_year}
use Rattle.interval_clock.specs.Calendar.{days_of_years, is_leap_year, month_lengths, next_date, place_in_year}

-- a year ends where the next one begins
pub days_of_years-next : (year : ℕ) → days_of_years (year + 1) ≡ days_of_years year + days_of_year year
unfolding days_of_years
days_of_years-next year = let next : year + 1 ≡ suc year = omega arith in rw next refl

-- what holds of the months holds of every month
pub each_month : (P : ℕ → Type 0) → P 1 × P 2 × P 3 × P 4 × P 5 × P 6 × P 7 × P 8 × P 9 × P 10 × P 11 × P 12
    → (month : ℕ) → 1 ≤ month → month ≤ 12 → P month
each_month P p zero low high = absurd (omega arith)
each_month P p (suc zero) low high = p.0
each_month P p (suc (suc zero)) low high = p.1
each_month P p (suc (suc (suc zero))) low high = p.2
each_month P p (suc (suc (suc (suc zero)))) low high = p.3
each_month P p (suc (suc (suc (suc (suc zero))))) low high = p.4
each_month P p (suc (suc (suc (suc (suc (suc zero)))))) low high = p.5
each_month P p (suc (suc (suc (suc (suc (suc (suc zero))))))) low high = p.6
each_month P p (suc (suc (suc (suc (suc (suc (suc (suc zero)))))))) low high = p.7
each_month P p (suc (suc (suc (suc (suc (suc (suc (suc (suc zero))))))))) low high = p.8
each_month P p (suc (suc (suc (suc (suc (suc (suc (suc (suc (suc zero)))))))))) low high = p.9
each_month P p (suc (suc (suc (suc (suc (suc (suc (suc (suc (suc (suc zero))))))))))) low high = p.10
each_month P p (suc (suc (suc (suc (suc (suc (suc (suc (suc (suc (suc (suc zero)))))))))))) low high = p.11
each_month P p (suc (suc (suc (suc (suc (suc (suc (suc (suc (suc (suc (suc (suc more))))))))))))) low high =
    absurd (omega arith)

-- a month ends where the next one begins
pub days_of_months-next : (year month : ℕ) → 1 ≤ month → month ≤ 12
    → days_of_months year month ≡ days_of_months year (month - 1) + days_of_month year month
unfolding days_of_months
days_of_months-next year month first last =
    let next : month ≡ month - 1 + 1 = omega arith in
    ap (λ (n : ℕ). sum (take n (month_lengths (is_leap_year year)))) next
    ∙ sum_by_more (λ (n : ℕ). n) (month_lengths (is_leap_year year)) (month - 1) 0 (omega arith)

year_by_months : (leap : Bool) → sum (month_lengths leap) ≡ (if leap then 366 else 365)
year_by_months true = refl
year_by_months false = refl

-- twelve months are a year
pub days_of_months-all : (year : ℕ) → days_of_months year 12 ≡ days_of_year year
unfolding days_of_months
days_of_months-all year = year_by_months (is_leap_year year)

-- a later year begins after a year
pub days_of_years-later : (year later : ℕ) → year < later → days_of_years year + days_of_year year ≤ days_of_years later
unfolding days_of_years
days_of_years-later year zero after = absurd (omega arith)
days_of_years-later year (suc later) after =
    elim (cases_lt year later) [
      | inl lt ↦ let rest = days_of_years-later year later lt in omega arith
      | inr ge ↦ let same : year ≡ later = omega arith in rw same (omega arith)
    ]

pub days_of_months-none : (year : ℕ) → days_of_months year 0 ≡ 0
unfolding days_of_months
days_of_months-none year = refl

pub days_of_months-suc : (year month : ℕ) → month < 12
    → days_of_months year (suc month) ≡ days_of_months year month + days_of_month year (suc month)
days_of_months-suc year month few =
    let back : suc month - 1 ≡ month = omega arith in
    subst (λ (n : ℕ). days_of_months year (suc month) ≡ days_of_months year n + days_of_month year (suc month)) back
    (days_of_months-next year (suc month) (omega arith) (omega arith))

-- later months go on after earlier ones
pub days_of_months-later : (year months later : ℕ) → months < later → later ≤ 12
    → days_of_months year months + days_of_month year (suc months) ≤ days_of_months year later
days_of_months-later year months zero after most = absurd (omega arith)
days_of_months-later year months (suc later) after most =
    let next = days_of_months-suc year later (omega arith) in
    elim (cases_lt months later) [
      | inl lt ↦ let rest = days_of_months-later year months later lt (omega arith) in omega (arith, next, rest)
      | inr ge ↦
          let same : later ≡ months = omega arith in
          subst (λ (m : ℕ). days_of_months year m + days_of_month year (suc m) ≤ days_of_months year (suc later)) same
          (omega (arith, next))
    ]

-- a date lies in its year
pub place_in_year_bound : (year month date : ℕ) → 1 ≤ month → month ≤ 12 → 1 ≤ date → date ≤ days_of_month year month
    → place_in_year year month date < days_of_year year
place_in_year_bound year month date first last low high =
    let back : suc (month - 1) ≡ month = omega arith in
    let later = rw back at (days_of_months-later year (month - 1) 12 (omega arith) (omega arith)) in
    omega (arith, later, days_of_months-all year)

-- the next date lies in the same month, or begins the next one, or the next year
next_in_month : (d : CalendarDate) → d.date < days_of_month d.year d.month
    → next_date d ≡ record d { date = d.date + 1 }
next_in_month d lt = rw (lt-ltb d.date (days_of_month d.year d.month) lt) refl

next_month : (d : CalendarDate) → days_of_month d.year d.month ≤ d.date → d.month < 12
    → next_date d ≡ record { year = d.year; month = d.month + 1; date = 1 }
next_month d ge lt = rw (le-ltb d.date (days_of_month d.year d.month) ge, lt-ltb d.month 12 lt) refl

next_year : (d : CalendarDate) → days_of_month d.year d.month ≤ d.date → 12 ≤ d.month
    → next_date d ≡ record { year = d.year + 1; month = 1; date = 1 }
next_year d ge end = rw (le-ltb d.date (days_of_month d.year d.month) ge, le-ltb d.month 12 end) refl

-- a month has 28 to 31 days
pub days_of_month_bounds : (year month : ℕ) → 1 ≤ month → month ≤ 12
    → (28 ≤ days_of_month year month) × (days_of_month year month ≤ 31)
days_of_month_bounds year month low high =
    each_month (λ m. (28 ≤ days_of_month year m) × (days_of_month year m ≤ 31)) (search rules) month low high

-- and its day number is one more
in_month : (day : ℤ) (year month date : ℕ) → IsDateOf day year month date → date < days_of_month year month
    → IsDateOf (day +ℤ pos 1) year month (date + 1)
in_month day year month date h lt = record {
  month_in = h.month_in;
  date_in = omega (arith, h.date_in);
  count = omega (arith, signed_arith, h.count, h.date_in);
}

month_after : (day : ℤ) (year month date : ℕ) → IsDateOf day year month date → days_of_month year month ≤ date
    → month < 12 → IsDateOf (day +ℤ pos 1) year (month + 1) 1
month_after day year month date h ge lt =
    let back : month + 1 - 1 ≡ month = omega arith in
    let place : place_in_year year (month + 1) 1 ≡ days_of_months year month = rw back (omega arith) in
    record {
      month_in = omega (arith, h.month_in);
      date_in = omega (arith, days_of_month_bounds year (month + 1) (omega arith) (omega arith));
      count = omega (
        arith,
        signed_arith,
        h.count,
        h.date_in,
        h.month_in,
        place,
        days_of_months-next year month h.month_in.0 h.month_in.1,
      );
    }

year_after : (day : ℤ) (year month date : ℕ) → IsDateOf day year month date → days_of_month year month ≤ date
    → 12 ≤ month → IsDateOf (day +ℤ pos 1) (year + 1) 1 1
unfolding days_of_months
year_after day year month date h ge end =
    let last : month ≡ 12 = omega (arith, h.month_in) in
    let ends : days_of_months year month ≡ days_of_year year = rw last (days_of_months-all year) in
    record {
      month_in = omega arith;
      date_in = omega (arith, days_of_month_bounds (year + 1) 1 (omega arith) (omega arith));
      count = omega (
        arith,
        signed_arith,
        h.count,
        h.date_in,
        ends,
        days_of_months-next year month h.month_in.0 h.month_in.1,
        days_of_years-next year,
      );
    }

-- the day after a date has the next date
pub IsDateOf-next_date : (day : ℤ) (d : CalendarDate) → IsDateOf day d.year d.month d.date
    → IsDateOf (day +ℤ pos 1) (next_date d).year (next_date d).month (next_date d).date
IsDateOf-next_date day d h =
    let Next : CalendarDate → Type 0 = λ next. IsDateOf (day +ℤ pos 1) next.year next.month next.date in
    elim (cases_lt d.date (days_of_month d.year d.month)) [
      | inl lt ↦ subst Next (sym (next_in_month d lt)) (in_month day d.year d.month d.date h lt)
      | inr ge ↦ elim (cases_lt d.month 12) [
        | inl lt ↦ subst Next (sym (next_month d ge lt)) (month_after day d.year d.month d.date h ge lt)
        | inr end ↦ subst Next (sym (next_year d ge end)) (year_after day d.year d.month d.date h ge end)
      ]
    ]

pub IsDateOf-first : IsDateOf (pos 0) 1970 1 1
unfolding days_of_months
IsDateOf-first = record {
  month_in = omega arith;
  date_in = omega (arith, days_of_month_bounds 1970 1 (omega arith) (omega arith));
  count = omega (arith, signed_arith);
}

-- going on from 1970-01-01 gives the date of each day
pub IsDateOf-date_after : (n : ℕ) → IsDateOf (pos n) (date_after n).year (date_after n).month (date_after n).date
unfolding date_after
IsDateOf-date_after zero = IsDateOf-first
IsDateOf-date_after (suc n) =
    let next : pos n +ℤ pos 1 ≡ pos (suc n) = omega (arith, signed_arith) in
    rw next at (IsDateOf-next_date (pos n) (date_after n) (IsDateOf-date_after n))

same_count : (day : ℤ) (year month date year₂ month₂ date₂ : ℕ) → IsDateOf day year month date
    → IsDateOf day year₂ month₂ date₂
    → days_of_years year + place_in_year year month date ≡ days_of_years year₂ + place_in_year year₂ month₂ date₂
same_count day year month date year₂ month₂ date₂ h k = omega (arith, signed_arith, h.count, k.count)

no_later_year : (day : ℤ) (year month date year₂ month₂ date₂ : ℕ) → IsDateOf day year month date
    → IsDateOf day year₂ month₂ date₂ → year₂ ≤ year
no_later_year day year month date year₂ month₂ date₂ h k =
    elim (cases_lt year year₂) [
      | inl lt ↦ absurd (omega (
        arith,
        same_count day year month date year₂ month₂ date₂ h k,
        days_of_years-later year year₂ lt,
        place_in_year_bound year month date h.month_in.0 h.month_in.1 h.date_in.0 h.date_in.1,
      ))
      | inr ge ↦ ge
    ]

no_later_month : (day : ℤ) (year month date month₂ date₂ : ℕ) → IsDateOf day year month date
    → IsDateOf day year month₂ date₂ → month₂ ≤ month
no_later_month day year month date month₂ date₂ h k =
    let back : suc (month - 1) ≡ month = omega (arith, h.month_in) in
    elim (cases_lt month month₂) [
      | inl lt ↦ absurd (omega (
        arith,
        same_count day year month date year month₂ date₂ h k,
        rw back at (days_of_months-later year (month - 1) (month₂ - 1) (omega (arith, h.month_in))
            (omega (arith, k.month_in))),
        h.date_in,
        k.date_in,
      ))
      | inr ge ↦ ge
    ]

abbrev date_is : (year month date : ℕ) → CalendarDate
date_is year month date = record { year = year; month = month; date = date }

same_date : (year month date year₂ month₂ date₂ : ℕ) → year ≡ year₂ → month ≡ month₂ → date ≡ date₂
    → date_is year month date ≡ date_is year₂ month₂ date₂
same_date year month date year₂ month₂ date₂ a b c = cc

-- a day has one date
pub IsDateOf-only : (day : ℤ) (a b : CalendarDate) → IsDateOf day a.year a.month a.date
    → IsDateOf day b.year b.month b.date → a ≡ b
IsDateOf-only day a b h k =
    let year : b.year ≡ a.year = omega (
      arith,
      no_later_year day a.year a.month a.date b.year b.month b.date h k,
      no_later_year day b.year b.month b.date a.year a.month a.date k h,
    ) in
    let k₂ = rw year at k in
    let month : b.month ≡ a.month = omega (
      arith,
      no_later_month day a.year a.month a.date b.month b.date h k₂,
      no_later_month day a.year b.month b.date a.month a.date k₂ h,
    ) in
    let k₃ = rw month at k₂ in
    let date : b.date ≡ a.date =
    omega (arith, same_count day a.year a.month a.date a.year a.month b.date h k₃, h.date_in, k₃.date_in) in
    same_date a.year a.month a.date b.year b.month b.date (sym year) (sym month) (sym date)

-- all leap years have the same months
pub places-leap : (year month date : ℕ) → is_leap_year year ≡ true
    → place_in_year year month date ≡ date_place month date
unfolding days_of_months
places-leap year month date leap = ap (λ (b : Bool). sum (take (month - 1) (month_lengths b)) + (date - 1)) leap

lengths_most : (leap : Bool) (month : ℕ) → 1 ≤ month → month ≤ 12
    → slice_index (month_lengths leap) (month - 1) ≤ slice_index (month_lengths true) (month - 1)
lengths_most true month low high = omega arith
lengths_most false month low high = each_month (λ m. slice_index (month_lengths false) (m - 1)
    ≤ slice_index (month_lengths true) (m - 1)) (search rules) month low high

-- a date has one of the 366 places of a leap year
pub date_place-most : (day : ℤ) (year month date : ℕ) → IsDateOf day year month date → date_place month date ≤ 365
date_place-most day year month date h =
    let most = lengths_most (is_leap_year year) month h.month_in.0 h.month_in.1 in
    let below =
    place_in_year_bound 2000 month date h.month_in.0 h.month_in.1 h.date_in.0 (omega (arith, h.date_in, most)) in
    omega (arith, below, places-leap 2000 month date refl)
