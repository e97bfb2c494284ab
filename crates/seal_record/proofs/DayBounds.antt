-- The day numbers of the years 2000 to 2199.
use Rattle.std.proofs.Common.{ℕ, ◌+◌, ◌-◌, ◌<◌, ◌≡◌, ◌≤◌, Bool, arith, false, if◌then◌else◌, inl, inr, pos, refl}
use Rattle.std.proofs.{Common.{slice_index, suc, sum, take, true, zero}, lemmas.{Bool.{cases_lt}, Int.{ints}}}
use Rattle.interval_clock.specs.Calendar.{IsDate, days_of_months, days_of_year, days_of_years, is_date, is_leap_year}
use Rattle.interval_clock.specs.Calendar.{month_lengths, place_in_year}
use Rattle.seal_record.specs.Common.{IsDateOf, at_most, date_test, day_number_of, each}

-- later years begin later
pub years_rise : (year later : ℕ) → year ≤ later → days_of_years year ≤ days_of_years later
unfolding days_of_years
years_rise year zero h = let same : year ≡ zero = omega arith in rw same (omega arith)
years_rise year (suc later) h =
    elim (cases_lt later year) [
      | inl lt ↦ let same : year ≡ suc later = omega arith in rw same (omega arith)
      | inr le ↦ let before = years_rise year later le in omega arith
    ]

-- a year is over when the next one begins
year_ends : (year : ℕ) → days_of_years (suc year) ≡ days_of_years year + days_of_year year
unfolding days_of_years
year_ends year = refl

begins_1970 : days_of_years 1970 ≡ 719528
unfolding days_of_years
begins_1970 = refl

begins_2000 : days_of_years 2000 ≡ 730485
unfolding days_of_years
begins_2000 = refl

ends_2199 : days_of_years 2200 ≡ 803534
unfolding days_of_years
ends_2199 = refl

-- a date lies in its year
place_bound : (leap : Bool) (month date : ℕ) → 1 ≤ month → month ≤ 12 → 1 ≤ date
    → date ≤ slice_index (month_lengths leap) (month - 1)
    → sum (take (month - 1) (month_lengths leap)) + (date - 1) < (if leap then 366 else 365)
place_bound true zero date low high first last = absurd (omega arith)
place_bound true (suc zero) date low high first last = omega arith
place_bound true (suc (suc zero)) date low high first last = omega arith
place_bound true (suc (suc (suc zero))) date low high first last = omega arith
place_bound true (suc (suc (suc (suc zero)))) date low high first last = omega arith
place_bound true (suc (suc (suc (suc (suc zero))))) date low high first last = omega arith
place_bound true (suc (suc (suc (suc (suc (suc zero)))))) date low high first last = omega arith
place_bound true (suc (suc (suc (suc (suc (suc (suc zero))))))) date low high first last = omega arith
place_bound true (suc (suc (suc (suc (suc (suc (suc (suc zero)))))))) date low high first last = omega arith
place_bound true (suc (suc (suc (suc (suc (suc (suc (suc (suc zero))))))))) date low high first last = omega arith
place_bound true (suc (suc (suc (suc (suc (suc (suc (suc (suc (suc zero)))))))))) date low high first last = omega arith
place_bound true
    (suc (suc (suc (suc (suc (suc (suc (suc (suc (suc (suc zero))))))))))) date low high first last = omega arith
place_bound true
    (suc (suc (suc (suc (suc (suc (suc (suc (suc (suc (suc (suc zero)))))))))))) date low high first last = omega arith
place_bound true (suc (suc (suc (suc (suc (suc (suc (suc (suc (suc (suc (suc (suc more))))))))))))) date low high first
    last = absurd (omega arith)
place_bound false zero date low high first last = absurd (omega arith)
place_bound false (suc zero) date low high first last = omega arith
place_bound false (suc (suc zero)) date low high first last = omega arith
place_bound false (suc (suc (suc zero))) date low high first last = omega arith
place_bound false (suc (suc (suc (suc zero)))) date low high first last = omega arith
place_bound false (suc (suc (suc (suc (suc zero))))) date low high first last = omega arith
place_bound false (suc (suc (suc (suc (suc (suc zero)))))) date low high first last = omega arith
place_bound false (suc (suc (suc (suc (suc (suc (suc zero))))))) date low high first last = omega arith
place_bound false (suc (suc (suc (suc (suc (suc (suc (suc zero)))))))) date low high first last = omega arith
place_bound false (suc (suc (suc (suc (suc (suc (suc (suc (suc zero))))))))) date low high first last = omega arith
place_bound false
    (suc (suc (suc (suc (suc (suc (suc (suc (suc (suc zero)))))))))) date low high first last = omega arith
place_bound false
    (suc (suc (suc (suc (suc (suc (suc (suc (suc (suc (suc zero))))))))))) date low high first last = omega arith
place_bound false
    (suc (suc (suc (suc (suc (suc (suc (suc (suc (suc (suc (suc zero)))))))))))) date low high first last = omega arith
place_bound false (suc (suc (suc (suc (suc (suc (suc (suc (suc (suc (suc (suc (suc more))))))))))))) date low high first
    last = absurd (omega arith)

in_year : (year month date : ℕ) → IsDate year month date → place_in_year year month date < days_of_year year
unfolding days_of_months
in_year year month date is = place_bound (is_leap_year year) month date is.0.0 is.0.1 is.1 is.2

-- a date of 2000 to 2199 has a day number of 10,957 to 84,005
pub days_in_range : (year month date : ℕ) → 2000 ≤ year → year ≤ 2199 → is_date year month date ≡ true
    → (10957 ≤ day_number_of year month date) × (day_number_of year month date ≤ 84005)
days_in_range year month date from to is =
    let inside = in_year year month date ((date_test year month date).decides.0 is) in
    let begun = years_rise 2000 year from in
    let over = years_rise (suc year) 2200 (omega arith) in
    let ends = year_ends year in (
      omega (arith, inside, begun, over, ends, begins_1970, begins_2000, ends_2199),
      omega (arith, inside, begun, over, ends, begins_1970, begins_2000, ends_2199),
    )

-- a month has at most 31 days
month_bound : (leap : Bool) (place : ℕ) → place < 12 → slice_index (month_lengths leap) place ≤ 31
month_bound true place lt = (each (λ d. at_most d 31) (month_lengths true)).decides.0 refl place 0 lt
month_bound false place lt = (each (λ d. at_most d 31) (month_lengths false)).decides.0 refl place 0 lt

pub date_bound : (year month date : ℕ) → IsDate year month date → (month ≤ 12) × (date ≤ 31)
date_bound year month date is =
    (is.0.1, omega (arith, is.2, month_bound (is_leap_year year) (month - 1) (omega (arith, is.0))))

-- and a day number of 10,957 to 84,005 is of a date of those years
pub year_in_range : (n year month date : ℕ) → IsDateOf (pos n) year month date → 10957 ≤ n → n ≤ 84005
    → (2000 ≤ year) × (year ≤ 2199)
year_in_range n year month date is from to =
    let inside = in_year year month date (is.month_in, is.date_in.0, is.date_in.1) in
    let ends = year_ends year in
    let count : n + days_of_years 1970 ≡ days_of_years year + place_in_year year month date =
    omega (arith, ints, is.count) in (
      elim (cases_lt year 2000) [
        | inl lt ↦ absurd (omega (
          arith,
          inside,
          ends,
          count,
          begins_1970,
          begins_2000,
          from,
          years_rise (suc year) 2000 (omega (arith, lt)),
        ))
        | inr le ↦ le
      ],
      elim (cases_lt 2199 year) [
        | inl lt ↦ absurd (omega (arith, count, begins_1970, ends_2199, to, years_rise 2200 year (omega (arith, lt))))
        | inr le ↦ le
      ],
    )
