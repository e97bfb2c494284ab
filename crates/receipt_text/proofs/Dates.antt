-- What is written of a date, a day or a local time is read again.
use Rattle.std.{specs.Char.{digit_value}, proofs.lemmas.{Int.{ints}, List.{get_or_past}}}
use Rattle.std.proofs.Common.{ℕ, ℤ, ◌%◌, ◌*◌, ◌++◌, ◌+◌, ◌-◌, ◌/◌, ◌<◌, ◌∙◌, ◌∷◌, ◌≡◌, ◌≤ℤ◌, ◌≤◌, All, Bool, List, Some}
use Rattle.std.proofs.Common.{ap, append_assoc, arith, false, if◌then◌else◌, inl, inr, length, pos, refl, subst, suc}
use Rattle.std.proofs.{Common.{sym, true, unsigned_abs, zero}, lemmas.Bool.{cases_lt, le-leb, le-ltb, lt-ltb}}
use Rattle.taxi_units.specs.{DateTest.{date_test}, Reading.{word_at}, Test.{at_most, each}}
use Rattle.interval_clock.specs.Calendar.{date_after, day_number_of, days_of_month, days_of_year, days_of_years}
use Rattle.interval_clock.specs.Calendar.{is_leap_year, month_lengths, next_date}
use Rattle.interval_clock.proofs.Laws.{IsDateOf-date_after, one_day_number}
use Rattle.receipt_text.specs.Common.{CalendarDate, IsStamp, Stamp, padded_text}
use Rattle.receipt_text.specs.Dates.{date_at, day_at, day_of, stamp_at, time_at}
use Rattle.receipt_text.{specs.Receipts.{date_text, day_text, stamp_text, time_text}, proofs.Again.{padded_again}}

lengths_small : (leap : Bool) → All (λ d. d ≤ 31) (month_lengths leap)
lengths_small true = (each (λ d. at_most d 31) (month_lengths true)).decides.0 refl
lengths_small false = (each (λ d. at_most d 31) (month_lengths false)).decides.0 refl

-- a month has at most 31 days
pub month_small : (year month : ℕ) → days_of_month year month ≤ 31
month_small year month =
    let lengths = month_lengths (is_leap_year year) in
    elim (cases_lt (month - 1) (length lengths)) [
      | inl lt ↦ lengths_small (is_leap_year year) (month - 1) 0 lt
      | inr past ↦ subst (λ (days : ℕ). days ≤ 31) (sym (get_or_past lengths (month - 1) 0 past)) (omega arith)
    ]

-- a date
pub date_again : (year month date c : ℕ) (rest : List ℕ) → year < 10000 → month < 100 → date < 100 → 10 ≤ digit_value c
    → date_at (date_text year month date ++ c ∷ rest)
    ≡ Some (record { year = year; month = month; date = date }, c ∷ rest)
unfolding date_at word_at
date_again year month date c rest hy hm hd stops =
    let text : date_text year month date ++ c ∷ rest
    ≡ padded_text 4 year ++ 45 ∷ (padded_text 2 month ++ 45 ∷ (padded_text 2 date ++ c ∷ rest)) = simp append_assoc in
    ap date_at text ∙ rw (
      padded_again 10000 4 year _ 45 hy (omega arith) (omega arith),
      padded_again 100 2 month _ 45 hm (omega arith) (omega arith),
      padded_again 100 2 date rest c hd (omega arith) stops,
    ) refl

-- a second of the day
time_again : (second c : ℕ) (rest : List ℕ) → second ≤ 86399 → 10 ≤ digit_value c
    → time_at (time_text second ++ c ∷ rest) ≡ Some (second, c ∷ rest)
unfolding time_at word_at
time_again second c rest small stops =
    let hours = second / 3600 in
    let minutes = second / 60 % 60 in
    let seconds = second % 60 in
    let text : time_text second ++ c ∷ rest ≡ padded_text 2 hours ++ 58
    ∷ (padded_text 2 minutes ++ 58 ∷ (padded_text 2 seconds ++ c ∷ rest)) = simp append_assoc in
    let sum : hours * 3600 + minutes * 60 + seconds ≡ second = omega arith in
    ap time_at text ∙ rw (
      padded_again 100 2 hours _ 58 (omega arith) (omega arith) (omega arith),
      padded_again 100 2 minutes _ 58 (omega arith) (omega arith) (omega arith),
      padded_again 100 2 seconds rest c (omega arith) (omega arith) stops,
      sum,
    ) refl

-- a local date and time
pub stamp_again : (stamp : Stamp) (c : ℕ) (rest : List ℕ) → IsStamp stamp → 10 ≤ digit_value c
    → stamp_at (stamp_text stamp ++ c ∷ rest) ≡ Some (stamp, c ∷ rest)
unfolding stamp_at stamp_text word_at
stamp_again stamp c rest is stops =
    let small = month_small stamp.year stamp.month in
    ap stamp_at (append_assoc (date_text stamp.year stamp.month stamp.date) (32 ∷ time_text stamp.second) (c ∷ rest))
    ∙ rw (
      date_again stamp.year stamp.month stamp.date 32 _ (omega (arith, is.year)) (omega (arith, is.date))
          (omega (arith, is.date, small)) (omega arith),
      time_again stamp.second c rest is.second stops,
    ) refl

long : (leap : Bool) → 365 ≤ (if leap then 366 else 365)
long true = omega arith
long false = omega arith

year_long : (year : ℕ) → 365 ≤ days_of_year year
year_long year = long (is_leap_year year)

none : (n : ℕ) → 0 + n ≡ n
none n = omega arith

-- years have at least 365 days
years_long : (year more : ℕ) → days_of_years year + 365 * more ≤ days_of_years (more + year)
unfolding days_of_years
years_long year zero = omega (arith, ap days_of_years (none year))
years_long year (suc more) =
    let next : suc more + year ≡ suc (more + year) = omega arith in
    rw next (omega (arith, years_long year more, year_long (more + year)))

later_year : (d : CalendarDate) → d.year ≤ (next_date d).year
later_year d =
    elim (cases_lt d.date (days_of_month d.year d.month)) [
      | inl lt ↦ rw (lt-ltb d.date (days_of_month d.year d.month) lt) (omega arith)
      | inr ge ↦ elim (cases_lt d.month 12) [
        | inl lt ↦ rw (le-ltb d.date (days_of_month d.year d.month) ge, lt-ltb d.month 12 lt) (omega arith)
        | inr end ↦ rw (le-ltb d.date (days_of_month d.year d.month) ge, le-ltb d.month 12 end) (omega arith)
      ]
    ]

-- a day from 1970 on has a year from 1970 on
year_from : (day : ℕ) → 1970 ≤ (date_after day).year
unfolding date_after
year_from zero = omega arith
year_from (suc day) = omega (arith, year_from day, later_year (date_after day))

-- and a day to 2199 one far below 10000
pub year_below : (day : ℕ) → day ≤ 84005 → (date_after day).year < 10000
year_below day few =
    let is = IsDateOf-date_after day in
    let year = (date_after day).year in
    let from = year_from day in
    let same : year - 1970 + 1970 ≡ year = omega (arith, from) in
    let long = rw same at (years_long 1970 (year - 1970)) in
    grind (arith, ints, is.count, long, few, from)

day_of_again : (day : ℕ) → 10957 ≤ day → day ≤ 84005 → day_of (date_after day) ≡ Some (pos day)
day_of_again day low high =
    let is = IsDateOf-date_after day in
    let d = date_after day in
    let from = year_from day in
    let number : pos day ≡ pos (day_number_of d.year d.month d.date) =
    one_day_number (pos day) d.year d.month d.date from is in
    let number_is : day_number_of d.year d.month d.date ≡ day = cc in
    rw (
      le-leb 1970 d.year from,
      (date_test d.year d.month d.date).decides.1 (is.month_in, is.date_in.0, is.date_in.1),
      number_is,
      le-leb 10957 day low,
      le-leb day 84005 high,
    ) refl

days_again : (day c : ℕ) (rest : List ℕ) → 10957 ≤ day → day ≤ 84005 → 10 ≤ digit_value c
    → day_at (day_text (pos day) ++ c ∷ rest) ≡ Some (pos day, c ∷ rest)
unfolding day_at day_text
days_again day c rest low high stops =
    let is = IsDateOf-date_after day in
    let d = date_after day in
    let small = month_small d.year d.month in
    let a = date_again d.year d.month d.date c rest (year_below day high) (omega (arith, is.month_in))
    (omega (arith, is.date_in, small)) stops in
    rw (a, day_of_again day low high) refl

-- a day
pub day_again : (day : ℤ) (c : ℕ) (rest : List ℕ) → pos 10957 ≤ℤ day → day ≤ℤ pos 84005 → 10 ≤ digit_value c
    → day_at (day_text day ++ c ∷ rest) ≡ Some (day, c ∷ rest)
day_again day c rest low high stops =
    let is : pos (unsigned_abs day) ≡ day = grind (arith, ints, low, high) in
    let from : 10957 ≤ unsigned_abs day = grind (arith, ints, low, high) in
    let to : unsigned_abs day ≤ 84005 = grind (arith, ints, low, high) in
    subst (λ (z : ℤ). day_at (day_text z ++ c ∷ rest) ≡ Some (z, c ∷ rest)) is
    (days_again (unsigned_abs day) c rest from to stops)
