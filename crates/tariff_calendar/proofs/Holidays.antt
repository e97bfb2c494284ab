-- Holidays by their day numbers.
use Rattle.{std.specs.{List.{All, list_any}, Ordering.{int_eq}}, taxi_units.specs.DateTest.{date_test}}
use Rattle.std.proofs.Common.{[], ℕ, ℤ, ◌<ℤ◌, ◌∙◌, ◌∷◌, ◌≡◌, Bool, List, ap, arith, false, length, ltb, map, pos, refl}
use Rattle.std.proofs.{Common.{subst, true}, lemmas.{Bool.Decides.{Decides-int_eq, same_from_decides}, Int.{ints}}}
use Rattle.std.proofs.lemmas.{Bool.{false_from_ne_true, lt-ltb}, List.Elements.{All-head, All-tail}}
use Rattle.taxi_units.specs.Test.{◌&◌, Test, same}
use Rattle.interval_clock.specs.{Calendar.{IsDateOf}, declared.day_numbers.CalendarDate.{CalendarDate}}
use Rattle.{interval_clock.proofs.Laws.{IsDateOf-only, is_date_of_number}, tariff_check.specs.Parts.{DateNumbers}}
use Rattle.tariff_check.{specs.Sound.{IsSoundHoliday}, proofs.Laws.{sound_tariffs_have_sound_parts-parts}}
use Rattle.tariff_calendar.specs.Common.{HasSoundParts, IsSound, IsWritable, Tree, has_holidays, holidays_of, with_each}
use Rattle.tariff_calendar.specs.Lists.{day_of, has_day, has_days, is_holiday, lists_of}
use Rattle.tariff_calendar.proofs.Insertions.{list_any-with_each, with_each-some}

-- no day before 1970 is one of day numbers
pub has_day-before : (holidays : List ℕ) (day : ℤ) → day <ℤ pos 0 → has_day holidays day ≡ false
has_day-before [] day before = refl
has_day-before (h ∷ hs) day before =
    let here : int_eq (pos h) day ≡ false = false_from_ne_true (int_eq (pos h) day)
    (λ same. let is = (Decides-int_eq (pos h) day).0 same in omega (arith, ints)) in
    rw (here, has_day-before hs day before) refl

-- a date of the calendar from 2000 on is that of its day number
IsDateOf-day_of : (d : DateNumbers) → IsSoundHoliday d → IsDateOf (pos (day_of d)) d.year d.month d.date
IsDateOf-day_of d sound =
    is_date_of_number d.year d.month d.date (omega (arith, sound.year))
    ((date_test d.year d.month d.date).decides.0 sound.date)

-- two days of one date are the same
same_day : (day other : ℤ) (year month date : ℕ) → IsDateOf day year month date
    → IsDateOf other year month date → day ≡ other
same_day day other year month date is also = omega (arith, ints, is.count, also.count)

same_day_by : (day other : ℤ) (year month date year₂ month₂ date₂ : ℕ) → year₂ ≡ year → month₂ ≡ month → date₂ ≡ date
    → IsDateOf day year₂ month₂ date₂ → IsDateOf other year month date → day ≡ other
same_day_by day other year month date year₂ month₂ date₂ a b c is also =
    same_day day other year month date (rw (a, b, c) at is) also

-- a holiday is of this date
abbrev of_date_test : (year month date : ℕ) → DateNumbers → Test
of_date_test year month date d = same d.year year & (same d.month month & same d.date date)

abbrev is_of_date : (year month date : ℕ) → DateNumbers → Bool
is_of_date year month date d = (of_date_test year month date d).passes

abbrev date_in : DateNumbers → CalendarDate
date_in d = record { year = d.year; month = d.month; date = d.date }

abbrev date_is : (year month date : ℕ) → CalendarDate
date_is year month date = record { year = year; month = month; date = date }

-- a holiday's day number is that of a date exactly if it is of that date
day_decides_date : (day : ℤ) (year month date : ℕ) (d : DateNumbers) → IsDateOf day year month date → IsSoundHoliday d
    → int_eq (pos (day_of d)) day ≡ is_of_date year month date d
day_decides_date day year month date d is sound =
    let own = IsDateOf-day_of d sound in
    same_from_decides (int_eq (pos (day_of d)) day) (is_of_date year month date d)
    (Decides-int_eq (pos (day_of d)) day) (
      (λ of_date.
          let parts = (of_date_test year month date d).decides.0 of_date in
          same_day_by (pos (day_of d)) day year month date d.year d.month d.date parts.0 parts.1.0 parts.1.1 own is),
      (λ same.
          let only = IsDateOf-only day (date_in d) (date_is year month date)
          (subst (λ (z : ℤ). IsDateOf z d.year d.month d.date) same own) is in
          (of_date_test year month date d).decides.1 (
            ap (λ (e : CalendarDate). e.year) only,
            (ap (λ (e : CalendarDate). e.month) only, ap (λ (e : CalendarDate). e.date) only),
          )),
    )

-- so one of them has that day number if one is of that date
days_decide_dates : (day : ℤ) (year month date : ℕ) (ds : List DateNumbers) → IsDateOf day year month date
    → All IsSoundHoliday ds → has_day (map day_of ds) day ≡ list_any (is_of_date year month date) ds
days_decide_dates day year month date [] is sound = refl
days_decide_dates day year month date (d ∷ ds) is sound =
    let here = day_decides_date day year month date d is (All-head IsSoundHoliday d ds sound) in
    let rest = days_decide_dates day year month date ds is (All-tail IsSoundHoliday d ds sound) in
    rw (here, rest) refl

-- the day numbers of sound holidays are those of the dates in the holiday lines
days_are_dates_in : (t : Tree) (k : ℕ) (day : ℤ) (year month date : ℕ) → HasSoundParts t → IsDateOf day year month date
    → has_day (lists_of t k).holidays day ≡ is_holiday t.lines year month date
days_are_dates_in t k day year month date parts is =
    list_any-with_each (λ holiday. int_eq (pos holiday) day) [] (map day_of (holidays_of t.lines))
    ∙ days_decide_dates day year month date (holidays_of t.lines) is parts.holidays

-- the same of a tariff whose numbers a text can have
pub days_are_dates : (t : Tree) (k : ℕ) (day : ℤ) (year month date : ℕ) → IsWritable t → IsSound t
    → IsDateOf day year month date → has_day (lists_of t k).holidays day ≡ is_holiday t.lines year month date
days_are_dates t k day year month date writable sound is =
    days_are_dates_in t k day year month date (sound_tariffs_have_sound_parts-parts t writable sound) is

-- there is a holiday if there is a holiday line
some_days_of : (ds : List DateNumbers)
    → ltb 0 (length (with_each [] (map day_of ds))) ≡ list_any (λ (d : DateNumbers). true) ds
some_days_of [] = refl
some_days_of (d ∷ ds) = lt-ltb 0 (length (with_each [] (map day_of (d ∷ ds))))
    (with_each-some (day_of d ∷ []) (map day_of ds) (omega arith))

pub some_days : (t : Tree) (k : ℕ) → has_days (lists_of t k) ≡ has_holidays t.lines
some_days t k = some_days_of (holidays_of t.lines)
