-- Rules: the cuts and the holidays of a tariff under a constant.
use Rattle.{std.specs.{List.{count_by, list_any}, Ordering.{int_eq}}, interval_clock.specs.Calendar.{day_number_of}}
use Rattle.std.specs.Prelude.{[], ℕ, ℤ, ◌*◌, ◌+◌, ◌/◌, ◌<◌, ◌≤◌, Bool, List, get_or, length, map, nat_le, nat_lt, pos}
use Rattle.{tariff_check.specs.{Parts.{DateNumbers}, SoundLookups.{has_date}}, tariff_calendar.specs.Common.{with_each}}
use Rattle.tariff_calendar.specs.Common.{Dimension, Distance, Line, Minute, MonthDay, Time, Tree, cuts_of, holidays_of}

-- the lists of a tariff are numbers in order: the cuts of each dimension (places in a leap year, minutes, pulses,
-- ticks), and the day numbers of the holidays; if two distances are the same number of pulses, that number stands twice
pub record CutLists : Type 0 where
  pub month_days : List ℕ
  pub minutes : List ℕ
  pub distances : List ℕ
  pub times : List ℕ
  pub holidays : List ℕ

-- the pulses for a distance in decimetres are the fewest that are as far, if k pulses make a kilometre
abbrev pub pulses_for : (k decimetres : ℕ) → ℕ
pulses_for k decimetres = (k * decimetres + 9999) / 10000

-- the day number of a date is the one that the calendar gives it
abbrev pub day_of : DateNumbers → ℕ
day_of d = day_number_of d.year d.month d.date

-- the lists of a tariff have its cuts of each dimension, distances as pulses of which k make a kilometre, and the days
-- of its holidays
abbrev pub lists_of : Tree → (k : ℕ) → CutLists
lists_of t k =
    record {
      month_days = cuts_of MonthDay t.lines;
      minutes = cuts_of Minute t.lines;
      distances = map (pulses_for k) (cuts_of Distance t.lines);
      times = cuts_of Time t.lines;
      holidays = with_each [] (map day_of (holidays_of t.lines));
    }

-- the list of a dimension is that of its cuts
abbrev pub list_in : CutLists → Dimension → List ℕ
list_in lists MonthDay = lists.month_days
list_in lists Minute = lists.minutes
list_in lists Distance = lists.distances
list_in lists Time = lists.times

-- the count of a value among cuts is how many of them are at or below it
abbrev pub count_at_most : (value : ℕ) → List ℕ → ℕ
count_at_most value cuts = count_by (λ cut. nat_le cut value) cuts

-- numbers don't fall if none is less than one before it
abbrev pub IsNotFalling : List ℕ → Type 0
IsNotFalling xs = (i j : ℕ) → i < j → j < length xs → get_or xs i 0 ≤ get_or xs j 0

-- numbers are ordered if they don't fall and are at most `most`
pub record IsOrdered (most : ℕ) (xs : List ℕ) : Type 0 where
  pub few : length xs ≤ most
  pub not_falling : IsNotFalling xs

-- the lists of a sound tariff are ordered, and none is longer than a look-up reaches
pub record AreOrdered (lists : CutLists) : Type 0 where
  pub month_days : IsOrdered 63 lists.month_days
  pub minutes : IsOrdered 63 lists.minutes
  pub distances : IsOrdered 15 lists.distances
  pub times : IsOrdered 15 lists.times
  pub holidays : IsOrdered 255 lists.holidays

-- a look-up reads at most 6 cuts in the dimensions of days and minutes, and at most 4 in those of distances and times
abbrev pub most_reads : Dimension → ℕ
most_reads MonthDay = 6
most_reads Minute = 6
most_reads Distance = 4
most_reads Time = 4

-- the test `has_day` is true if a day number is that of a holiday
abbrev pub has_day : List ℕ → ℤ → Bool
has_day holidays day = list_any (λ holiday. int_eq (pos holiday) day) holidays

-- the test `has_days` is true if the lists have a holiday
abbrev pub has_days : CutLists → Bool
has_days lists = nat_lt 0 (length lists.holidays)

-- the test `is_holiday` is true if a holiday line has the date
abbrev pub is_holiday : List Line → (year month date : ℕ) → Bool
is_holiday lines year month date = has_date (holidays_of lines) year month date
