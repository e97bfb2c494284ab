-- Rules: the offset of a rule at a second.
use Rattle.std.specs.Prelude.{ℕ, ℤ, ◌&&◌, ◌*◌, ◌/◌, ◌||◌, Bool, if◌then◌else◌, nat_le, nat_lt}
use Rattle.{interval_clock.specs.Calendar.{date_after}, offset_rules.specs.{Changes.{second_of_change}, Rule.{Rule}}}
use Rattle.offset_rules.specs.Common.{day_number_of}

-- within a year, summer time is from the second at which it begins up to the one at which it ends; if it ends
-- earlier in the year than it begins, it is before its end and from its beginning on
abbrev pub is_summer : (begins ends second : ℕ) → Bool
is_summer begins ends second =
    if nat_lt begins ends then nat_le begins second && nat_lt second ends
    else nat_lt second ends || nat_le begins second

-- the offset at a second of a year is that of summer time if the year's two changes make it summer time, and else
-- that of standard time
abbrev pub offset_in_year : Rule → (year second : ℕ) → ℤ
offset_in_year rule year second =
    if is_summer (second_of_change year rule.begin) (second_of_change year rule.end) second then rule.summer
    else rule.standard

-- the year of a second is the year of its day in UTC
abbrev pub year_of : (second : ℕ) → ℕ
year_of second = (date_after (second / 86400)).year

-- the offset of a rule at a second is the one that the changes of its year in UTC give
unfoldable pub offset_by : Rule → (second : ℕ) → ℤ
offset_by rule second = offset_in_year rule (year_of second) second

-- the first second of a year is that of its 1 January in UTC
abbrev pub first_second_of : (year : ℕ) → ℕ
first_second_of year = day_number_of year 1 1 * 86400
