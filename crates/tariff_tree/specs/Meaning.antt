-- Rules: when a condition holds, and which line of a tariff holds first.
use Rattle.std.specs.{List.{position_from, slice_get}, Prelude.{nat_le, nat_lt, not, take, true}}
use Rattle.std.specs.Prelude.{ℕ, ◌&&◌, ◌*◌, ◌==◌, ◌||◌, ◌≡◌, All, Bool, List, None, Option, Some, false, if◌then◌else◌}
use Rattle.{taxi_units.specs.Calendar.{date_of_place}, tariff_tree.specs.{Condition.{Condition}, Tree.{Entry, Tree}}}
use Rattle.tariff_tree.specs.{Choices.{choices, conditions_of, initial_part, minimum_part, rate_part}, Common.{Context}}
use Rattle.tariff_tree.specs.Condition as tree

-- a number is within a range if it is from the first end to the second, both included; if the first is the greater one,
-- if it is from the first end on or up to the second
abbrev pub is_within : (from to n : ℕ) → Bool
is_within from to n = if nat_le from to then nat_le from n && nat_le n to else nat_le from n || nat_le n to

-- a minute is in a range of times if it is from the first on and before the second; if the first is the later one, over
-- midnight: from the first on or before the second
abbrev pub is_in_time : (from to minute : ℕ) → Bool
is_in_time from to minute =
    if nat_le from to then nat_le from minute && nat_lt minute to else nat_le from minute || nat_lt minute to

-- a month and date is by another if it comes before it in the year or is the same
abbrev pub is_by : (first second : ℕ × ℕ) → Bool
is_by first second = nat_lt first.0 second.0 || (first.0 == second.0 && nat_le first.1 second.1)

-- a month and date is in a range of dates if it is from the first to the second, both included; if the first is the
-- later one, over the year's end: from the first on or up to the second
abbrev pub is_in_dates : (from to date : ℕ × ℕ) → Bool
is_in_dates from to date = if is_by from to then is_by from date && is_by date to else is_by from date || is_by date to

-- a date that may be none is on a range of dates if there is one and it is in the range
abbrev pub is_on : (from to : ℕ × ℕ) → Option (ℕ × ℕ) → Bool
is_on from to None = false
is_on from to (Some date) = is_in_dates from to date

-- a condition holds in a context by its parts; X decimetres have passed if the constant times X is at most 10,000 times
-- the pulses, and a time has passed if the ticks are at least its tenths of a second
abbrev pub holds : Condition → Context → Bool
holds (tree.and left right) x = holds left x && holds right x
holds (tree.or left right) x = holds left x || holds right x
holds (tree.not inner) x = not (holds inner x)
holds (tree.position number) x = x.position == number
holds (tree.zone number) x = x.zone == number
holds (tree.time from to) x = is_in_time from to x.minute
holds (tree.day from to) x = is_within from to x.weekday
holds (tree.date from_month from_date to_month to_date) x =
    is_on (from_month, from_date) (to_month, to_date) (date_of_place x.month_day)
holds tree.holiday x = x.holiday
holds (tree.after_distance decimetres) x = nat_le (x.constant * decimetres) (10000 * x.pulses)
holds (tree.after_time tenths) x = nat_le tenths x.ticks

-- a line holds in a context if it has no condition or its condition holds
abbrev pub holds_if : Context → Option Condition → Bool
holds_if x None = true
holds_if x (Some when) = holds when x

-- a place, from 0, is that of the first that passes a test if the one there passes and none before it does; there is no
-- place if none passes
abbrev pub IsFirstPlace : {A : Type 0} → (A → Bool) → List A → Option ℕ → Type 0
IsFirstPlace {A} passes xs None = All (λ (x : A). passes x ≡ false) xs
IsFirstPlace {A} passes xs (Some place) =
    (x : A) × (slice_get xs place ≡ Some x) × (passes x ≡ true)
    × All (λ (before : A). passes before ≡ false) (take place xs)

-- the place, from 0, of the first of some conditions, each there or none, that holds in a context
abbrev pub place_of : Context → List (Option Condition) → Option ℕ
place_of x conditions = position_from (holds_if x) 0 conditions

-- the choice of a kind of a tariff that holds first in a context is told by its place among the choices of the kind
abbrev pub choice_place : {V : Type 0} → (Entry → Option V) → Tree → Context → Option ℕ
choice_place part t x = place_of x (conditions_of (choices part t.lines))

-- a context at the hiring is the same one with no pulse and no tick of the trip yet
abbrev pub at_hiring : Context → Context
at_hiring x = record x { pulses = 0; ticks = 0 }

-- the rate of a context is the first rate that holds in it, told by its place among the rates
abbrev pub rate_place : Tree → Context → Option ℕ
rate_place t x = choice_place rate_part t x

-- the initial hire fee of a context is the first one that holds at the hiring, told by its place among them
abbrev pub initial_place : Tree → Context → Option ℕ
initial_place t x = choice_place initial_part t (at_hiring x)

-- the minimum fare of a context is the first one that holds at the hiring, told by its place among them
abbrev pub minimum_place : Tree → Context → Option ℕ
minimum_place t x = choice_place minimum_part t (at_hiring x)
