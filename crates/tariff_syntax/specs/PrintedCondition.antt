-- Rules: the printed form of a condition. Each part is spelled in front of what follows it, its rest.
use Rattle.std.specs.{Fmt.{decimal}, Prelude.{ℕ, ◌%◌, ◌++◌, ◌/◌, ◌==◌, Bool, List, codes, false, if◌then◌else◌, true}}
use Rattle.tariff_syntax.specs.Common.{Condition, after_distance, after_time, and, date, day, day_name, holiday}
use Rattle.tariff_syntax.specs.Common.{money_text, not, or, padded_text, position, time, zone}

-- weekdays are printed as the first one's short name, and if the last one is another, `..` and its short name
abbrev pub days_text : (from to : ℕ) → List ℕ → List ℕ
days_text from to rest =
    day_name from ++ (if from == to then rest else codes ".." ++ (day_name to ++ rest))

-- a minute of the day is printed as its hours and its minutes, in two digits each, with `:` between them
abbrev pub minute_text : (minute : ℕ) → List ℕ → List ℕ
minute_text minute rest = padded_text 2 (minute / 60) ++ (codes ":" ++ (padded_text 2 (minute % 60) ++ rest))

-- a date of any year is printed as its month and its date, in two digits each, with `-` between them
abbrev pub date_text : (month number : ℕ) → List ℕ → List ℕ
date_text month number rest = padded_text 2 month ++ (codes "-" ++ (padded_text 2 number ++ rest))

-- a condition stands whole, on its own or before an `or`; as a term, behind an `or` or before an `and`; or as a factor,
-- behind an `and` or a `not`
pub data Level : Type 0 where
  whole : Level
  term : Level
  factor : Level

-- an `or` has parentheses if it doesn't stand whole
abbrev pub or_is_closed : Level → Bool
or_is_closed whole = false
or_is_closed term = true
or_is_closed factor = true

-- an `and` has parentheses if it stands as a factor
abbrev pub and_is_closed : Level → Bool
and_is_closed whole = false
and_is_closed term = false
and_is_closed factor = true

-- a text is in parentheses if it is to have them, and else stands as it is
abbrev pub in_parentheses : Bool → (List ℕ → List ℕ) → List ℕ → List ℕ
in_parentheses false text rest = text rest
in_parentheses true text rest = codes "(" ++ text (codes ")" ++ rest)

-- a condition is printed by its parts, each at its level, in parentheses if the level asks for them
abbrev pub condition_at : Level → Condition → List ℕ → List ℕ
condition_at level (or left right) rest =
    in_parentheses (or_is_closed level) (λ end. condition_at whole left
    (codes " or " ++ condition_at term right end)) rest
condition_at level (and left right) rest =
    in_parentheses (and_is_closed level) (λ end. condition_at term left
    (codes " and " ++ condition_at factor right end)) rest
condition_at level (not inner) rest = codes "not " ++ condition_at factor inner rest
condition_at level (position n) rest = codes "position " ++ (decimal n ++ rest)
condition_at level (zone n) rest = codes "zone " ++ (decimal n ++ rest)
condition_at level (time from to) rest = codes "time " ++ minute_text from (codes ".." ++ minute_text to rest)
condition_at level (day from to) rest = codes "day " ++ days_text from to rest
condition_at level (date from_month from_date to_month to_date) rest =
    codes "date " ++ date_text from_month from_date (codes ".." ++ date_text to_month to_date rest)
condition_at level holiday rest = codes "holiday" ++ rest
condition_at level (after_distance n) rest = codes "after " ++ (money_text 1 n ++ (codes " m" ++ rest))
condition_at level (after_time n) rest = codes "after " ++ (money_text 1 n ++ (codes " s" ++ rest))

-- the condition of a line is printed whole
unfoldable pub condition_text : Condition → List ℕ → List ℕ
condition_text c rest = condition_at whole c rest
