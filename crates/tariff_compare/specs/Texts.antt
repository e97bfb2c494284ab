-- Rules: the texts of contexts of a meter, and of the uses of lines.
use Rattle.{std.specs.List.{flat_map}, taxi_units.specs.{Number.{padded_text}, Weekdays.{day_name}}}
use Rattle.std.specs.Prelude.{ℕ, ◌%◌, ◌++◌, ◌/◌, List, None, Option, Some, codes, decimal, if◌then◌else◌, pos}
use Rattle.interval_clock.specs.{Calendar.{date_after}, declared.day_numbers.CalendarDate.{CalendarDate}}
use Rattle.tariff_compare.specs.{Common.{ChoiceKind, MeterContext, weekday_of}, Kinds.{is_asked_amid, kind_word}}
use Rattle.tariff_compare.specs.declared.uses.LineUse.{LineUse}

-- a date is written as YYYY-MM-DD
abbrev pub date_text : CalendarDate → List ℕ
date_text d = padded_text 4 d.year ++ (codes "-" ++ (padded_text 2 d.month ++ (codes "-" ++ padded_text 2 d.date)))

-- a minute of the day is written as HH:MM
abbrev pub minute_text : (minute : ℕ) → List ℕ
minute_text minute = padded_text 2 (minute / 60) ++ (codes ":" ++ padded_text 2 (minute % 60))

-- a position and a zone are written as `T1 Z1`
unfoldable pub place_text : (position zone : ℕ) → List ℕ
place_text position zone = codes "T" ++ (decimal position ++ (codes " Z" ++ decimal zone))

-- a day and a minute are written as the weekday, the date and the time of the day: `thu 2026-01-01 00:00`
unfoldable pub moment_text : (day minute : ℕ) → List ℕ
moment_text day minute =
    day_name (weekday_of (pos day)) ++ (codes " " ++ (date_text (date_after day) ++ (codes " " ++ minute_text minute)))

-- a context of a meter at a hiring is written as its position and zone, and its day and minute
unfoldable pub hiring_text : MeterContext → List ℕ
hiring_text m = place_text m.position m.zone ++ (codes " " ++ moment_text m.day m.minute)

-- one amid a trip has its ticks and pulses behind that: `0 t 0 p`
unfoldable pub trip_text : MeterContext → List ℕ
trip_text m = hiring_text m ++ (codes " " ++ (decimal m.ticks ++ (codes " t " ++ (decimal m.pulses ++ codes " p"))))

-- a context is written as one amid a trip if its kind is asked there, and else as one at a hiring
abbrev pub context_text : ChoiceKind → MeterContext → List ℕ
context_text kind m = if is_asked_amid kind then trip_text m else hiring_text m

-- a line holds first in a context, or never
abbrev pub first_text : ChoiceKind → Option MeterContext → List ℕ
first_text kind None = codes " never\n"
first_text kind (Some m) = codes " holds " ++ (context_text kind m ++ codes "\n")

-- the use of a line is written as its number, the word of its kind, and the first context in which it counts
unfoldable pub use_text : LineUse → List ℕ
use_text u = decimal u.line ++ (codes " " ++ (kind_word u.kind ++ first_text u.kind u.first))

-- the uses of lines are written one after another
abbrev pub uses_text : List LineUse → List ℕ
uses_text uses = flat_map use_text uses
