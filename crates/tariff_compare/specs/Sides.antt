-- By law: what is asked of a tariff in a context of a meter, answered by its tables. CountedLine and Kinds say it of
-- the tariff; the laws first_contexts_are_first and differences_are_first say that both are the same.
use Rattle.std.specs.{List.{list_any}, Prelude.{ℕ, ◌&&◌, ◌==◌, Bool, List, Option, get_or, is_some, pos}}
use Rattle.{interval_clock.specs.Calendar.{date_after}, tariff_compare.specs.Common.{tables_of, weekday_of}}
use Rattle.tariff_compare.specs.Common.{CellLines, ChoiceKind, Context, Counts, Differs, MeterContext, Question}
use Rattle.tariff_compare.specs.Common.{RateNumbers, TableParts, Tree, date_place, fees_in, lines_in, rates_of}
use Rattle.tariff_compare.specs.CountedLine.{counts, is_at}
use Rattle.tariff_compare.specs.Kinds.{InForce, difference_at, differing_kind, is_asked, place_in}

-- one side of a comparison has the tables of a tariff, and its rates
pub record SideParts : Type 0 where
  pub tables : TableParts
  pub rates : List RateNumbers

-- the side of a tariff under a constant has its tables and its rates
abbrev pub side_of : Tree → (k : ℕ) → SideParts
side_of t k = record { tables = tables_of t k; rates = rates_of t.lines }

-- a day is among holidays if one of them has its number
abbrev pub is_holiday_among : List ℕ → (day : ℕ) → Bool
is_holiday_among holidays day = list_any (λ holiday. holiday == day) holidays

-- a context of a meter by tables has their constant, and is a holiday if its day is among theirs
unfoldable pub context_by : TableParts → MeterContext → Context
context_by tables m =
    let date = date_after m.day in
    record {
      constant = tables.constant;
      position = m.position;
      zone = m.zone;
      weekday = weekday_of (pos m.day);
      month_day = date_place date.month date.date;
      holiday = is_holiday_among tables.cuts.holidays m.day;
      minute = m.minute;
      pulses = m.pulses;
      ticks = m.ticks;
    }

-- the lines of a context of a meter, by the tables
unfoldable pub lines_by : TableParts → MeterContext → CellLines
lines_by tables m = lines_in tables (context_by tables m)

-- the test `counts_by` is true if a line counts, by the tables
abbrev pub counts_by : TableParts → ChoiceKind → (place : ℕ) → MeterContext → Bool
counts_by tables kind place m = is_asked kind m && is_at place (place_in kind (lines_by tables m))

-- what is in force in a context by the tables of a side
unfoldable pub in_force_by : SideParts → Context → InForce
in_force_by side x = record {
  rate = get_or side.rates (lines_in side.tables x).rate (record { a = 0; b = 0; c = 0; e = 0 });
  hiring = fees_in side.tables x;
}

-- what differs in a context, by the tables
abbrev pub difference_by : (one other : SideParts) → MeterContext → Option ChoiceKind
difference_by one other m =
    differing_kind m (in_force_by one (context_by one.tables m)) (in_force_by other (context_by other.tables m))

-- the answer to a question in a context, by the tables of both sides; of one line, the first side alone is asked
abbrev pub is_met_by : (one other : SideParts) → Question → MeterContext → Bool
is_met_by one other (Counts kind place) m = counts_by one.tables kind place m
is_met_by one other Differs m = is_some (difference_by one other m)

-- the answer to a question in a context, by the tariffs
abbrev pub is_met : (t u : Tree) (k : ℕ) → Question → MeterContext → Bool
is_met t u k (Counts kind place) m = counts t k kind place m
is_met t u k Differs m = is_some (difference_at t u k m)
