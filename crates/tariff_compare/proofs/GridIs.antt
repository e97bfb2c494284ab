-- The grid of two tariffs: its numbers are ones that a meter can have, it is in order, and its contexts are a meter's.
use Rattle.std.{specs.List.{All, range_with_len}, proofs.lemmas.List.{get_or-map, FromFn.{length-range_with_len}}}
use Rattle.std.proofs.Common.{[], ℕ, ◌%◌, ◌∙◌, ◌∷◌, ◌≡◌, ◌≤◌, List, ap, arith, get_or, inl, inr, length, map, refl}
use Rattle.std.proofs.{Common.{subst, sym}, lemmas.List.Elements.{All-cons, All-get_or, All-nil}}
use Rattle.{taxi_units.specs.Counted.{IsElement}, tariff_calendar.proofs.Laws.{lists_are_ordered-ordered}}
use Rattle.{tariff_calendar.specs.Lists.{AreOrdered}, tariff_compile.proofs.Laws.{tables_are_fit}}
use Rattle.{tariff_compile.specs.Tables.{IsCompiled}, tariff_compare.specs.Common.{tables_of, zones_of}}
use Rattle.tariff_compare.specs.Common.{Day, IsFromTo, MeterContext, TableParts, Tree, last_tick, positions_of}
use Rattle.tariff_compare.{specs.Contexts.{IsMeterContext, most_pulses}, proofs.Found.{IsOfGrid, IsOrderedGrid}}
use Rattle.tariff_compare.specs.Grids.{CanAskBoth, GridLists, IsDayIn, IsGridOf, day_at, day_in, days_until, grid_of}
use Rattle.tariff_compare.{specs.Searches.{IsNumbered, context_of, day_part}, proofs.Numbers.{range_rises}}
use Rattle.tariff_compare.proofs.GridDays.{IsOneOfDays, day_at_place, days_few, days_rising, kept_place}
use Rattle.tariff_compare.proofs.MeterTimes.{time_there}
use Rattle.tariff_compare.proofs.Numbers.{IsIn, all_in, in_all, listed_few, listed_most, listed_rises, range_in}

-- what holds of each day that is kept holds of all
all_kept : (P : Day → Type 0) (ds : List Day) → ((d : Day) → IsOneOfDays d ds → P d) → All P ds
all_kept P [] each = All-nil P
all_kept P (d ∷ ds) each = All-cons P d ds (each d (inl refl)) (all_kept P ds (λ e there. each e (inr there)))

day_is : (one other : TableParts) (d : Day) → IsOneOfDays d (days_until one other 73051) → IsDayIn one other d
day_is one other d there =
    let at = kept_place one other 73051 d there in
    let number : d.number ≡ day_at at.0 = ap (λ (x : Day). x.number) at.2 in
    record {
      range = subst (IsFromTo 10956 84006) (sym number) (day_at_place at.0 at.1);
      is = at.2 ∙ ap (day_in one other) (sym number);
    }

both_ranges : (most other : ℕ) → most ≡ other
    → All (λ n. IsFromTo 1 most n × IsFromTo 1 other n) (range_with_len 1 most)
both_ranges most other same =
    in_all (λ n. IsFromTo 1 most n × IsFromTo 1 other n) (range_with_len 1 most)
    (λ n there.
    let within = range_in 1 most n there in
    ((omega (arith, within.0), omega (arith, within.1)), (omega (arith, within.0), omega (arith, within.1, same))))

cuts_ordered : (tables : TableParts) → IsCompiled tables → AreOrdered tables.cuts
cuts_ordered tables is =
    subst (λ (x : TableParts). AreOrdered x.cuts) (sym is.1.parts)
    (lists_are_ordered-ordered is.0 tables.constant is.1.writable is.1.sound)

pub is_grid : (one other : TableParts) → one.positions ≡ other.positions → one.zones ≡ other.zones → IsCompiled one
    → IsCompiled other → IsGridOf one other (grid_of one other)
is_grid one other positions zones first second =
    let fit = tables_are_fit one first in
    let ordered = cuts_ordered one first in
    let others = cuts_ordered other second in
    record {
      short = record {
        positions = omega (arith, length-range_with_len 1 one.positions, fit.positions.1);
        zones = omega (arith, length-range_with_len 1 one.zones, fit.zones.1);
        days = days_few one other 73051;
        minutes = omega (
          arith,
          listed_few 1439 (0 ∷ 600 ∷ []) one.cuts.minutes other.cuts.minutes,
          ordered.minutes.few,
          others.minutes.few,
        );
        ticks = omega (
          arith,
          listed_few last_tick (0 ∷ []) one.cuts.times other.cuts.times,
          ordered.times.few,
          others.times.few,
        );
        pulses = omega (
          arith,
          listed_few most_pulses (0 ∷ []) one.cuts.distances other.cuts.distances,
          ordered.distances.few,
          others.distances.few,
        );
      };
      positions = both_ranges one.positions other.positions positions;
      zones = both_ranges one.zones other.zones zones;
      days = all_kept (IsDayIn one other) (days_until one other 73051) (day_is one other);
      minutes = listed_most 1439 (0 ∷ 600 ∷ []) one.cuts.minutes other.cuts.minutes;
      ticks = listed_most last_tick (0 ∷ []) one.cuts.times other.cuts.times;
      pulses = listed_most most_pulses (0 ∷ []) one.cuts.distances other.cuts.distances;
    }

pub is_ordered : (one other : TableParts) → IsOrderedGrid (grid_of one other)
is_ordered one other = record {
  positions = range_rises 1 one.positions;
  zones = range_rises 1 one.zones;
  days = days_rising one other;
  minutes = listed_rises 1439 (0 ∷ 600 ∷ []) one.cuts.minutes other.cuts.minutes;
  ticks = listed_rises last_tick (0 ∷ []) one.cuts.times other.cuts.times;
  pulses = listed_rises most_pulses (0 ∷ []) one.cuts.distances other.cuts.distances;
}

one_day : (P : ℕ → Type 0) (n : ℕ) (ds : List Day) → IsIn n (map (λ (d : Day). d.number) ds)
    → ((d : Day) → IsOneOfDays d ds → P d.number) → P n
one_day P n [] h each = absurd h
one_day P n (d ∷ ds) (inl e) each = subst P (sym e) (each d (inl refl))
one_day P n (d ∷ ds) (inr h) each = one_day P n ds h (λ x there. each x (inr there))

pub of_grid : (t : Tree) (k : ℕ) (other : TableParts) (m : MeterContext) → IsOfGrid (grid_of (tables_of t k) other) m
    → IsMeterContext t m
of_grid t k other m is =
    let one = tables_of t k in
    let grid = grid_of one other in
    let days = one_day (IsFromTo 10956 84006) m.day grid.days is.day (λ d there. (day_is one other d there).range) in
    let minute = all_in (λ n. n ≤ 1439) grid.minutes (listed_most 1439 (0 ∷ 600 ∷ []) one.cuts.minutes
    other.cuts.minutes) m.minute is.minute in
    let position = range_in 1 (positions_of t.lines) m.position is.position in
    let zone = range_in 1 (zones_of t.lines) m.zone is.zone in
    record {
      position = (position.0, omega (arith, position.1));
      zone = (zone.0, omega (arith, zone.1));
      time = time_there m.day m.minute days minute is.time;
      ticks = all_in (λ n. n ≤ last_tick) grid.ticks (listed_most last_tick (0 ∷ []) one.cuts.times other.cuts.times)
          m.ticks is.ticks;
      pulses = all_in (λ n. n ≤ most_pulses) grid.pulses
          (listed_most most_pulses (0 ∷ []) one.cuts.distances other.cuts.distances) m.pulses is.pulses;
    }

-- ---- the context of a number can be asked

-- the day of a number is the one of its context
pub day_of : (one other : TableParts) (grid : GridLists) (n : ℕ) (d : Day) → IsGridOf one other grid
    → IsNumbered grid n → IsElement grid.days (day_part grid n % length grid.days) d
    → (d.number ≡ (context_of grid n).day) × IsDayIn one other d
day_of one other grid n d good is at =
    let place = day_part grid n % length grid.days in
    let here : get_or grid.days place d ≡ d = sym (at d) in (
      sym (get_or-map (λ (x : Day). x.number) grid.days place d 0 is.day ∙ ap (λ (x : Day). x.number) here),
      subst (IsDayIn one other) here (All-get_or (IsDayIn one other) grid.days place d is.day good.days),
    )

pub asked_at : (one other : TableParts) (grid : GridLists) (n : ℕ) (d : Day) → IsGridOf one other grid
    → IsNumbered grid n → IsElement grid.days (day_part grid n % length grid.days) d
    → CanAskBoth one other (context_of grid n)
asked_at one other grid n d good is at =
    let position = All-get_or (λ n. IsFromTo 1 one.positions n × IsFromTo 1 other.positions n) grid.positions _ 0
    is.position good.positions in
    let zone = All-get_or (λ n. IsFromTo 1 one.zones n × IsFromTo 1 other.zones n) grid.zones _ 0 is.zone good.zones in
    let same = day_of one other grid n d good is at in
    let day = subst (IsFromTo 10956 84006) same.0 same.1.range in
    let minute = All-get_or (λ n. n ≤ 1439) grid.minutes _ 0 is.minute good.minutes in
    let ticks = All-get_or (λ n. n ≤ last_tick) grid.ticks _ 0 is.ticks good.ticks in
    let pulses = All-get_or (λ n. n ≤ most_pulses) grid.pulses _ 0 is.pulses good.pulses in
    record {
      one = record { position = position.0; zone = zone.0; day = day; minute = minute; ticks = ticks; pulses = pulses };
      other =
          record { position = position.1; zone = zone.1; day = day; minute = minute; ticks = ticks; pulses = pulses };
    }
