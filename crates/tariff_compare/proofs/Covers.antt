-- For each context of a meter the grid has one in the same cell of both tariffs, which isn't later.
use Rattle.std.proofs.Common.{[], ℕ, ◌||◌, ◌∙◌, ◌∷◌, ◌≡◌, ◌≢◌, ◌≤◌, ◌⊎◌, Bool, List, ap, arith, eqb, false, inl, inr}
use Rattle.{std.proofs.Common.{map, not, pos, refl, subst, sym, true}, tariff_calendar.specs.Range.{IsSameCell}}
use Rattle.{std.proofs.lemmas.Bool.{eq-eqb, eqb-true, false≢true, not-true}, interval_clock.specs.Calendar.{date_after}}
use Rattle.tariff_compare.specs.Common.{Day, IsFromTo, MeterContext, TableParts, Tree, count_at_most, date_place}
use Rattle.tariff_compare.specs.{Common.{last_tick, lists_of, tables_of, weekday_of}, Grids.{listed}}
use Rattle.tariff_compare.specs.Contexts.{HasTables, IsMeterContext, context_at, day_place, most_pulses, order_of}
use Rattle.tariff_compare.specs.Grids.{day_at, day_in, days_until, grid_of, is_alike, is_edge, is_meter_time, is_same}
use Rattle.tariff_compare.{specs.Sides.{is_holiday_among}, proofs.{MeterTimes.{time_tested, time_there}, Order.{AllLe}}}
use Rattle.tariff_compare.proofs.{Bridge.{among}, Found.{IsOfGrid}}
use Rattle.tariff_compare.proofs.{Frames.{both_parts}, Numbers.{IsIn, count_same, in_listed, range_within, reached}}
use Rattle.tariff_compare.proofs.GridDays.{IsLike, IsOneOfDays, day_at_place, kept_like, kept_place, place_of_day}
use Rattle.tariff_compare.proofs.MeterTimes.{days_within, minutes_within, tested_first, tested_last, time_test}

-- ---- days that are like another

same_values : (a b : Bool) → is_same a b ≡ true → a ≡ b
same_values true b h = sym h
same_values false true h = absurd (false≢true h)
same_values false false h = refl

-- days that mean the same to both tariffs
pub record MeanSame (d e : Day) : Type 0 where
  pub weekday : d.weekday ≡ e.weekday
  pub band : d.band ≡ e.band
  pub other_band : d.other_band ≡ e.other_band
  pub holiday : d.holiday ≡ e.holiday
  pub other_holiday : d.other_holiday ≡ e.other_holiday

record IsAlikeDay (d e : Day) : Type 0 where
  pub first : is_edge d.number ≡ false
  pub second : is_edge e.number ≡ false
  pub same : MeanSame d e

alike_parts : (d e : Day) → is_alike d e ≡ true → IsAlikeDay d e
alike_parts d e h =
    let p₁ = both_parts (not (is_edge d.number)) _ h in
    let p₂ = both_parts (not (is_edge e.number)) _ p₁.1 in
    let p₃ = both_parts (eqb d.weekday e.weekday) _ p₂.1 in
    let p₄ = both_parts (eqb d.band e.band) _ p₃.1 in
    let p₅ = both_parts (eqb d.other_band e.other_band) _ p₄.1 in
    let p₆ = both_parts (is_same d.holiday e.holiday) (is_same d.other_holiday e.other_holiday) p₅.1 in
    record {
      first = not-true (is_edge d.number) p₁.0;
      second = not-true (is_edge e.number) p₂.0;
      same = record {
        weekday = eqb-true d.weekday e.weekday p₃.0;
        band = eqb-true d.band e.band p₄.0;
        other_band = eqb-true d.other_band e.other_band p₅.0;
        holiday = same_values d.holiday e.holiday p₆.0;
        other_holiday = same_values d.other_holiday e.other_holiday p₆.1;
      };
    }

pub like_same : (d e : Day) → IsLike d e → MeanSame d e
like_same d e (inl same) = record {
  weekday = ap (λ (x : Day). x.weekday) same;
  band = ap (λ (x : Day). x.band) same;
  other_band = ap (λ (x : Day). x.other_band) same;
  holiday = ap (λ (x : Day). x.holiday) same;
  other_holiday = ap (λ (x : Day). x.other_holiday) same;
}
like_same d e (inr alike) = (alike_parts d e alike).same

no_edge : (n edge : ℕ) → (edge ≡ 10956) ⊎ (edge ≡ 84006) → is_edge n ≡ false → n ≢ edge
no_edge n edge (inl e) none = λ same. absurd (false≢true (sym none ∙ rw (eq-eqb n 10956 (same ∙ e)) refl))
no_edge n edge (inr e) none = λ same. absurd (false≢true (sym none ∙ by (eqb n 10956) (eq-eqb n 84006 (same ∙ e))))
  where
    by : (b : Bool) → eqb n 84006 ≡ true → (b || eqb n 84006) ≡ true
    by true h = refl
    by false h = h

-- ---- a context of the grid in the same cell

at_day : (d : Day) (ds : List Day) → IsOneOfDays d ds → IsIn d.number (map (λ (x : Day). x.number) ds)
at_day d [] h = absurd h
at_day d (x ∷ ds) (inl e) = inl (ap (λ (y : Day). y.number) e)
at_day d (x ∷ ds) (inr h) = inr (at_day d ds h)

-- it is a time of the meter
tested : (one other : TableParts) (n : MeterContext) (d : Day) (w : ℕ) → is_meter_time n.day n.minute ≡ true
    → IsLike d (day_in one other n.day) → w ≤ n.minute → (600 ≤ n.minute → 600 ≤ w) → is_meter_time d.number w ≡ true
tested one other n d w is (inl same) le late =
    let number : d.number ≡ n.day = ap (λ (x : Day). x.number) same in
    time_test d.number w (λ e. late (tested_first n.day n.minute is (sym number ∙ e)))
    (λ e. omega (arith, le, tested_last n.day n.minute is (sym number ∙ e)))
tested one other n d w is (inr alike) le late =
    let none = (alike_parts d (day_in one other n.day) alike).first in
    time_test d.number w (λ e. absurd (no_edge d.number 10956 (inl refl) none e))
    (λ e. absurd (no_edge d.number 84006 (inr refl) none e))

-- what a context of the grid has in common with another, for one tariff
record SameParts (t : Tree) (k : ℕ) (n c : MeterContext) : Type 0 where
  pub position : n.position ≡ c.position
  pub zone : n.zone ≡ c.zone
  pub weekday : weekday_of (pos n.day) ≡ weekday_of (pos c.day)
  pub holiday : is_holiday_among (lists_of t k).holidays n.day ≡ is_holiday_among (lists_of t k).holidays c.day
  pub month_day : count_at_most (date_place (date_after n.day).month (date_after n.day).date) (lists_of t k).month_days
      ≡ count_at_most (date_place (date_after c.day).month (date_after c.day).date) (lists_of t k).month_days
  pub minute : count_at_most n.minute (lists_of t k).minutes ≡ count_at_most c.minute (lists_of t k).minutes
  pub distance : count_at_most n.pulses (lists_of t k).distances ≡ count_at_most c.pulses (lists_of t k).distances
  pub time : count_at_most n.ticks (lists_of t k).times ≡ count_at_most c.ticks (lists_of t k).times

same_cell : (t : Tree) (k : ℕ) (n c : MeterContext) → HasTables t k → SameParts t k n c
    → IsSameCell (lists_of t k) (context_at t k n) (context_at t k c)
same_cell t k n c has same = record {
  position = same.position;
  zone = same.zone;
  weekday = same.weekday;
  holiday = sym (among t k n.day has) ∙ (same.holiday ∙ among t k c.day has);
  month_day = same.month_day;
  minute = same.minute;
  distance = same.distance;
  time = same.time;
}

-- a context of the grid that stands for another
pub record IsCover (t u : Tree) (k : ℕ) (n c : MeterContext) : Type 0 where
  pub grid : IsOfGrid (grid_of (tables_of t k) (tables_of u k)) c
  pub context : IsMeterContext t c
  pub le : AllLe (order_of c) (order_of n)
  pub ticks : c.ticks ≤ n.ticks
  pub pulses : c.pulses ≤ n.pulses
  pub first : IsSameCell (lists_of t k) (context_at t k n) (context_at t k c)
  pub second : IsSameCell (lists_of u k) (context_at u k n) (context_at u k c)

pub cover : (t u : Tree) (k : ℕ) (n : MeterContext) → HasTables t k → HasTables u k → IsMeterContext t n
    → (c : MeterContext) × IsCover t u k n c
cover t u k n t_has u_has is =
    let one = tables_of t k in
    let other = tables_of u k in
    let days = days_within n.day n.minute is.time in
    let minutes = minutes_within n.day n.minute is.time in
    let place = place_of_day n.day days in
    let kept = kept_like one other 73051 place.0 place.1 (omega arith) in
    let d = kept.0 in
    let like : IsLike d (day_in one other n.day) = subst (λ (x : ℕ). IsLike d (day_in one other x)) place.2 kept.3 in
    let at = kept_place one other 73051 d kept.1 in
    let number : d.number ≡ day_at at.0 = ap (λ (x : Day). x.number) at.2 in
    let is_d : d ≡ day_in one other d.number = at.2 ∙ ap (day_in one other) (sym number) in
    let d_days : IsFromTo 10956 84006 d.number = subst (IsFromTo 10956 84006) (sym number) (day_at_place at.0 at.1) in
    let same = like_same d (day_in one other n.day) like in
    let minute_list = listed 1439 (0 ∷ 600 ∷ []) one.cuts.minutes other.cuts.minutes in
    let tick_list = listed last_tick (0 ∷ []) one.cuts.times other.cuts.times in
    let pulse_list = listed most_pulses (0 ∷ []) one.cuts.distances other.cuts.distances in
    let at_minute = reached n.minute 0 minute_list (in_listed 0 1439 (0 ∷ 600 ∷ []) one.cuts.minutes other.cuts.minutes
    (omega arith) (inl (inl (inl refl)))) (omega arith) in
    let at_tick = reached n.ticks 0 tick_list (in_listed 0 last_tick (0 ∷ []) one.cuts.times other.cuts.times
    (omega arith) (inl (inl (inl refl)))) (omega arith) in
    let at_pulse = reached n.pulses 0 pulse_list (in_listed 0 most_pulses
    (0 ∷ []) one.cuts.distances other.cuts.distances (omega arith) (inl (inl (inl refl)))) (omega arith) in
    let late : 600 ≤ n.minute → 600 ≤ at_minute.0 = λ h. at_minute.1.greatest 600 (in_listed 600 1439
    (0 ∷ 600 ∷ []) one.cuts.minutes other.cuts.minutes (omega arith) (inl (inl (inr (inl refl))))) h in
    let time = tested one other n d at_minute.0 (time_tested n.day n.minute is.time) like at_minute.1.le late in
    let c : MeterContext = record {
      position = n.position;
      zone = n.zone;
      day = d.number;
      minute = at_minute.0;
      ticks = at_tick.0;
      pulses = at_pulse.0;
    } in (
      c,
      record {
        grid = record {
          position = range_within 1 one.positions n.position is.position.0 (omega (arith, is.position.1));
          zone = range_within 1 one.zones n.zone is.zone.0 (omega (arith, is.zone.1));
          day = at_day d (days_until one other 73051) kept.1;
          time = time;
          minute = at_minute.1.there;
          ticks = at_tick.1.there;
          pulses = at_pulse.1.there;
        };
        context = record {
          position = is.position;
          zone = is.zone;
          time = time_there d.number at_minute.0 d_days (omega (arith, at_minute.1.le, minutes)) time;
          ticks = omega (arith, at_tick.1.le, is.ticks);
          pulses = omega (arith, at_pulse.1.le, is.pulses);
        };
        le = (
          omega arith,
          (
            omega arith,
            (
              subst (λ (x : ℕ). day_place d.number ≤ day_place x) place.2 kept.2,
              (at_minute.1.le, (at_tick.1.le, (at_pulse.1.le, tt))),
            ),
          ),
        );
        ticks = at_tick.1.le;
        pulses = at_pulse.1.le;
        first = same_cell t k n c t_has (record {
          position = refl;
          zone = refl;
          weekday = sym same.weekday ∙ ap (λ (x : Day). x.weekday) is_d;
          holiday = sym same.holiday ∙ ap (λ (x : Day). x.holiday) is_d;
          month_day = sym same.band ∙ ap (λ (x : Day). x.band) is_d;
          minute = count_same n.minute at_minute.0 one.cuts.minutes at_minute.1.le
              (λ x there le. at_minute.1.greatest x (in_listed x 1439 (0 ∷ 600 ∷ []) one.cuts.minutes other.cuts.minutes
              (omega (arith, le, minutes)) (inl (inr there))) le);
          distance = count_same n.pulses at_pulse.0 one.cuts.distances at_pulse.1.le
              (λ x there le. at_pulse.1.greatest x (in_listed x most_pulses
              (0 ∷ []) one.cuts.distances other.cuts.distances (omega (arith, le, is.pulses)) (inl (inr there))) le);
          time = count_same n.ticks at_tick.0 one.cuts.times at_tick.1.le (λ x there le. at_tick.1.greatest x (in_listed
              x last_tick (0 ∷ []) one.cuts.times other.cuts.times (omega (arith, le, is.ticks)) (inl (inr there))) le);
        });
        second = same_cell u k n c u_has (record {
          position = refl;
          zone = refl;
          weekday = sym same.weekday ∙ ap (λ (x : Day). x.weekday) is_d;
          holiday = sym same.other_holiday ∙ ap (λ (x : Day). x.other_holiday) is_d;
          month_day = sym same.other_band ∙ ap (λ (x : Day). x.other_band) is_d;
          minute = count_same n.minute at_minute.0 other.cuts.minutes at_minute.1.le
              (λ x there le. at_minute.1.greatest x (in_listed x 1439 (0 ∷ 600 ∷ []) one.cuts.minutes other.cuts.minutes
              (omega (arith, le, minutes)) (inr there)) le);
          distance = count_same n.pulses at_pulse.0 other.cuts.distances at_pulse.1.le
              (λ x there le. at_pulse.1.greatest x (in_listed x most_pulses
              (0 ∷ []) one.cuts.distances other.cuts.distances (omega (arith, le, is.pulses)) (inr there)) le);
          time = count_same n.ticks at_tick.0 other.cuts.times at_tick.1.le
              (λ x there le. at_tick.1.greatest x (in_listed x last_tick (0 ∷ []) one.cuts.times other.cuts.times
              (omega (arith, le, is.ticks)) (inr there)) le);
        });
      },
    )
