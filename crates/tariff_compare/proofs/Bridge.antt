-- What the tables of a sound tariff answer is what the tariff says.
use Rattle.std.{specs.Ordering.{int_eq}, proofs.lemmas.{Bool.Decides.{Decides-int_eq}, Int.{ints}}}
use Rattle.std.proofs.Common.{[], ℕ, ◌&&◌, ◌∙◌, ◌∷◌, ◌≡◌, Bool, List, Option, ap, arith, eqb, inl, inr, is_some, pos}
use Rattle.std.proofs.{Common.{refl, subst, sym}, lemmas.Bool.{cases_eq, eq-eqb, false_from_ne_true, ne_eqb}}
use Rattle.interval_clock.{specs.Calendar.{date_after}, proofs.Laws.{IsDateOf-date_after}}
use Rattle.tariff_calendar.specs.{Lists.{has_day, is_holiday}, Range.{IsInRange, IsInRangeOf}}
use Rattle.tariff_calendar.proofs.Laws.{holidays_are_dates-dates, holidays_are_dates-some}
use Rattle.{tariff_compile.specs.Tables.{IsTablesOf, lines_at}, tariff_compare.specs.Common.{zones_of}}
use Rattle.tariff_compile.proofs.Laws.{tables_equal_the_tree-fees, tables_equal_the_tree-lines}
use Rattle.tariff_compare.specs.Common.{ChoiceKind, Context, Counts, Differs, IsInRangeFor, MeterContext, Question}
use Rattle.tariff_compare.specs.Common.{Tree, date_place, lines_in, lists_of, positions_of, tables_of, weekday_of}
use Rattle.tariff_compare.specs.{Contexts.{HasTables, IsMeterContext, context_at}, Sides.{is_met_by, lines_by, side_of}}
use Rattle.tariff_compare.{specs.{CountedLine.{counts, is_at}, Grids.{CanBeAsked}}, proofs.Asked.{context_in_range}}
use Rattle.tariff_compare.specs.Kinds.{InForce, difference_at, differing_kind, in_force, is_asked, place_in}
use Rattle.tariff_compare.specs.Sides.{context_by, counts_by, difference_by, in_force_by, is_holiday_among, is_met}
use Rattle.tariff_compare.proofs.{EachKind.{in_force_is, places_are}, MeterTimes.{days_within, minutes_within}}

-- a day is among holidays by their numbers
equal_days : (holiday day : ℕ) → int_eq (pos holiday) (pos day) ≡ eqb holiday day
equal_days holiday day =
    elim (cases_eq holiday day) [
      | inl e ↦ (Decides-int_eq (pos holiday) (pos day)).1 (ap pos e) ∙ sym (eq-eqb holiday day e)
      | inr n ↦
          false_from_ne_true (int_eq (pos holiday) (pos day))
          (λ same. let is = (Decides-int_eq (pos holiday) (pos day)).0 same in n (omega (arith, ints, is)))
          ∙ sym (ne_eqb holiday day n)
    ]

among_is : (holidays : List ℕ) (day : ℕ) → has_day holidays (pos day) ≡ is_holiday_among holidays day
among_is [] day = refl
among_is (h ∷ hs) day = rw (equal_days h day, among_is hs day) refl

tables_are : (t : Tree) (k : ℕ) → HasTables t k → IsTablesOf t (tables_of t k)
tables_are t k has = record { writable = has.writable; sound = has.sound; constant = has.constant; parts = refl }

-- a holiday by the tables is one of the tariff
pub among : (t : Tree) (k day : ℕ) → HasTables t k → is_holiday_among (lists_of t k).holidays day
    ≡ is_holiday t.lines (date_after day).year (date_after day).month (date_after day).date
among t k day has =
    let d = date_after day in
    sym (among_is (lists_of t k).holidays day)
    ∙ holidays_are_dates-dates t k (pos day) d.year d.month d.date has.writable has.sound (IsDateOf-date_after day)

-- a context of a meter can be asked
pub can_be_asked : (t : Tree) (k : ℕ) (m : MeterContext) → IsMeterContext t m → CanBeAsked (tables_of t k) m
can_be_asked t k m is = record {
  position = is.position;
  zone = is.zone;
  day = days_within m.day m.minute is.time;
  minute = minutes_within m.day m.minute is.time;
  ticks = is.ticks;
  pulses = is.pulses;
}

abbrev with_holiday : Tree → (k : ℕ) → MeterContext → Bool → Context
with_holiday t k m holiday = record {
  constant = k;
  position = m.position;
  zone = m.zone;
  weekday = weekday_of (pos m.day);
  month_day = date_place (date_after m.day).month (date_after m.day).date;
  holiday = holiday;
  minute = m.minute;
  pulses = m.pulses;
  ticks = m.ticks;
}

-- what is asked of the tables is what is asked of the tariff
pub same_context_asked : (t : Tree) (k : ℕ) (m : MeterContext) → HasTables t k
    → context_by (tables_of t k) m ≡ context_at t k m
unfolding context_by
same_context_asked t k m has = ap (with_holiday t k m) (among t k m.day has)

pub in_range_for : (t : Tree) (k : ℕ) (m : MeterContext) → HasTables t k → IsMeterContext t m
    → IsInRangeFor (tables_of t k) (context_at t k m)
in_range_for t k m has is =
    context_in_range (tables_of t k) m (context_at t k m) (sym (same_context_asked t k m has)) (can_be_asked t k m is)

pub in_range_of : (t : Tree) (k : ℕ) (m : MeterContext) → HasTables t k → IsMeterContext t m
    → IsInRangeOf t k (context_at t k m)
in_range_of t k m has is =
    subst (λ (holidays : Bool). IsInRange k (positions_of t.lines) (zones_of t.lines) holidays (context_at t k m))
    (holidays_are_dates-some t k) (in_range_for t k m has is)

-- the lines are those of the tariff
lines_are : (t : Tree) (k : ℕ) (m : MeterContext) → HasTables t k → IsMeterContext t m
    → lines_by (tables_of t k) m ≡ lines_at t (context_at t k m)
unfolding lines_by
lines_are t k m has is =
    ap (lines_in (tables_of t k)) (same_context_asked t k m has)
    ∙ tables_equal_the_tree-lines t (tables_of t k) (context_at t k m) (tables_are t k has) (in_range_for t k m has is)

counts_are : (t : Tree) (k : ℕ) (kind : ChoiceKind) (place : ℕ) (m : MeterContext) → HasTables t k → IsMeterContext t m
    → counts_by (tables_of t k) kind place m ≡ counts t k kind place m
counts_are t k kind place m has is =
    ap (λ (o : Option ℕ). is_asked kind m && is_at place o)
    (ap (place_in kind) (lines_are t k m has is) ∙ places_are t kind (context_at t k m) has.sound)

-- what is in force by the tables is what is in force by the tariff
force_is : (t : Tree) (k : ℕ) (m : MeterContext) → HasTables t k → IsMeterContext t m
    → in_force_by (side_of t k) (context_by (tables_of t k) m) ≡ in_force t (context_at t k m)
force_is t k m has is =
    let x = context_at t k m in
    let range = in_range_for t k m has is in
    ap (in_force_by (side_of t k)) (same_context_asked t k m has)
    ∙ in_force_is t k x (tables_equal_the_tree-lines t (tables_of t k) x (tables_are t k has) range)
    (tables_equal_the_tree-fees t (tables_of t k) x (tables_are t k has) range)

-- so is what differs there
pub difference_is : (t u : Tree) (k : ℕ) (m : MeterContext) → HasTables t k → HasTables u k → IsMeterContext t m
    → IsMeterContext u m → difference_by (side_of t k) (side_of u k) m ≡ difference_at t u k m
difference_is t u k m t_has u_has t_is u_is =
    ap (λ (f : InForce). differing_kind m f (in_force_by (side_of u k) (context_by (tables_of u k) m)))
    (force_is t k m t_has t_is)
    ∙ ap (differing_kind m (in_force t (context_at t k m))) (force_is u k m u_has u_is)

-- the answer to a question by the tables is that by the tariffs
pub met_is : (t u : Tree) (k : ℕ) (question : Question) (m : MeterContext) → HasTables t k → HasTables u k
    → IsMeterContext t m → IsMeterContext u m
    → is_met_by (side_of t k) (side_of u k) question m ≡ is_met t u k question m
met_is t u k (Counts kind place) m t_has u_has t_is u_is = counts_are t k kind place m t_has t_is
met_is t u k Differs m t_has u_has t_is u_is = ap is_some (difference_is t u k m t_has u_has t_is u_is)
