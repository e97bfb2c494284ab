-- What is asked of tables in a context of a meter.
use Rattle.std.proofs.Common.{[], ℕ, ◌&&◌, ◌∷◌, ◌≡◌, Bool, List, ap, arith, length, ltb, pos, refl, subst, sym, true}
use Rattle.{std.proofs.lemmas.Bool.{false≢true, lt-ltb}, interval_clock.specs.Calendar.{date_after}}
use Rattle.tariff_compare.specs.Common.{Context, IsInRangeFor, MeterContext, TableParts, date_place, lines_in}
use Rattle.tariff_compare.specs.{Common.{weekday_of}, Sides.{context_by, is_holiday_among, lines_by}}
use Rattle.tariff_compare.{specs.Grids.{CanBeAsked}, proofs.Times.{date_place_most, weekday_is}}

-- a test that passes leaves the answer to the other
pub also : (a b c : Bool) → a ≡ true → c ≡ b → c ≡ (a && b)
also a b c h e = rw h e

-- the lines by the tables are those of the context
pub lines_by_is : (tables : TableParts) (m : MeterContext) (x : Context) → x ≡ context_by tables m
    → lines_in tables x ≡ lines_by tables m
unfolding lines_by
lines_by_is tables m x same = ap (lines_in tables) same

abbrev asked_as : (tables : TableParts) (m : MeterContext) (constant weekday month_day : ℕ) (holiday : Bool) → Context
asked_as tables m constant weekday month_day holiday = record {
  constant = constant;
  position = m.position;
  zone = m.zone;
  weekday = weekday;
  month_day = month_day;
  holiday = holiday;
  minute = m.minute;
  pulses = m.pulses;
  ticks = m.ticks;
}

-- a context with the parts that are asked is the one that is asked
pub same_asked : (tables : TableParts) (m : MeterContext) (constant weekday month_day : ℕ) (holiday : Bool)
    → constant ≡ tables.constant → weekday ≡ weekday_of (pos m.day) → month_day
    ≡ date_place (date_after m.day).month (date_after m.day).date
    → holiday ≡ is_holiday_among tables.cuts.holidays m.day
    → asked_as tables m constant weekday month_day holiday ≡ context_by tables m
unfolding context_by
same_asked tables m constant weekday month_day holiday h₁ h₂ h₃ h₄ = rw (h₁, h₂, h₃, h₄) refl

some_among : (xs : List ℕ) (day : ℕ) → is_holiday_among xs day ≡ true → ltb 0 (length xs) ≡ true
some_among [] day h = absurd (false≢true h)
some_among (x ∷ xs) day h = lt-ltb 0 (length (x ∷ xs)) (omega arith)

range_by : (tables : TableParts) (m : MeterContext) → CanBeAsked tables m → IsInRangeFor tables (context_by tables m)
unfolding context_by
range_by tables m can = record {
  constant = refl;
  position = can.position;
  zone = can.zone;
  weekday = rw (weekday_is m.day) (omega arith, omega arith);
  month_day = date_place_most m.day;
  minute = can.minute;
  holiday = λ is. some_among tables.cuts.holidays m.day is;
  pulses = omega (arith, can.pulses);
  ticks = omega (arith, can.ticks);
}

-- the context that is asked can be looked up
pub context_in_range : (tables : TableParts) (m : MeterContext) (x : Context) → x ≡ context_by tables m
    → CanBeAsked tables m → IsInRangeFor tables x
context_in_range tables m x same can = subst (IsInRangeFor tables) (sym same) (range_by tables m can)
