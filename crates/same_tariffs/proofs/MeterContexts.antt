-- The contexts that meters within reach are charged and hired in, and settings that agree because their tariffs are the
-- same.
use Rattle.{std.{specs.Option.{unwrap_or}, proofs.Common.{true, unsigned_abs}}, tariff_tree.specs.Meaning.{at_hiring}}
use Rattle.std.proofs.Common.{ℕ, ◌*◌, ◌<◌, ◌∙◌, ◌≡◌, ◌≤◌, Option, ap, arith, get_or, mul-pos, pos, refl, subst, sym}
use Rattle.{drive_modes.specs.declared.meterage.Rounding.TheVariants.{Behind}, interval_clock.specs.Offsets.{offset_at}}
use Rattle.{interval_clock.specs.Calendar.{weekday_of}, tariff_check.proofs.Laws.{sound_tariffs_have_sound_parts-parts}}
use Rattle.tariff_check.specs.{Measure.{measure_of}, SoundTariff.{SoundTariff}}
use Rattle.tariff_check.specs.{Parts.{RateNumbers, positions_of, rates_of, zones_of}, SoundLookups.{rate_in_force}}
use Rattle.{tariff_compare.specs.Contexts.{IsMeterTime}, meter_model.specs.{Charge.{charge_by}, Interval.{context_on}}}
use Rattle.tariff_compare.{specs.Same.{cost_same, rate_in}, proofs.Laws.{no_difference-hiring, no_difference-rate}}
use Rattle.same_tariffs.{specs.{Alike.{IsSameMoney}, Reached.{AreSet, IsPlaced}}, proofs.Clocks.{day-from, offset-in}}
use Rattle.same_tariffs.specs.Common.{IsFromTo, IsMeterContext, IsOffsetList, IsSecond, Meter, MeterContext, Mode}
use Rattle.same_tariffs.specs.Common.{Rounding, Setting, Tree, charge_at, context_at, context_now, context_of, day_of}
use Rattle.same_tariffs.specs.Common.{fees_in_force, initial_by, last_tick, local_at, local_second, minute_of_day}
use Rattle.same_tariffs.specs.Common.{rate_place, sound_of, supplement_numbered, ticks_so_far, unit_of}
use Rattle.same_tariffs.specs.Contexts.{IsChargedIn, IsHiredIn, IsSettingInRange, meter_context_at, without_trip}
use Rattle.same_tariffs.specs.Same.{AreSameSettings}
use Rattle.same_tariffs.proofs.{Agreement.{Agree}, Capped.{capped, rate-capped}, Rates.{charge-same, rate-fits}}

-- ---- contexts of meters

-- a second of the meter has a local day and a minute of the meter
time-is : (t : Tree) (s : Setting) (second : ℕ) → IsSettingInRange t s → IsSecond second
    → IsMeterTime (unsigned_abs (day_of (local_second s.offsets second)))
    (minute_of_day (local_second s.offsets second))
time-is t s second range is = record {
  second = second;
  offset = offset_at s.offsets second;
  second_in = is;
  offset_in = offset-in s.offsets second range.offsets;
  day_is = day-from s.offsets second range.offsets is;
  minute_is = refl;
}

-- a meter in place has a context of a meter at a second
position-is : (t : Tree) (s : Setting) (m : Meter) → IsSettingInRange t s → IsPlaced s m
    → IsFromTo 1 (positions_of t.lines) m.position
position-is t s m range placed =
    subst (λ (p : SoundTariff). IsFromTo 1 p.positions m.position) range.parts placed.set.position_in

zone-is : (t : Tree) (s : Setting) (m : Meter) → IsSettingInRange t s → IsPlaced s m
    → IsFromTo 1 (zones_of t.lines) m.zone
zone-is t s m range placed = subst (λ (p : SoundTariff). IsFromTo 1 p.zones m.zone) range.parts placed.set.zone_in

context-is : (t : Tree) (s : Setting) (second : ℕ) (m : Meter) → IsSettingInRange t s → IsPlaced s m → IsSecond second
    → ticks_so_far m.trip ≤ last_tick → IsMeterContext t (meter_context_at s second m)
context-is t s second m range placed is short =
    record {
      position = position-is t s m range placed;
      zone = zone-is t s m range placed;
      time = time-is t s second range is;
      ticks =
          short;
      pulses = omega arith;
    }

without-is : (t : Tree) (s : Setting) (second : ℕ) (m : Meter) → IsSettingInRange t s → IsPlaced s m → IsSecond second
    → IsMeterContext t (without_trip (meter_context_at s second m))
without-is t s second m range placed is =
    record {
      position = position-is t s m range placed;
      zone = zone-is t s m range placed;
      time = time-is t s second range is;
      ticks =
          omega arith;
      pulses = omega arith;
    }

-- what is asked there is what is asked at the meter
capped-over : (t : Tree) (s : Setting) (second : ℕ) (m : Meter) → IsOffsetList s.offsets → IsSecond second
    → capped (context_on (record s { tariff = sound_of t }) (local_at s second) m) ≡ context_at t s.constant
    (meter_context_at s second m)
capped-over t s second m offsets is =
    let weekday : weekday_of (day_of (local_second s.offsets second)) ≡ weekday_of
    (pos (unsigned_abs (day_of (local_second s.offsets second)))) =
    ap weekday_of (day-from s.offsets second offsets is) in
    cc

capped-is : (t : Tree) (s : Setting) (second : ℕ) (m : Meter) → IsSettingInRange t s → IsSecond second
    → capped (context_on s (local_at s second) m) ≡ context_at t s.constant (meter_context_at s second m)
capped-is t s second m range is =
    ap (λ (p : SoundTariff). capped (context_on (record s { tariff = p }) (local_at s second) m)) range.parts
    ∙ capped-over t s second m range.offsets is

hiring-over : (t : Tree) (s : Setting) (second : ℕ) (m : Meter) → IsOffsetList s.offsets → IsSecond second
    → at_hiring (context_on (record s { tariff = sound_of t }) (local_at s second) m) ≡ context_at t s.constant
    (without_trip (meter_context_at s second m))
hiring-over t s second m offsets is =
    let weekday : weekday_of (day_of (local_second s.offsets second)) ≡ weekday_of
    (pos (unsigned_abs (day_of (local_second s.offsets second)))) =
    ap weekday_of (day-from s.offsets second offsets is) in
    cc

hiring-is : (t : Tree) (s : Setting) (second : ℕ) (m : Meter) → IsSettingInRange t s → IsSecond second
    → at_hiring (context_on s (local_at s second) m) ≡ context_at t s.constant
    (without_trip (meter_context_at s second m))
hiring-is t s second m range is =
    ap (λ (p : SoundTariff). at_hiring (context_on (record s { tariff = p }) (local_at s second) m)) range.parts
    ∙ hiring-over t s second m range.offsets is

pub charged-in : (t : Tree) (s : Setting) (m : Meter) → IsSettingInRange t s → IsPlaced s m
    → ticks_so_far m.trip ≤ last_tick → IsChargedIn t s m (meter_context_at s m.began m)
charged-in t s m range placed short = record {
  context = context-is t s m.began m range placed placed.began_in short;
  rate = rate-capped t (context_of s m) range.writable range.constant.1
      ∙ ap (rate_place t) (capped-is t s m.began m range placed.began_in);
}

pub hired-in : (t : Tree) (s : Setting) (m : Meter) → IsSettingInRange t s → IsPlaced s m
    → IsHiredIn t s m (without_trip (meter_context_at s m.clock m))
hired-in t s m range placed = record {
  context = without-is t s m.clock m range placed placed.clock_in;
  fee = ap (initial_by t) (hiring-is t s m.clock m range placed.clock_in);
}

-- ---- settings with tariffs that are the same

-- what two settings have of their tariffs is equal if it is of the tariffs
parts-both : {A : Type 0} (a b : Tree) (s t : Setting) (of : SoundTariff → A) → AreSameSettings a b s t
    → of (sound_of a) ≡ of (sound_of b) → of s.tariff ≡ of t.tariff
parts-both a b s t of same is = ap of same.one.parts ∙ is ∙ sym (ap of same.other.parts)

-- the context of a meter doesn't depend on the tariff
constant-is : (a b : Tree) (s t : Setting) → AreSameSettings a b s t → s.constant ≡ t.constant
constant-is a b s t same = ap (λ (x : Setting). x.constant) same.others

context-both : (a b : Tree) (s t : Setting) (second : ℕ) (m : Meter) → AreSameSettings a b s t
    → meter_context_at s second m ≡ meter_context_at t second m
context-both a b s t second m same = ap (λ (x : Setting). meter_context_at x second m) same.others

-- a meter of the one in its place is one of the other
placed-both : (a b : Tree) (s t : Setting) (m : Meter) → AreSameSettings a b s t → IsPlaced s m → IsPlaced t m
placed-both a b s t m same placed = record {
  set = record {
    position_in = subst (λ (n : ℕ). IsFromTo 1 n m.position)
        (parts-both a b s t (λ p. p.positions) same same.tariffs.frame.positions) placed.set.position_in;
    zone_in = subst (λ (n : ℕ). IsFromTo 1 n m.zone)
        (parts-both a b s t (λ p. p.zones) same same.tariffs.frame.zones) placed.set.zone_in;
  };
  clock_in = placed.clock_in;
  began_in = placed.began_in;
}

-- the rate of a meter's interval is that of the meter's context
rate-there : (t : Tree) (s : Setting) (m : Meter) (c : MeterContext) → IsChargedIn t s m c
    → rate_in_force (sound_of t) (context_of s m) ≡ rate_in t (context_at t s.constant c)
rate-there t s m c charged =
    ap (λ (o : Option ℕ). get_or (rates_of t.lines) (unwrap_or o 0) (record { a = 0; b = 0; c = 0; e = 0 }))
    charged.rate

-- what an interval costs by the mode and the constant of a setting, and by the parts of a tariff
abbrev charge_over : Setting → SoundTariff → Meter → (p : ℕ) → ℕ
charge_over s tariff m p = charge_by s.mode s.constant tariff.measure (rate_in_force tariff (context_of s m)) p

rates-over : (a b : Tree) (s t : Setting) (m : Meter) → AreSameSettings a b s t → IsPlaced s m
    → ticks_so_far m.trip ≤ last_tick → (p : ℕ)
    → IsSameMoney (s.constant * measure_of a.lines) (t.constant * measure_of b.lines) (charge_over s (sound_of a) m p)
    (charge_over t (sound_of b) m p)
rates-over a b s t m same placed short p =
    let c = meter_context_at s m.began m in
    let one = charged-in a s m same.one placed short in
    let there = charged-in b t m same.other (placed-both a b s t m same placed) short in
    let other : IsChargedIn b t m c = subst (λ (x : MeterContext). IsChargedIn b t m x)
    (sym (context-both a b s t m.began m same)) there in
    let constant = constant-is a b s t same in
    let r = rate_in_force (sound_of a) (context_of s m) in
    let q = rate_in_force (sound_of b) (context_of t m) in
    let rate : q ≡ rate_in b (context_at b s.constant c) =
    rate-there b t m c other ∙ ap (λ (k : ℕ). rate_in b (context_at b k c)) (sym constant) in
    let cost : cost_same r q ≡ true =
    ap (λ (x : RateNumbers). cost_same x q) (rate-there a s m c one)
    ∙ ap (cost_same (rate_in a (context_at a s.constant c))) rate
    ∙ no_difference-rate a b s.constant c (same.tariffs.contexts c one.context) in
    let charges = charge-same s.mode s.constant (measure_of a.lines) (measure_of b.lines) p r q
    (rate-fits a (context_of s m) same.one.writable same.one.sound)
    (rate-fits b (context_of t m) same.other.writable same.other.sound) cost in
    let modes : s.mode ≡ t.mode = ap (λ (x : Setting). x.mode) same.others in
    subst (λ (k : ℕ). IsSameMoney (s.constant * measure_of a.lines) (k * measure_of b.lines)
    (charge_by s.mode s.constant (measure_of a.lines) r p) (charge_by t.mode k (measure_of b.lines) q p)) constant
    (subst (λ (mode : Mode). IsSameMoney (s.constant * measure_of a.lines) (s.constant * measure_of b.lines)
    (charge_by s.mode s.constant (measure_of a.lines) r p) (charge_by mode s.constant (measure_of b.lines) q p)) modes
    charges)

rates-agree : (a b : Tree) (s t : Setting) (m : Meter) → AreSameSettings a b s t → IsPlaced s m
    → ticks_so_far m.trip ≤ last_tick → (p : ℕ)
    → IsSameMoney (unit_of s) (unit_of t) (charge_at s (context_of s m) p) (charge_at t (context_of t m) p)
rates-agree a b s t m same placed short p =
    subst (λ (x : SoundTariff). IsSameMoney (s.constant * x.measure) (unit_of t) (charge_over s x m p)
    (charge_over t t.tariff m p)) (sym same.one.parts)
    (subst (λ (y : SoundTariff). IsSameMoney (s.constant * measure_of a.lines) (t.constant * y.measure)
    (charge_over s (sound_of a) m p) (charge_over t y m p)) (sym same.other.parts)
    (rates-over a b s t m same placed short p))

hirings-agree : (a b : Tree) (s t : Setting) (m : Meter) → AreSameSettings a b s t → IsPlaced s m
    → fees_in_force s.tariff (context_now s m) ≡ fees_in_force t.tariff (context_now t m)
hirings-agree a b s t m same placed =
    let c = without_trip (meter_context_at s m.clock m) in
    let one = hired-in a s m same.one placed in
    let there = hired-in b t m same.other (placed-both a b s t m same placed) in
    let other : IsHiredIn b t m c = subst (λ (x : MeterContext). IsHiredIn b t m (without_trip x))
    (sym (context-both a b s t m.clock m same)) there in
    let fees = no_difference-hiring a b s.constant c refl (same.tariffs.contexts c one.context) in
    ap (λ (x : SoundTariff). fees_in_force x (context_now s m)) same.one.parts
    ∙ one.fee ∙ fees ∙ ap (λ (k : ℕ). initial_by b (context_at b k c)) (constant-is a b s t same) ∙ sym other.fee
    ∙ ap (λ (x : SoundTariff). fees_in_force x (context_now t m)) (sym same.other.parts)

-- a unit of charge and a display step are some
unit-some : (t : Tree) (s : Setting) → IsSettingInRange t s → 0 < unit_of s
unit-some t s range =
    let parts = sound_tariffs_have_sound_parts-parts t range.writable range.sound in
    subst (λ (x : SoundTariff). 0 < s.constant * x.measure) (sym range.parts)
    (mul-pos (omega (arith, range.constant.0)) (omega (arith, parts.measure.0)))

step-some : (t : Tree) (s : Setting) → IsSettingInRange t s → 0 < s.tariff.step.0
step-some t s range =
    let parts = sound_tariffs_have_sound_parts-parts t range.writable range.sound in
    subst (λ (x : SoundTariff). 0 < x.step.0) (sym range.parts)
    (subst (λ (o : Option (ℕ × Rounding)). 0 < (unwrap_or o (0, Behind)).0) (sym parts.step.1) parts.step.2.0)

-- the first position and the first zone are set
first-set : (t : Tree) (s : Setting) → IsSettingInRange t s → AreSet s.tariff 1 1
first-set t s range =
    let parts = sound_tariffs_have_sound_parts-parts t range.writable range.sound in
    let first : AreSet (sound_of t) 1 1 = record {
      position_in = (omega arith, parts.positions.0);
      zone_in = (omega arith, parts.zones.0);
    } in
    subst (λ (x : SoundTariff). AreSet x 1 1) (sym range.parts) first

pub agree : (a b : Tree) (s t : Setting) → AreSameSettings a b s t → Agree s t
agree a b s t same = record {
  hold = ap (λ (x : Setting). x.hold_time) same.others;
  constant = constant-is a b s t same;
  offsets = ap (λ (x : Setting). x.offsets) same.others;
  decimals = parts-both a b s t (λ p. p.decimals) same same.tariffs.frame.decimals;
  step = parts-both a b s t (λ p. p.step) same same.tariffs.frame.step;
  positions = parts-both a b s t (λ p. p.positions) same same.tariffs.frame.positions;
  zones = parts-both a b s t (λ p. p.zones) same same.tariffs.frame.zones;
  supplements = λ n. parts-both a b s t (λ p. supplement_numbered p.supplements n) same
      (same.tariffs.frame.supplements n);
  first = first-set a s same.one;
  some_step = step-some a s same.one;
  some_unit = unit-some a s same.one;
  also_unit = unit-some b t same.other;
  rates = λ m placed short p. rates-agree a b s t m same placed short p;
  hirings = λ m placed. hirings-agree a b s t m same placed;
}

-- a setting agrees with itself
pub agree-self : (t : Tree) (s : Setting) → IsSettingInRange t s → Agree s s
agree-self t s range = record {
  hold = refl;
  constant = refl;
  offsets = refl;
  decimals = refl;
  step = refl;
  positions = refl;
  zones = refl;
  supplements = λ n. refl;
  first = first-set t s range;
  some_step = step-some t s range;
  some_unit = unit-some t s range;
  also_unit = unit-some t s range;
  rates = λ m placed short p. record { scaled = refl };
  hirings = λ m placed. refl;
}
