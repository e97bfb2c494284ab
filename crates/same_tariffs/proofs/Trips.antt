-- What two meters make of trips that are alike.
use Rattle.std.proofs.Common.{[], ℕ, ℤ, ◌*◌, ◌++◌, ◌+◌, ◌<◌, ◌∙◌, ◌∷◌, ◌≡◌, Bool, List, None, Option, Some, ap, arith}
use Rattle.std.proofs.{Common.{map, mul-pos, option_map, refl, subst, sum, sym}, lemmas.Grind.{common_steps}}
use Rattle.{taxi_units.specs.declared.receipt.Kind.{Kind}, drive_modes.specs.Distance.{millimetres_of}}
use Rattle.{tariff_check.specs.declared.values.Initial.{Initial}, meter_model.specs.Trip.{trip_of}}
use Rattle.meter_model.specs.{ClosedTrip.{entry_of_trip, receipt_of}, Setting.{modulus_of, rounding_of, stamp_at}}
use Rattle.meter_model.specs.{Display.{extras_shown, fare_shown}, Interval.{pulses_so_far}}
use Rattle.meter_model.specs.{Supplements.{amount_in, amounts_of}, declared.core_trip.CoreTrip.{CoreTrip}}
use Rattle.meter_model.specs.Trip.{charge_in, charges_of, core_trip_of, fare_by_fees, fare_of, saved_at, steps_shown}
use Rattle.same_tariffs.specs.Alike.{AreHeldAlike, AreHoldsAlike, AreMeteragesAlike, AreOpeningsAlike, AreTripsAlike}
use Rattle.same_tariffs.{specs.Alike.{AreTripsOfBothAlike, IsSameMoney, with_trips}, proofs.Agreement.{Agree}}
use Rattle.same_tariffs.specs.Common.{Meter, MeterTrip, Meterage, Part, Rounding, Setting, Trip, begun, display_of}
use Rattle.same_tariffs.specs.Common.{held_trip, pulses_in, pulses_of, steps_above, supplement_numbered, ticks_in}
use Rattle.same_tariffs.specs.Common.{ticks_so_far, unit_of, with_part}
use Rattle.same_tariffs.proofs.Money.{none-same, saved-same, steps-same, sum-same, times-money, times-same}
use Rattle.meter_model.specs.Trip as model

-- ---- parts

pub sum-more : (f : Part → ℕ) (parts : List Part) (part : Part) → sum (map f (parts ++ part ∷ [])) ≡ sum
    (map f parts) + f part
sum-more f [] part = omega arith
sum-more f (x ∷ parts) part = grind (arith, common_steps, sum-more f parts part)

-- a part more, of as many pulses and ticks, and of the same money
pub part-alike : (s t : Setting) (a b : MeterTrip) (x y : Part) → pulses_in x ≡ pulses_in y → ticks_in x ≡ ticks_in y
    → IsSameMoney (unit_of s) (unit_of t) (charge_in s x) (charge_in t y) → AreTripsAlike s t a b
    → AreTripsAlike s t (with_part x a) (with_part y b)
part-alike s t a b x y pulses ticks charge same = record {
  others = ap (with_part y) same.others;
  pulses = omega (arith, sum-more pulses_in a.parts x, sum-more pulses_in b.parts y, same.pulses, pulses);
  ticks = omega (arith, sum-more ticks_in a.parts x, sum-more ticks_in b.parts y, same.ticks, ticks);
  cover = same.cover;
  above = same.above;
  charges =
      let both = sum-same (unit_of s) (unit_of t) (charges_of s a) (charges_of t b) (charge_in s x) (charge_in t y)
      same.charges charge in
      record {
        scaled = ap (λ (n : ℕ). n * unit_of t) (sum-more (charge_in s) a.parts x) ∙ both.scaled
            ∙ ap (λ (n : ℕ). n * unit_of s) (sym (sum-more (charge_in t) b.parts y));
      };
}

-- what is so without trips and of each two that are alike is so of both
pub trips-by : (s t : Setting) (P : Option MeterTrip → Option MeterTrip → Type 0) → P None None
    → ((a b : MeterTrip) → AreTripsAlike s t a b → P (Some a) (Some b)) → (a b : Option MeterTrip)
    → AreTripsOfBothAlike s t a b → P a b
trips-by s t P none some None None same = none
trips-by s t P none some (Some a) (Some b) same = some a b same
trips-by s t P none some None (Some b) same = absurd same
trips-by s t P none some (Some a) None same = absurd same

pub parts-alike : (s t : Setting) (a b : Option MeterTrip) (x y : Part) → pulses_in x ≡ pulses_in y
    → ticks_in x ≡ ticks_in y
    → IsSameMoney (unit_of s) (unit_of t) (charge_in s x) (charge_in t y) → AreTripsOfBothAlike s t a b
    → AreTripsOfBothAlike s t (option_map (with_part x) a) (option_map (with_part y) b)
parts-alike s t a b x y pulses ticks charge same =
    trips-by s t (λ a b. AreTripsOfBothAlike s t (option_map (with_part x) a) (option_map (with_part y) b)) tt
    (λ a b same. part-alike s t a b x y pulses ticks charge same) a b same

-- a trip that begins
pub begun-alike : (s t : Setting) (fee other : Initial) (second roam : ℕ) → fee ≡ other
    → AreTripsAlike s t (begun s fee second roam) (begun t other second roam)
begun-alike s t fee other second roam is = record {
  others =
      ap (λ (i : Initial). record (begun t i second roam) { opening = (begun t other second roam).opening }) is;
  pulses = refl;
  ticks = refl;
  cover = subst (λ (i : Initial). IsSameMoney (unit_of s) (unit_of t) (fee.covers * unit_of s) (i.covers * unit_of t))
      is (times-same (unit_of s) (unit_of t) fee.covers);
  above = none-same (unit_of s) (unit_of t);
  charges = none-same (unit_of s) (unit_of t);
}

-- ---- numbers of trips that both meters show

pub pulses-alike : (s t : Setting) (a b : Option MeterTrip) → AreTripsOfBothAlike s t a b
    → pulses_so_far a ≡ pulses_so_far b
pulses-alike s t a b same =
    trips-by s t (λ a b. pulses_so_far a ≡ pulses_so_far b) refl (λ a b same. same.pulses) a b same

pub ticks-alike : (s t : Setting) (a b : Option MeterTrip) → AreTripsOfBothAlike s t a b
    → ticks_so_far a ≡ ticks_so_far b
ticks-alike s t a b same = trips-by s t (λ a b. ticks_so_far a ≡ ticks_so_far b) refl (λ a b same. same.ticks) a b same

step-is : (s t : Setting) → Agree s t → s.tariff.step.0 ≡ t.tariff.step.0
step-is s t agree = ap (λ (x : ℕ × Rounding). x.0) agree.step

rounding-is : (s t : Setting) → Agree s t → rounding_of s ≡ rounding_of t
rounding-is s t agree = ap (λ (x : ℕ × Rounding). x.1) agree.step

-- a display step of each tariff is the same money
step-money : (s t : Setting) → Agree s t → IsSameMoney (unit_of s) (unit_of t) (modulus_of s) (modulus_of t)
step-money s t agree =
    let same = times-same (unit_of s) (unit_of t) s.tariff.step.0 in
    subst (λ (n : ℕ). IsSameMoney (unit_of s) (unit_of t) (modulus_of s) (n * unit_of t)) (step-is s t agree) same

some-modulus : (n u : ℕ) → 0 < n → 0 < u → 0 < n * u
some-modulus n u some also = mul-pos some also

openings-alike : (s t : Setting) (a b : MeterTrip) → Agree s t → AreTripsAlike s t a b
    → AreOpeningsAlike (unit_of s) (unit_of t) (model.opening_of s a) (model.opening_of t b)
openings-alike s t a b agree same = record {
  cover = same.cover;
  above = same.above;
  modulus = step-money s t agree;
  some = some-modulus s.tariff.step.0 (unit_of s) agree.some_step agree.some_unit;
  also =
      some-modulus t.tariff.step.0 (unit_of t) (subst (λ (n : ℕ). 0 < n) (step-is s t agree) agree.some_step)
      agree.also_unit;
}

pub meterage-alike : (s t : Setting) (a b : MeterTrip) → Agree s t → AreTripsAlike s t a b
    → AreMeteragesAlike (unit_of s) (unit_of t) (core_trip_of s a).meterage (core_trip_of t b).meterage
meterage-alike s t a b agree same =
    saved-same (unit_of s) (unit_of t) (model.opening_of s a) (model.opening_of t b) (charges_of s a) (charges_of t b)
    agree.some_unit agree.also_unit (openings-alike s t a b agree same) same.charges

pub shown-alike : (s t : Setting) (a b : MeterTrip) → Agree s t → AreTripsAlike s t a b
    → steps_shown s a ≡ steps_shown t b
shown-alike s t a b agree same =
    steps-same (unit_of s) (unit_of t) (rounding_of s) (model.opening_of s a) (model.opening_of t b) (charges_of s a)
    (charges_of t b) agree.some_unit agree.also_unit (openings-alike s t a b agree same) same.charges
    ∙ ap (λ (r : Rounding). steps_above r (model.opening_of t b) (charges_of t b)) (rounding-is s t agree)

pub fare-alike : (s t : Setting) (a b : MeterTrip) → Agree s t → AreTripsAlike s t a b → fare_of s a ≡ fare_of t b
fare-alike s t a b agree same =
    let steps = shown-alike s t a b agree same in
    let step = step-is s t agree in
    ap (λ (n : ℕ). fare_by_fees a.fees s.tariff.step.0 n) steps
    ∙ ap (λ (n : ℕ). fare_by_fees a.fees n (steps_shown t b)) step
    ∙ ap (λ (x : MeterTrip). fare_by_fees x.fees t.tariff.step.0 (steps_shown t b)) same.others

amounts-each : (s t : Setting) → Agree s t → (numbers : List ℕ)
    → map (λ n. amount_in (supplement_numbered s.tariff.supplements n)) numbers
    ≡ map (λ n. amount_in (supplement_numbered t.tariff.supplements n)) numbers
amounts-each s t agree [] = refl
amounts-each s t agree (n ∷ numbers) =
    let one = ap amount_in (agree.supplements n) in
    let others = amounts-each s t agree numbers in
    cc

amounts-by : (s t : Setting) → Agree s t → (numbers : List ℕ) → amounts_of s.tariff numbers ≡ amounts_of t.tariff
    numbers
amounts-by s t agree numbers = ap sum (amounts-each s t agree numbers)

pub amounts-alike : (s t : Setting) (a b : MeterTrip) → Agree s t → AreTripsAlike s t a b
    → amounts_of s.tariff a.extras ≡ amounts_of t.tariff b.extras
amounts-alike s t a b agree same =
    amounts-by s t agree a.extras ∙ ap (λ (x : MeterTrip). amounts_of t.tariff x.extras) same.others

-- ---- held trips

-- what a core keeps of a trip is the same if its sums are
same-sums : (whole : CoreTrip) (p q t u a b : ℕ) → p ≡ q → t ≡ u → a ≡ b
    → record whole { pulses = p; ticks = t; extras_sum = a } ≡ record whole { pulses = q; ticks = u; extras_sum = b }
same-sums whole p q t u a b pulses ticks amounts = cc

-- a trip is held alike
pub held-alike : (s t : Setting) (a b : MeterTrip) (second : ℕ) (stopped : Bool) (position zone : ℕ) → Agree s t
    → AreTripsAlike s t a b
    → AreHeldAlike s t (held_trip s second stopped position zone a) (held_trip t second stopped position zone b)
held-alike s t a b second stopped position zone agree same =
    record {
      meterage = meterage-alike s t a b agree same;
      others = ap (saved_at second stopped position zone)
          (same-sums (core_trip_of t (record a { opening = b.opening; parts = b.parts })) _ _ _ _ _ _ same.pulses
          same.ticks (amounts-by s t agree a.extras) ∙ ap (core_trip_of t) same.others);
    }

-- and goes on alike
pub opened-alike : (s t : Setting) (a b : Trip) → Agree s t → AreHeldAlike s t a b
    → AreTripsAlike s t (trip_of s a) (trip_of t b)
opened-alike s t a b agree same =
    subst (λ (x : Trip). AreTripsAlike s t (trip_of s a) (trip_of t x)) same.others
    (opened-with s t a b.meterage agree same.meterage)
  where
    opened-with : (s t : Setting) (a : Trip) (m : Meterage) → Agree s t
        → AreMeteragesAlike (unit_of s) (unit_of t) a.meterage m
        → AreTripsAlike s t (trip_of s a) (trip_of t (record a { meterage = m }))
    opened-with s t a m agree same = record {
      others = refl;
      pulses = refl;
      ticks = refl;
      cover = same.cover;
      above =
          let full = times-money (unit_of s) (unit_of t) a.meterage.steps_full (modulus_of s) (modulus_of t)
          (step-money s t agree) in
          let both = sum-same (unit_of s) (unit_of t) (a.meterage.steps_full * modulus_of s)
          (a.meterage.steps_full * modulus_of t) a.meterage.rest m.rest full same.rest in
          subst (λ (n : ℕ). IsSameMoney (unit_of s) (unit_of t) (a.meterage.steps_full * modulus_of s + a.meterage.rest)
          (n * modulus_of t + m.rest)) same.steps both;
      charges = none-same (unit_of s) (unit_of t);
    }

pub opened-both : (s t : Setting) (a b : Option Trip) → Agree s t → AreHoldsAlike s t a b
    → AreTripsOfBothAlike s t (option_map (trip_of s) a) (option_map (trip_of t) b)
opened-both s t None None agree same = tt
opened-both s t (Some a) (Some b) agree same = opened-alike s t a b agree same
opened-both s t None (Some b) agree same = absurd same
opened-both s t (Some a) None agree same = absurd same

-- ---- what is shown and entered of them

pub entry-alike : (s t : Setting) (kind : Kind) (position : ℕ) (a b : MeterTrip) → Agree s t → AreTripsAlike s t a b
    → entry_of_trip s kind position a ≡ entry_of_trip t kind position b
entry-alike s t kind position a b agree same =
    let constant = agree.constant in
    let roam : millimetres_of s.constant a.roam ≡ millimetres_of t.constant b.roam =
    ap (λ (k : ℕ). millimetres_of k a.roam) constant
    ∙ ap (λ (x : MeterTrip). millimetres_of t.constant x.roam) same.others in
    let hired : millimetres_of s.constant (pulses_of a) ≡ millimetres_of t.constant (pulses_of b) =
    ap (λ (k : ℕ). millimetres_of k (pulses_of a)) constant ∙ ap (millimetres_of t.constant) same.pulses in
    let fare = fare-alike s t a b agree same in
    let amounts = amounts-alike s t a b agree same in
    cc

stamp-alike : (s t : Setting) (second : ℕ) → Agree s t → stamp_at s second ≡ stamp_at t second
stamp-alike s t second agree = ap (λ (offsets : List (ℕ × ℤ)). stamp_at (record s { offsets = offsets }) second)
    agree.offsets

pub receipt-alike : (s t : Setting) (kind : Kind) (finish position : ℕ) (a b : MeterTrip) (number : ℕ) → Agree s t
    → AreTripsAlike s t a b
    → receipt_of s kind finish position a number ≡ receipt_of t kind finish position b number
receipt-alike s t kind finish position a b number agree same =
    let constant = agree.constant in
    let other = record a { opening = b.opening; parts = b.parts } in
    let hired : millimetres_of s.constant (pulses_of a) ≡ millimetres_of t.constant (pulses_of b) =
    ap (λ (k : ℕ). millimetres_of k (pulses_of a)) constant ∙ ap (millimetres_of t.constant) same.pulses in
    let start = stamp-alike s t a.started agree in
    let end = stamp-alike s t finish agree in
    let steps = shown-alike s t a b agree same in
    let step = step-is s t agree in
    let fare : fare_of s a ≡ fare_of t other = fare-alike s t a b agree same ∙ ap (fare_of t) (sym same.others) in
    let amounts = amounts-by s t agree a.extras in
    let decimals = agree.decimals in
    let first : receipt_of s kind finish position a number ≡ receipt_of t kind finish position other number = cc in
    first ∙ ap (λ (x : MeterTrip). receipt_of t kind finish position x number) same.others

fare-shown-alike : (s t : Setting) (a b : Option MeterTrip) → Agree s t → AreTripsOfBothAlike s t a b
    → fare_shown s a ≡ fare_shown t b
fare-shown-alike s t a b agree same =
    trips-by s t (λ a b. fare_shown s a ≡ fare_shown t b) refl (λ a b same. fare-alike s t a b agree same) a b same

extras-shown-alike : (s t : Setting) (a b : Option MeterTrip) → Agree s t → AreTripsOfBothAlike s t a b
    → extras_shown s a ≡ extras_shown t b
extras-shown-alike s t a b agree same =
    trips-by s t (λ a b. extras_shown s a ≡ extras_shown t b) refl (λ a b same. amounts-alike s t a b agree same) a b
    same

pub display-alike : (s t : Setting) (m : Meter) (trip : Option MeterTrip) (hold : Option Trip) → Agree s t
    → AreTripsOfBothAlike s t m.trip trip
    → display_of s m ≡ display_of t (with_trips trip hold m)
display-alike s t m trip hold agree same =
    let fare = fare-shown-alike s t m.trip trip agree same in
    let extras = extras-shown-alike s t m.trip trip agree same in
    let decimals = agree.decimals in
    cc
