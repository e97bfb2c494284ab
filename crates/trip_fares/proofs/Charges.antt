-- What intervals in Hired cost together, and the fares of their bounds.
use Rattle.std.{specs.List.{flat_map, sum_by}, proofs.{Math.Nat.{mul-pos}, lemmas.List.Sums.{sum-map, sum_by-cons}}}
use Rattle.std.proofs.Common.{[], ℕ, ◌*◌, ◌++◌, ◌<◌, ◌∙◌, ◌∷◌, ◌≡◌, ◌≤◌, List, ap, arith, map, subst, sum, sym}
use Rattle.drive_modes.specs.{Charge.{charge_of}, declared.{charges.Mode.{Mode}, meterage.Rounding.{Rounding}}}
use Rattle.drive_modes.specs.{Fare.{Opening, shown_fare, steps_above}, Stretches.{most_charge, stretch_charge}}
use Rattle.drive_modes.specs.Stretches.{AreEvenSpeeds, AreOfStretches, Interval, Stretch, interval_charge, least_charge}
use Rattle.{tariff_tree.specs.declared.context.Context.{Context}, tariff_check.specs.SoundTariff.{SoundTariff}}
use Rattle.{tariff_check.specs.Measure.{measure_of}, tariff_compile.specs.Tables.{IsFit, TableParts, weights_in_force}}
use Rattle.meter_model.{specs.Charge.{charge_at}, proofs.Laws.{kept-run, the_store_keeps_the_trip-begins}}
use Rattle.{meter_model.specs.Setting.{modulus_of, rounding_of, unit_of}, meter_states.specs.Setting.{IsTariffOf}}
use Rattle.meter_model.specs.Trip.{InHired, InStopped, Rest, charge_in, charges_of, fare_of, opening_of}
use Rattle.trip_fares.specs.Common.{Durable, Event, HoldFits, MeterTrip, Part, Receipt, Setting, Single, opened}
use Rattle.trip_fares.{specs.Common.{parts_over, with_parts}, proofs.Spans.{fare_over}}
use Rattle.trip_fares.specs.RunTrips.{IsOfTrip, fare_after, interval_in, intervals_of, meter_in}

-- the intervals of parts are charged what the parts are
charges_by : (s : Setting) (parts : List Part)
    → ((x : Context) (p : ℕ) → charge_of s.mode (weights_in_force s.tariff s.constant x) p ≡ charge_at s x p)
    → sum_by (charge_in s) parts ≡ sum_by (interval_charge s.mode) (flat_map (interval_in s) parts)
charges_by s [] by = omega arith
charges_by s (InHired p x ∷ parts) by =
    let rest = charges_by s parts by in
    let one : charge_of s.mode (weights_in_force s.tariff s.constant x) p ≡ charge_at s x p = by x p in
    omega (
      arith,
      rest,
      one,
      sum_by-cons (charge_in s) (InHired p x) parts,
      sum_by-cons (interval_charge s.mode) (record { weights = weights_in_force s.tariff s.constant x; pulses = p })
          (flat_map (interval_in s) parts),
    )
charges_by s (InStopped p ∷ parts) by =
    omega (arith, charges_by s parts by, sum_by-cons (charge_in s) (InStopped p) parts)
charges_by s (Rest p ∷ parts) by = omega (arith, charges_by s parts by, sum_by-cons (charge_in s) (Rest p) parts)

-- a trip that had no part has the charges of its intervals
fare_by : (s : Setting) (t : MeterTrip) (parts : List Part)
    → ((x : Context) (p : ℕ) → charge_of s.mode (weights_in_force s.tariff s.constant x) p ≡ charge_at s x p)
    → t.parts ≡ []
    → fare_of s (with_parts parts t)
    ≡ fare_after s t (sum (map (interval_charge s.mode) (flat_map (interval_in s) parts)))
fare_by s t parts by none =
    let all : t.parts ++ parts ≡ parts = ap (λ (ps : List Part). ps ++ parts) none in
    let charges : charges_of s (with_parts parts t)
    ≡ sum (map (interval_charge s.mode) (flat_map (interval_in s) parts)) =
    ap (λ (ps : List Part). sum (map (charge_in s) ps)) all
    ∙ (sum-map (charge_in s) parts
    ∙ (charges_by s parts by ∙ sym (sum-map (interval_charge s.mode) (flat_map (interval_in s) parts)))) in
    ap (λ (n : ℕ). fare_after s t n) charges

pub fare_of_trip : (s : Setting) (durable : Durable) (events : List Event) (receipt : Receipt)
    → ((x : Context) (p : ℕ) → charge_of s.mode (weights_in_force s.tariff s.constant x) p ≡ charge_at s x p)
    → HoldFits s durable.hold → (of : IsOfTrip s durable events receipt)
    → receipt.fare ≡ fare_after s of.trip (sum (map (interval_charge s.mode) (intervals_of s durable events receipt of)))
fare_of_trip s durable events receipt by fits of =
    let m = meter_in s durable of.before in
    let kept = kept-run s of.before (opened s durable) (the_store_keeps_the_trip-begins s durable fits) in
    fare_over s of.amid of.closing m of.trip receipt of.has kept of.lasts of.printed
    ∙ fare_by s of.trip (parts_over s (of.amid ++ of.closing ∷ []) m) by of.begins

-- a display step takes something
pub modulus_some : (s : Setting) (tables : TableParts) → IsTariffOf s tables → IsFit tables → 0 < modulus_of s
modulus_some s tables is fit =
    let unit : tables.measure ≡ unit_of s =
    ap (λ (q : TableParts). q.measure) is.compiled.parts
    ∙ (ap (λ (k : ℕ). k * measure_of is.tree.lines) is.constant
    ∙ ap (λ (t : SoundTariff). s.constant * t.measure) (sym is.parts)) in
    let step : tables.step ≡ s.tariff.step.0 =
    ap (λ (q : TableParts). q.step) is.compiled.parts ∙ ap (λ (t : SoundTariff). t.step.0) (sym is.parts) in
    let some : 0 < s.tariff.step.0 = omega (arith, step, fit.step.0) in
    let more : 0 < unit_of s = omega (arith, unit, fit.measure.0) in
    mul-pos some more

-- greater charges show no smaller fare, as a law of drive_modes says
pub record Bounds : Type 0 where
  pub sum_is : (stretches : List Stretch) (intervals : List Interval) → AreOfStretches stretches intervals
      → sum (map (interval_charge Single) intervals) ≡ sum_by (stretch_charge Single) stretches
  pub least : (stretches : List Stretch) → sum_by least_charge stretches ≤ sum_by (stretch_charge Single) stretches
  pub most : (stretches : List Stretch) → AreEvenSpeeds stretches
      → sum_by (stretch_charge Single) stretches ≤ sum_by most_charge stretches
  pub rises : (initial minimum step : ℕ) (rounding : Rounding) (opening : Opening) (less more : ℕ)
      → 0 < opening.modulus → less ≤ more
      → shown_fare initial minimum step (steps_above rounding opening less)
      ≤ shown_fare initial minimum step (steps_above rounding opening more)

fare_rises : Bounds → (s : Setting) (t : MeterTrip) (less more : ℕ) → 0 < modulus_of s → less ≤ more
    → fare_after s t less ≤ fare_after s t more
fare_rises by s t less more some upto =
    by.rises t.fees.initial t.fees.minimum s.tariff.step.0 (rounding_of s) (opening_of s t) less more some upto

single_sum : Bounds → (mode : Mode) (stretches : List Stretch) (intervals : List Interval) → mode ≡ Single
    → AreOfStretches stretches intervals
    → sum (map (interval_charge mode) intervals) ≡ sum_by (stretch_charge Single) stretches
single_sum by mode stretches intervals single are =
    ap (λ (m : Mode). sum (map (interval_charge m) intervals)) single ∙ by.sum_is stretches intervals are

pub fare_least : Bounds → (s : Setting) (t : MeterTrip) (fare : ℕ) (stretches : List Stretch) (intervals : List Interval)
    → 0 < modulus_of s → s.mode ≡ Single → AreOfStretches stretches intervals
    → fare ≡ fare_after s t (sum (map (interval_charge s.mode) intervals))
    → fare_after s t (sum_by least_charge stretches) ≤ fare
fare_least by s t fare stretches intervals some single are is =
    let all = single_sum by s.mode stretches intervals single are in
    let upto : sum_by least_charge stretches ≤ sum (map (interval_charge s.mode) intervals) =
    omega (arith, all, by.least stretches) in
    subst (λ (f : ℕ). fare_after s t (sum_by least_charge stretches) ≤ f) (sym is)
    (fare_rises by s t (sum_by least_charge stretches) (sum (map (interval_charge s.mode) intervals)) some upto)

pub fare_most : Bounds → (s : Setting) (t : MeterTrip) (fare : ℕ) (stretches : List Stretch) (intervals : List Interval)
    → 0 < modulus_of s → s.mode ≡ Single → AreOfStretches stretches intervals → AreEvenSpeeds stretches
    → fare ≡ fare_after s t (sum (map (interval_charge s.mode) intervals))
    → fare ≤ fare_after s t (sum_by most_charge stretches)
fare_most by s t fare stretches intervals some single are even is =
    let all = single_sum by s.mode stretches intervals single are in
    let upto : sum (map (interval_charge s.mode) intervals) ≤ sum_by most_charge stretches =
    omega (arith, all, by.most stretches even) in
    subst (λ (f : ℕ). f ≤ fare_after s t (sum_by most_charge stretches)) (sym is)
    (fare_rises by s t (sum (map (interval_charge s.mode) intervals)) (sum_by most_charge stretches) some upto)
