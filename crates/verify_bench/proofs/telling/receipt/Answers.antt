use Rattle.std.{specs.Option.{unwrap_or}, proofs.Common.{ℕ, ◌≡◌, Option, ap, arith, refl, sym}}
use Rattle.drive_modes.specs.{Distance.{millimetres_of}, declared.meterage.Rounding.{Rounding, TheVariants.{Behind}}}
use Rattle.meter_model.specs.Trip.{charges_of, fare_of, pulses_of, steps_shown}
use Rattle.verify_bench.specs.{Common.{Sums, amounts_of, stamp_at}, Settings.{setting_under}}
use Rattle.verify_bench.proofs.Benches.{whole_pulses}
use Rattle.verify_bench.proofs.telling.receipt.Goals as goal

pub returns : goal.returns
returns c hired trip is =
    let s = setting_under c.args.checked.now c.args.params.now in
    let start : c.stamp-start.result ≡ stamp_at s trip.started = rw (c.stamp-start.ensures s refl, is.started) refl in
    let finish : c.stamp-finish.result ≡ stamp_at s c.args.closing.finish = c.stamp-finish.ensures s refl in
    let distance : c.millimetres-hired_mm.result ≡ millimetres_of s.constant (pulses_of trip) =
    rw (c.millimetres-hired_mm.ensures, whole_pulses s hired c.args.hiring.now trip is) refl
    in
    let charges : charges_of s trip ≡ c.args.hiring.now.whole.charge = sym (ap (λ (w : Sums). w.charge) is.whole) in
    let shown : c.steps_shown-shown.result ≡ steps_shown s trip =
    rw (c.steps_shown-shown.ensures.steps, is.opening, charges) refl in
    let few = c.steps_shown-shown.ensures.few c.args.hiring.now.whole.ticks c.requires.ticks is.few in
    let steps : c.min.result ≡ steps_shown s trip = omega (arith, c.min.ensures, few, shown) in
    let step : c.step-step.result.0 ≡ s.tariff.step.0 =
    sym (ap (λ (o : Option (ℕ × Rounding)). (unwrap_or o (0, Behind)).0) c.step-step.ensures.value) in
    let fare : c.fare_shown-fare.result ≡ fare_of s trip =
    rw (c.fare_shown-fare.ensures, step, shown, is.fees) refl in
    let amounts : c.supplements-sum.result ≡ amounts_of s.tariff trip.extras =
    rw (c.supplements-sum.ensures, is.extras) refl in
    rw (start, finish, distance, steps, step, fare, amounts, c.decimals.ensures.value, is.fees) refl
