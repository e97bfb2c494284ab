use Rattle.std.proofs.{Common.{◌*◌, refl}, lemmas.Bool.{le-ltb, lt-ltb}}
use Rattle.drive_modes.proofs.charges.charge.Goals as goal

pub returns-then-distance-weights-clause-charge : goal.returns-then-distance-weights-clause-charge
returns-then-distance-weights-clause-charge c =
    let distance = c.args.pulses * c.args.weights.per_pulse in
    rw (c.in-Single.is, lt-ltb distance c.args.weights.per_tick c.if-distance-weights.true) refl

pub returns-else-distance-weights-clause-charge : goal.returns-else-distance-weights-clause-charge
returns-else-distance-weights-clause-charge c =
    let distance = c.args.pulses * c.args.weights.per_pulse in
    rw (c.in-Single.is, le-ltb distance c.args.weights.per_tick c.if-distance-weights.false) refl
