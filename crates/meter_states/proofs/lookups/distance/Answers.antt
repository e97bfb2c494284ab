use Rattle.std.proofs.{Common.{ℕ, ◌*◌, ◌≤◌, arith}, Math.Nat.{mul-le-mul_left}}
use Rattle.drive_modes.{specs.Distance.{millimetres_of}, proofs.Laws.{millimetres-most}}
use Rattle.meter_states.proofs.lookups.distance.Goals as goal

at-most : (k p : ℕ) → 500 ≤ k → millimetres_of k p ≤ 2000 * p
at-most k p least =
    let n = millimetres_of k p in
    let whole : n * k ≤ 1000000 * p = (millimetres-most k p n (omega (arith, least))).0 (omega arith) in
    let scaled : n * 500 ≤ n * k = mul-le-mul_left n least in
    omega (arith, whole, scaled)

pub returns-clause-most : goal.returns-clause-most
returns-clause-most c =
    rw c.millimetres.ensures (at-most c.constant.result c.args.pulses c.constant.ensures.range.0)
