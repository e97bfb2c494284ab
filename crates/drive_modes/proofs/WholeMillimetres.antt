-- Distances are whole millimetres.
use Rattle.std.proofs.{Common.{ℕ, ◌*◌, ◌<◌, ◌↔◌, ◌≤◌, arith}, Math.Nat.{le-div_iff_mul-le}}
use Rattle.drive_modes.specs.Distance.{HasReached, millimetres_of}

-- the distance of p pulses is the most whole millimetres for which they are enough
pub millimetres-most : (k p n : ℕ) → 0 < k → (n ≤ millimetres_of k p) ↔ (n * k ≤ 1000000 * p)
millimetres-most k p n some = le-div_iff_mul-le some

-- dm decimetres are reached if the distance has dm hundreds of millimetres
pub millimetres-reached : (k p dm : ℕ) → 0 < k → HasReached k p dm ↔ (100 * dm ≤ millimetres_of k p)
millimetres-reached k p dm some =
    let forth = λ (h : k * dm ≤ 10000 * p). (millimetres-most k p (100 * dm) some).1 (omega arith) in
    let back = λ (h : 100 * dm ≤ millimetres_of k p).
    let enough : 100 * dm * k ≤ 1000000 * p = (millimetres-most k p (100 * dm) some).0 h in
    let fewer : k * dm ≤ 10000 * p = omega arith in
    fewer in
    (forth, back)
