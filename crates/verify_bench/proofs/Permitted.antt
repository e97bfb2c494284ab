-- Permissible errors by division.
use Rattle.std.{specs.{Int.{abs_diff}, Prelude.{nat_le}}, proofs.lemmas.Bool.{lt-leb, Decides.{same_from_decides}}}
use Rattle.std.proofs.{Common.{ℕ, ◌*◌, ◌/◌, ◌<◌, ◌∙◌, ◌≡◌, ◌≤◌, arith, false, refl, sym}, Math.Nat.{le-div_iff_mul-le}}
use Rattle.{taxi_units.specs.Test.{at_most, stated}, verify_bench.specs.VerdictStages.{within_test}}

-- an error is at most a whole divided by a number, rounded down, if the number times the error is at most the whole
pub parts_are_divided : (parts error expected : ℕ) → 0 < parts
    → nat_le error (expected / parts) ≡ nat_le (parts * error) expected
parts_are_divided parts error expected some =
    let both = le-div_iff_mul-le {k = parts} {x = error} {y = expected} some in
    same_from_decides (nat_le error (expected / parts)) (nat_le (parts * error) expected)
    (at_most error (expected / parts)).decides
    (stated (error ≤ expected / parts) (at_most (parts * error) expected)
    (λ (product : parts * error ≤ expected). both.1 (omega (arith, product)))
    (λ (within : error ≤ expected / parts). omega (arith, both.0 within))).decides

-- an error beyond the whole part is judged by the least error alone
pub by_the_least : (parts least expected read error : ℕ) → error ≡ abs_diff expected read → 0 < parts
    → expected / parts < error → nat_le error least ≡ (within_test parts least expected read).passes
by_the_least parts least expected read error is some beyond =
    let large : nat_le (parts * error) expected ≡ false =
    sym (parts_are_divided parts error expected some) ∙ lt-leb error (expected / parts) beyond in
    rw (← is, large) refl
