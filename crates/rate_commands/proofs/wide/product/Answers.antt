use Rattle.std.proofs.{Common.{ℕ, ◌%◌, ◌*◌, ◌+◌, ◌/◌, ◌^◌, ◌≡◌, arith}, lemmas.Nat.{div-add-mod'}}
use Rattle.rate_commands.proofs.Products.{parted}
use Rattle.rate_commands.proofs.wide.product.Goals as goal

pub returns-clause-value : goal.returns-clause-value
returns-clause-value c =
    let x = c.args.x in
    let y = c.args.y in
    let part = 2 ^ 44 in
    parted part x y (x / part) (x % part) (x % part * y / part) (x % part * y % part)
    (omega (arith, div-add-mod' x part)) (omega (arith, div-add-mod' (x % part * y) part))
