use Rattle.std.proofs.{Common.{◌+◌, ◌≤◌, arith}, Math.Nat.{mul-le-mul}}
use Rattle.tariff_check.proofs.cells.bands.Goals as goal

pub returns-clause-most : goal.returns-clause-most
returns-clause-most c =
    let n = c.args.counts.now in
    let days : n.month_day + 1 ≤ 64 = omega arith in
    let minutes : n.minute + 1 ≤ 64 = omega arith in
    let distances : n.distance + 1 ≤ 16 = omega arith in
    let times : n.time + 1 ≤ 16 = omega arith in
    mul-le-mul (mul-le-mul (mul-le-mul days minutes) distances) times
