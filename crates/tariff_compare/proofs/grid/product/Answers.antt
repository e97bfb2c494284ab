use Rattle.std.proofs.Common.{arith, mul-le-mul, rules}
use Rattle.tariff_compare.proofs.grid.product.Goals as goal

pub overflow_mul-result-3 : goal.overflow_mul-result-3
overflow_mul-result-3 c =
    let few = mul-le-mul (mul-le-mul (mul-le-mul c.requires.positions c.requires.zones) c.requires.days)
    c.requires.minutes in
    search (rules, arith)

pub overflow_mul-result-4 : goal.overflow_mul-result-4
overflow_mul-result-4 c =
    let few = mul-le-mul (mul-le-mul (mul-le-mul (mul-le-mul c.requires.positions c.requires.zones) c.requires.days)
    c.requires.minutes) c.requires.ticks in
    search (rules, arith)

pub overflow_mul-result-5 : goal.overflow_mul-result-5
overflow_mul-result-5 c =
    let few = mul-le-mul (mul-le-mul (mul-le-mul (mul-le-mul (mul-le-mul c.requires.positions c.requires.zones)
    c.requires.days) c.requires.minutes) c.requires.ticks) c.requires.pulses in
    search (rules, arith)
