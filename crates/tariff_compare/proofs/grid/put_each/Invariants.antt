use Rattle.std.proofs.Common.{◌≡◌, drop}
use Rattle.tariff_compare.specs.{Common.{with_each}, Grids.{up_to}}
use Rattle.tariff_compare.proofs.grid.put_each.Given as goal

abbrev pub invariant-loop-number : goal.invariant-loop-number
invariant-loop-number l = with_each l.numbers.keys (up_to l.most (drop l.number-index l.more))
    ≡ with_each l.fn.numbers.keys (up_to l.most l.more)
