use Rattle.std.{specs.List.{range_with_len}, proofs.Common.{◌≡◌}}
use Rattle.tariff_compare.proofs.grid.numbers_to.Given as goal

abbrev pub invariant-loop-before : goal.invariant-loop-before
invariant-loop-before l = l.numbers.items ≡ range_with_len 1 l.before
