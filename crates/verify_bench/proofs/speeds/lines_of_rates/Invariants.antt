use Rattle.std.proofs.Common.{◌++◌, ◌+◌, ◌≡◌, drop}
use Rattle.verify_bench.specs.{Common.{own_values}, CrossOvers.{cross_over_lines}}
use Rattle.verify_bench.proofs.speeds.lines_of_rates.Given as goal

abbrev pub invariant-loop-place : goal.invariant-loop-place
invariant-loop-place l =
    l.text.items ++ cross_over_lines (l.place + 1) (own_values (drop l.place l.rates))
    ≡ cross_over_lines 1 (own_values l.rates)
