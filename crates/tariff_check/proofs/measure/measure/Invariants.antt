use Rattle.std.proofs.Common.{◌<◌, ◌^◌, ◌≡◌, ◌≤◌, drop, map}
use Rattle.tariff_check.specs.{Common.{line_of}, Measure.{common_with, measure_of, measures_of}}
use Rattle.tariff_check.proofs.measure.measure.Given as goal

abbrev pub invariant-loop-line : goal.invariant-loop-line
invariant-loop-line l = record {
  some : 0 < l.common;
  most : l.common ≤ 10 ^ 18;
  same : common_with l.common (measures_of (map line_of (drop l.line-index l.lines)))
      ≡ measure_of (map line_of l.lines);
}
