use Rattle.std.proofs.Common.{◌≡◌, drop, map}
use Rattle.tariff_check.specs.{Common.{line_of}, Cuts.{all_cuts, cuts_of, with_each}}
use Rattle.tariff_check.proofs.cuts.cuts.Given as goal

abbrev pub invariant-loop-line : goal.invariant-loop-line
invariant-loop-line l = with_each l.cuts.keys (all_cuts l.dimension (map line_of (drop l.line-index l.lines)))
    ≡ cuts_of l.dimension (map line_of l.lines)
