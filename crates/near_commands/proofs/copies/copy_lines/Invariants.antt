use Rattle.std.proofs.Common.{◌++◌, ◌≡◌, drop, map}
use Rattle.near_commands.specs.{Common.{line_of}, NearSteps.{MayChangeAll, changed}, NearTariff.{with_rates}}
use Rattle.near_commands.proofs.copies.copy_lines.Given as goal

-- the copies so far, and those of the lines that are left, which may be changed
abbrev pub invariant-loop-line : goal.invariant-loop-line
invariant-loop-line l = record {
  copies : map line_of l.copies ++ with_rates (changed l.change) (map line_of (drop l.line-index l.lines))
      ≡ with_rates (changed l.change) (map line_of l.lines);
  may : MayChangeAll l.change (map line_of (drop l.line-index l.lines));
}
