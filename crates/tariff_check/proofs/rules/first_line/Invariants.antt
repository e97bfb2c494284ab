use Rattle.std.proofs.Common.{◌≡◌, drop, map, take}
use Rattle.tariff_check.specs.{Common.{line_of}, Lines.{first_after, first_line}, Rules.{breaks_rule}}
use Rattle.tariff_check.proofs.rules.first_line.Given as goal

abbrev pub invariant-loop-place : goal.invariant-loop-place
invariant-loop-place l = first_after (breaks_rule l.rule) (map line_of (take l.place l.lines))
    (map line_of (drop l.place l.lines)) ≡ first_line (breaks_rule l.rule) (map line_of l.lines)
