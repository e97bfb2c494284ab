use Rattle.std.{specs.List.{list_any}, proofs.Common.{◌≡◌, drop, map}}
use Rattle.tariff_check.specs.{Common.{Line, line_of}, Lines.{is_for_nothing}}
use Rattle.tariff_check.proofs.measure.some_is_for_nothing.Given as goal

abbrev pub invariant-loop-line : goal.invariant-loop-line
invariant-loop-line l = list_any (λ (m : Line). is_for_nothing m.entry) (map line_of (drop l.line-index l.lines))
    ≡ list_any (λ (m : Line). is_for_nothing m.entry) (map line_of l.lines)
