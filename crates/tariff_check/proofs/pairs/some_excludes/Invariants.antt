use Rattle.std.{specs.List.{list_any}, proofs.Common.{◌≡◌, drop, map}}
use Rattle.tariff_check.specs.{Common.{Line, entry_of, line_of}, Lines.{excludes}}
use Rattle.tariff_check.proofs.pairs.some_excludes.Given as goal

abbrev pub invariant-loop-line : goal.invariant-loop-line
invariant-loop-line l = list_any (λ (m : Line). excludes (entry_of l.item) m.entry) (map line_of
    (drop l.line-index l.before)) ≡ list_any (λ (m : Line). excludes (entry_of l.item) m.entry) (map line_of l.before)
