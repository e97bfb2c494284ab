use Rattle.std.{specs.List.{list_any}, proofs.Common.{◌≡◌, drop, map}}
use Rattle.tariff_check.specs.{Common.{Line, entry_of, line_of}, Lines.{is_default_for}}
use Rattle.tariff_check.proofs.pairs.some_is_default_for.Given as goal

abbrev pub invariant-loop-line : goal.invariant-loop-line
invariant-loop-line l =
    list_any (λ (m : Line). is_default_for (entry_of l.item) m.entry) (map line_of (drop l.line-index l.before))
    ≡ list_any (λ (m : Line). is_default_for (entry_of l.item) m.entry) (map line_of l.before)
