use Rattle.std.{specs.List.{count_by}, proofs.Common.{◌+◌, ◌≡◌, ◌≤◌, drop, map}}
use Rattle.tariff_check.specs.{Common.{Line, entry_of, line_of}, Lines.{is_alike}}
use Rattle.tariff_check.proofs.pairs.count_alike.Given as goal

abbrev pub invariant-loop-line : goal.invariant-loop-line
invariant-loop-line l = record {
  within : l.count ≤ l.line-index;
  same : l.count
      + count_by (λ (m : Line). is_alike (entry_of l.item) m.entry) (map line_of (drop l.line-index l.before))
      ≡ count_by (λ (m : Line). is_alike (entry_of l.item) m.entry) (map line_of l.before);
}
