use Rattle.std.proofs.Common.{◌++◌, ◌≡◌, drop, map, take}
use Rattle.tariff_check.specs.{ChoiceLines.{choice_lines, choices_behind}, SoundTariff.{numbered_supplement}}
use Rattle.tariff_check.specs.{Common.{ChoiceKind, line_of}, Kinds.{kept_of, part_of}, Parts.{holidays_of, parts}}
use Rattle.tariff_check.specs.Resolved.{placed_from}
use Rattle.tariff_check.proofs.resolving.resolved.Given as goal

abbrev pub invariant-loop-place : goal.invariant-loop-place
invariant-loop-place l = record {
  holidays : l.parts.holidays.items ++ holidays_of (map line_of (drop l.place l.lines))
      ≡ holidays_of (map line_of l.lines);
  supplements : l.parts.supplements.items ++ parts numbered_supplement (map line_of (drop l.place l.lines))
      ≡ parts numbered_supplement (map line_of l.lines);
  choices : (kind : ChoiceKind)
      → kept_of kind l.parts.choices ++ placed_from (part_of kind) l.place (map line_of (drop l.place l.lines))
      ≡ placed_from (part_of kind) 0 (map line_of l.lines);
  choice_lines : l.parts.choice_lines.items
      ++ choices_behind (map line_of (take l.place l.lines)) (map line_of (drop l.place l.lines))
      ≡ choice_lines (map line_of l.lines);
}
