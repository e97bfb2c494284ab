use Rattle.std.{specs.List.{position_from}, proofs.Common.{◌≡◌, drop}}
use Rattle.tariff_check.specs.{Common.{holds_if, tree_of}, SoundTariff.{own_conditions}}
use Rattle.tariff_check.proofs.checked.Checked.place_of.Given as goal

abbrev pub invariant-loop-place : goal.invariant-loop-place
invariant-loop-place g l =
    position_from (holds_if l.x) l.place (own_conditions (tree_of l.self).lines (drop l.place l.choices))
    ≡ position_from (holds_if l.x) 0 (own_conditions (tree_of l.self).lines l.choices)
