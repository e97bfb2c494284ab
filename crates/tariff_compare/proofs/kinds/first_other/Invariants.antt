use Rattle.std.proofs.Common.{◌≡◌, drop, find}
use Rattle.tariff_compare.specs.{Kinds.{is_other}, Sides.{in_force_by}}
use Rattle.tariff_compare.proofs.kinds.first_other.Given as goal

abbrev pub invariant-loop-kind : goal.invariant-loop-kind
invariant-loop-kind l =
    find (is_other l.m (in_force_by l.one l.x) (in_force_by l.other l.y)) (drop l.kind-index l.kinds)
    ≡ find (is_other l.m (in_force_by l.one l.x) (in_force_by l.other l.y)) l.kinds
