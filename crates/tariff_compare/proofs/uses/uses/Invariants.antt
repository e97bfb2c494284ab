use Rattle.std.proofs.Common.{◌≡◌, All, map, take}
use Rattle.tariff_compare.specs.Uses.{IsDatedUse, use_of}
use Rattle.tariff_compare.proofs.uses.uses.Given as goal

abbrev pub invariant-loop-choice : goal.invariant-loop-choice
invariant-loop-choice l = record {
  value : l.uses.items ≡ map (use_of l.side) (take l.choice-index l.choices);
  dated : All IsDatedUse l.uses.items;
}
