use Rattle.std.proofs.Common.{◌≡◌, map, take}
use Rattle.tariff_compile.specs.{Common.{own_values}, Tables.{weights_of}}
use Rattle.tariff_compile.proofs.choices.all_weights.Given as goal

abbrev pub invariant-loop-choice : goal.invariant-loop-choice
invariant-loop-choice l = l.all.items ≡ map (weights_of l.k l.measure) (own_values (take l.choice-index l.choices))
