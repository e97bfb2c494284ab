use Rattle.std.proofs.Common.{◌≡◌, take}
use Rattle.tariff_compile.specs.Common.{own_values}
use Rattle.tariff_compile.proofs.choices.all_values.Given as goal

abbrev pub invariant-loop-choice : goal.invariant-loop-choice
invariant-loop-choice g l = l.all.items ≡ own_values (take l.choice-index l.choices)
