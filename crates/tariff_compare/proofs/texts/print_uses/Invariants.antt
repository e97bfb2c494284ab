use Rattle.std.proofs.Common.{◌++◌, ◌≡◌, drop}
use Rattle.tariff_compare.specs.Texts.{uses_text}
use Rattle.tariff_compare.proofs.texts.print_uses.Given as goal

abbrev pub invariant-loop-one : goal.invariant-loop-one
invariant-loop-one l = l.text.items ++ uses_text (drop l.one-index l.uses) ≡ uses_text l.uses
