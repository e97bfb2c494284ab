use Rattle.tariff_tree.{specs.Choices.{minimum_part}, proofs.FirstChoices.{IsPassed}}
use Rattle.tariff_tree.proofs.meaning.minimum_of.Given as goal

abbrev pub invariant-loop-line : goal.invariant-loop-line
invariant-loop-line l = IsPassed minimum_part l.hiring l.tariff.lines l.place l.line-index
