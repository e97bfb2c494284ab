use Rattle.tariff_tree.{specs.Choices.{initial_part}, proofs.FirstChoices.{IsPassed}}
use Rattle.tariff_tree.proofs.meaning.initial_of.Given as goal

abbrev pub invariant-loop-line : goal.invariant-loop-line
invariant-loop-line l = IsPassed initial_part l.hiring l.tariff.lines l.place l.line-index
