use Rattle.tariff_tree.{specs.Choices.{rate_part}, proofs.FirstChoices.{IsPassed}}
use Rattle.tariff_tree.proofs.meaning.rate_of.Given as goal

abbrev pub invariant-loop-line : goal.invariant-loop-line
invariant-loop-line l = IsPassed rate_part l.x l.tariff.lines l.place l.line-index
