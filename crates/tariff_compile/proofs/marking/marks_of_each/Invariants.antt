use Rattle.tariff_compile.{specs.Common.{tree_of}, proofs.Marked.{HasMarks}}
use Rattle.tariff_compile.proofs.marking.marks_of_each.Given as goal

abbrev pub invariant-loop-choice : goal.invariant-loop-choice
invariant-loop-choice g l = HasMarks (tree_of l.checked).lines l.choices l.contexts l.choice-index l.all.items
