use Rattle.tariff_compile.{specs.Common.{condition_of, holds}, proofs.Marked.{MarksFirst}}
use Rattle.tariff_compile.proofs.marking.marks_one_by_one.Given as goal

abbrev pub invariant-loop-place : goal.invariant-loop-place
invariant-loop-place l = MarksFirst (holds (condition_of l.cond)) l.contexts l.place l.marks
