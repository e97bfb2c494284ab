use Rattle.std.proofs.Common.{◌+◌, ◌≡◌, length}
use Rattle.tariff_syntax.specs.{TextLines.{is_inner}, TokenReading.{run_end}}
use Rattle.tariff_syntax.proofs.parsing.count_line.Given as goal

abbrev pub invariant-loop-first : goal.invariant-loop-first
invariant-loop-first l =
    (l.count + length l.rest ≡ length l.text) × (run_end is_inner l.text ≡ l.count + run_end is_inner l.rest)

abbrev pub decreases-loop-first : goal.decreases-loop-first
decreases-loop-first l = length l.rest
