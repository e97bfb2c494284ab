use Rattle.std.proofs.Common.{◌+◌, ◌≡◌, length}
use Rattle.tariff_syntax.specs.{Token.{is_letter}, TokenReading.{run_end}}
use Rattle.tariff_syntax.proofs.tokens.count_letters.Given as goal

abbrev pub invariant-loop-first : goal.invariant-loop-first
invariant-loop-first l =
    (l.count + length l.rest ≡ length l.line) × (run_end is_letter l.line ≡ l.count + run_end is_letter l.rest)

abbrev pub decreases-loop-first : goal.decreases-loop-first
decreases-loop-first l = length l.rest
