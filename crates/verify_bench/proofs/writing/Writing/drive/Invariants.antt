use Rattle.std.{specs.Prelude.{replicate}, proofs.Common.{◌*◌}}
use Rattle.verify_bench.specs.{AddedText.{Adds, place_of}, Generated.{in_turn, leg}}
use Rattle.verify_bench.proofs.writing.Writing.drive.Given as goal

abbrev pub invariant-loop-leg : goal.invariant-loop-leg
invariant-loop-leg l =
    Adds l.initial.self l.self (23 * l.leg) (1049 * l.leg) (2099 * l.leg)
    (in_turn (replicate l.leg leg) (place_of l.initial.self))
