use Rattle.std.proofs.Common.{◌≡◌}
use Rattle.verify_bench.specs.PassingStages.{do_places_pass}
use Rattle.verify_bench.proofs.passing.do_all_pass.Given as goal

abbrev pub invariant-loop-place : goal.invariant-loop-place
invariant-loop-place l = l.pass ≡ do_places_pass l.step l.fn.expected l.fn.readings l.place
