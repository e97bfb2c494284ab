use Rattle.std.proofs.Common.{◌++◌, ◌≡◌, drop, map}
use Rattle.verify_bench.specs.{Shortened.{short_of}, TripExplanations.{explanation_of}}
use Rattle.verify_bench.proofs.expecting.put_expected.Given as goal

abbrev pub invariant-loop-hiring : goal.invariant-loop-hiring
invariant-loop-hiring l = l.found.items ++ map short_of (map explanation_of (drop l.hiring-index l.explained))
    ≡ l.initial.found.items ++ map short_of (map explanation_of l.explained)
