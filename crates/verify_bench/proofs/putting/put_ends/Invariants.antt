use Rattle.std.proofs.Common.{◌++◌, ◌≡◌, List, drop, map}
use Rattle.verify_bench.specs.{Common.{Moment}, Told.{end_by, stories_with}, TripExplanations.{explanation_of}}
use Rattle.verify_bench.proofs.putting.put_ends.Given as goal

-- the ends so far, and those that are left
abbrev pub invariant-loop-explained : goal.invariant-loop-explained
invariant-loop-explained l = (others : List Moment)
    → stories_with l.stories (map end_by (map explanation_of (drop l.explained-index l.found)) ++ others)
    ≡ stories_with l.initial.stories (map end_by (map explanation_of l.found) ++ others)
