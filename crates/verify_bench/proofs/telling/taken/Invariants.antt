use Rattle.std.{specs.List.{range_with_len}, proofs.Common.{◌++◌, ◌-◌, ◌≡◌, flat_map}}
use Rattle.verify_bench.specs.{Common.{sound_of, tree_of}, TripExplanations.{taken_if, taken_of}}
use Rattle.verify_bench.proofs.telling.taken.Given as goal

abbrev pub invariant-loop-number : goal.invariant-loop-number
invariant-loop-number l = l.taken.items ++ flat_map (taken_if (sound_of (tree_of l.checked)) l.hiring.extras.items)
    (range_with_len l.number (17 - l.number)) ≡ taken_of (sound_of (tree_of l.checked)) l.hiring.extras.items
