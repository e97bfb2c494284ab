use Rattle.std.proofs.Common.{◌*◌, ◌+◌, ◌-◌, ◌≡◌, ◌≤◌}
use Rattle.verify_bench.specs.Amounts.{amounts_among}
use Rattle.verify_bench.specs.Common.{amount_in, amounts_of, sound_of, supplement_of, tree_of}
use Rattle.verify_bench.proofs.telling.supplements.Given as goal

abbrev pub invariant-loop-number : goal.invariant-loop-number
invariant-loop-number l = record {
  all : l.sum + amounts_among (λ number. amount_in (supplement_of (tree_of l.checked).lines number)) l.number
      (17 - l.number) l.hiring.extras.items ≡ amounts_of (sound_of (tree_of l.checked)) l.hiring.extras.items;
  few : l.sum ≤ 99000000 * l.number;
}
