use Rattle.std.proofs.Common.{◌≡◌, drop, find, not}
use Rattle.tariff_compare.specs.{Common.{supplement_of, tree_of}, Differences.{is_same_supplement}}
use Rattle.tariff_compare.proofs.difference.first_other.Given as goal

abbrev pub invariant-loop-number : goal.invariant-loop-number
invariant-loop-number l =
    find (λ number. not (is_same_supplement (supplement_of (tree_of l.one).lines number)
    (supplement_of (tree_of l.other).lines number))) (drop l.number-index l.numbers)
    ≡ find (λ number. not (is_same_supplement (supplement_of (tree_of l.one).lines number)
    (supplement_of (tree_of l.other).lines number))) l.numbers
