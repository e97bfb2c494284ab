use Rattle.std.proofs.{Common.{ℕ, refl}, lemmas.List.Sorted.{IsNonDecreasingBy-from_default, IsPartitionedBy-leb}}
use Rattle.tariff_calendar.proofs.Counts.{IsNotFalling-le}
use Rattle.tariff_calendar.proofs.lookups.count.Goals as goal

pub returns-clause-value : goal.returns-clause-value
returns-clause-value g c = rw (c.at_most.ensures.count, c.of.ensures) refl

pub at_most-requires : goal.at_most-requires
at_most-requires g c =
    let list = c.args.list.now in
    rw c.of.ensures (IsPartitionedBy-leb (λ (n : ℕ). n) list c.args.value (IsNonDecreasingBy-from_default
    (λ (n : ℕ). n) list 0 (λ i j before within. IsNotFalling-le list i j c.requires before within)))
