use Rattle.std.proofs.{Common.{ℕ, sym}, lemmas.List.Sorted.{IsNonDecreasingBy-from_default, IsPartitionedBy-leb}}
use Rattle.tariff_calendar.proofs.{Counts.{IsNotFalling-le}, Found.{last_found, none_found}}
use Rattle.tariff_calendar.proofs.lookups.has.Goals as goal

pub returns-in-Some-clause-value : goal.returns-in-Some-clause-value
returns-in-Some-clause-value g c =
    let found = rw c.in-Some.is at c.at_most.ensures.last in
    let last = rw (c.at_most.ensures.count, c.of.ensures) at found in
    last_found c.args.number c.in-Some.last c.args.list.now c.requires last.0 (last.1 0)

pub returns-in-None-clause-value : goal.returns-in-None-clause-value
returns-in-None-clause-value g c =
    let found = rw c.in-None.is at c.at_most.ensures.last in
    let none = rw (c.at_most.ensures.count, c.of.ensures) at found in
    sym (none_found c.args.number c.args.list.now c.requires none)

pub at_most-requires : goal.at_most-requires
at_most-requires g c =
    let list = c.args.list.now in
    rw c.of.ensures (IsPartitionedBy-leb (λ (n : ℕ). n) list c.args.number (IsNonDecreasingBy-from_default
    (λ (n : ℕ). n) list 0 (λ i j before within. IsNotFalling-le list i j c.requires before within)))
