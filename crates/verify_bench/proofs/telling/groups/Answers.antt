use Rattle.verify_bench.proofs.GroupLists.{groups_more, no_more_groups, numbers_at}
use Rattle.verify_bench.proofs.telling.groups.Goals as goal

pub loop-place-preserved : goal.loop-place-preserved
loop-place-preserved c s parts of =
    let i = c.loop-place.place in
    let here = numbers_at c.args.rates.now i _ c.loop-place-test.true in
    let grown = c.in_ok-put_groups.ensures s parts i (c.sums_at.ensures s parts of) in
    rw grown (groups_more s parts i _ c.loop-place.groups.items _ _ _ here (c.loop-place.invariant s parts of))

pub returns : goal.returns
returns c s parts of =
    let so_far = c.loop-place.groups.items in
    no_more_groups s parts c.loop-place.place c.args.rates.now so_far _ c.loop-place-test.false
    (c.loop-place.invariant s parts of)
