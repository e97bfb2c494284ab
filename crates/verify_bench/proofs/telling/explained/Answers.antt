use Rattle.verify_bench.{specs.{Common.{receipt_of}, Settings.{setting_under}}, proofs.Benches.{taken_apart}}
use Rattle.verify_bench.proofs.telling.explained.Goals as goal

pub returns : goal.returns
returns c hired trip is =
    let s = setting_under c.args.checked.now c.args.params.now in
    let groups = rw (c.rates.ensures.value.numbers, c.as_slice.ensures.value) at c.in_ok-groups.ensures in
    taken_apart s hired c.args.hiring.now trip c.receipt-receipt.result
    (receipt_of s c.args.closing.kind c.args.closing.finish c.args.closing.position trip c.args.closing.number) _ _ is
    (c.receipt-receipt.ensures hired trip is) (groups s trip.parts is.rates) c.in_ok-taken.ensures
