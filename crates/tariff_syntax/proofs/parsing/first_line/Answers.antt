use Rattle.std.proofs.Common.{◌<◌, arith, length}
use Rattle.tariff_syntax.proofs.LineOrder.{first_line_is}
use Rattle.tariff_syntax.proofs.parsing.first_line.Goals as goal

pub returns : goal.returns
returns c =
    let some : 0 < length c.args.text.now = grind (arith, c.if-is_empty.ensures) in
    first_line_is c.args.text.now c.split_at.result.0.now c.split_at.result.1.now c.after_feed.result.now
    c.count_line.result some c.count_line.ensures.count c.split_at.ensures.front c.split_at.ensures.back
    c.after_feed.ensures
