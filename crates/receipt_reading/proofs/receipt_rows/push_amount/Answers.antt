use Rattle.{std.proofs.Common.{ap, arith, length, length-append, rules}, receipt_reading.proofs.Fields.{amount_fits}}
use Rattle.receipt_reading.{specs.Common.{money_text}, proofs.FrontReceipts.{succeeded}}
use Rattle.receipt_reading.proofs.receipt_rows.push_amount.Goals as goal

pub returns-clause-len : goal.returns-clause-len
returns-clause-len c =
    let few = amount_fits c.args.decimals c.args.units c.requires.decimals (search rules) in
    let fits = c.put_money.ensures.variant.1 (omega (arith, few, c.requires.room, c.push_bytes.ensures.len)) in
    let items = succeeded c.put_money.result fits c.put_money.ensures.ok in
    omega (
      arith,
      few,
      c.push_bytes.ensures.len,
      ap length items,
      length-append c.push_bytes.new.line.items (money_text c.args.decimals c.args.units),
    )
