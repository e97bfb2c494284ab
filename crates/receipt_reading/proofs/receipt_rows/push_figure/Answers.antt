use Rattle.std.{specs.Prelude.{decimal}, proofs.Common.{ap, arith, length, length-append, rules}}
use Rattle.receipt_reading.proofs.{Fields.{number_fits}, FrontReceipts.{succeeded}}
use Rattle.receipt_reading.proofs.receipt_rows.push_figure.Goals as goal

pub returns-clause-len : goal.returns-clause-len
returns-clause-len c =
    let few = number_fits c.args.value (search rules) in
    let fits = c.put_number.ensures.variant.1 (omega (arith, few, c.requires, c.push_bytes.ensures.len)) in
    let items = succeeded c.put_number.result fits c.put_number.ensures.ok in
    omega (
      arith,
      few,
      c.push_bytes.ensures.len,
      ap length items,
      length-append c.push_bytes.new.line.items (decimal c.args.value),
    )
