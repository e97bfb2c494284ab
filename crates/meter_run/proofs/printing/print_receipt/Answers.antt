use Rattle.{std.proofs.Common.{ℕ, List, ap, arith, length, subst}, receipt_text.specs.Receipts.{receipt_text}}
use Rattle.meter_run.specs.Common.{part_of_seal}
use Rattle.meter_run.{specs.PrintedText.{PrintsText}, proofs.Lines.{fits_line, has_text, receipt_few, receipt_some}}
use Rattle.meter_run.proofs.printing.print_receipt.Goals as goal

pub put_receipt-requires : goal.put_receipt-requires
put_receipt-requires g c = record { receipt = c.requires.receipt; seal = c.requires.seal }

pub unwrap-requires : goal.unwrap-requires
unwrap-requires g c = c.put_receipt.ensures.variant.1 (omega (
  arith,
  ap length c.new-line.ensures,
  receipt_few c.args.receipt.now (part_of_seal c.args.seal.now) c.put_receipt.ensures.grammar,
))

pub print_text-requires : goal.print_text-requires
print_text-requires g c = fits_line c.new-line.result.items c.put_receipt.new.line.items c.as_slice.result.now
    (receipt_text c.args.receipt.now (part_of_seal c.args.seal.now)) c.as_slice.ensures.value
    (rw c.unwrap.ensures at c.put_receipt.ensures.ok) c.new-line.ensures
    (receipt_some c.args.receipt.now (part_of_seal c.args.seal.now))
    (receipt_few c.args.receipt.now (part_of_seal c.args.seal.now) c.put_receipt.ensures.grammar)

pub returns-clause-printed : goal.returns-clause-printed
returns-clause-printed g c =
    subst (λ (bytes : List ℕ). PrintsText g.B.Printer c.args.board.now bytes c.print_text.new.board c.print_text.result)
    (has_text c.new-line.result.items c.put_receipt.new.line.items c.as_slice.result.now
    (receipt_text c.args.receipt.now (part_of_seal c.args.seal.now))
    c.as_slice.ensures.value (rw c.unwrap.ensures at c.put_receipt.ensures.ok) c.new-line.ensures)
    c.print_text.ensures.printed

pub returns-clause-steps : goal.returns-clause-steps
returns-clause-steps g c = c.print_text.ensures.steps
