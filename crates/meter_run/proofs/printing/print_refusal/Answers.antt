use Rattle.{std.proofs.Common.{ℕ, List, ap, arith, length, subst}, meter_run.specs.Common.{refusal_text}}
use Rattle.meter_run.{specs.PrintedText.{PrintsText}, proofs.Lines.{fits_line, has_text, refusal_some}}
use Rattle.meter_run.proofs.printing.print_refusal.Goals as goal

pub unwrap-requires : goal.unwrap-requires
unwrap-requires g c = c.put_refusal.ensures.room (omega (arith, ap length c.new-line.ensures))

pub print_text-requires : goal.print_text-requires
print_text-requires g c = fits_line c.new-line.result.items c.put_refusal.new.line.items c.as_slice.result.now
    (refusal_text c.args.why) c.as_slice.ensures.value (rw c.unwrap.ensures at c.put_refusal.ensures.ok)
    c.new-line.ensures
    (refusal_some c.args.why)
    (omega (
      arith,
      c.put_refusal.ensures.variant.0
          (c.put_refusal.ensures.room (omega (arith, ap length c.new-line.ensures))),
    ))

pub returns-clause-printed : goal.returns-clause-printed
returns-clause-printed g c =
    subst (λ (bytes : List ℕ). PrintsText g.B.Printer c.args.board.now bytes c.print_text.new.board c.print_text.result)
    (has_text c.new-line.result.items c.put_refusal.new.line.items c.as_slice.result.now (refusal_text c.args.why)
    c.as_slice.ensures.value (rw c.unwrap.ensures at c.put_refusal.ensures.ok) c.new-line.ensures)
    c.print_text.ensures.printed

pub returns-clause-steps : goal.returns-clause-steps
returns-clause-steps g c = c.print_text.ensures.steps
