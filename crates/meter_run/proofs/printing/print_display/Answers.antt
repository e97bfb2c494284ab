use Rattle.{std.proofs.Common.{ℕ, List, ap, arith, length, subst}, meter_run.specs.Common.{display_text}}
use Rattle.meter_run.{specs.PrintedText.{PrintsText}, proofs.Lines.{display_some, fits_line, has_text}}
use Rattle.meter_run.proofs.printing.print_display.Goals as goal

pub unwrap-requires : goal.unwrap-requires
unwrap-requires g c = c.put_display.ensures.room (omega (arith, ap length c.new-line.ensures))

pub print_text-requires : goal.print_text-requires
print_text-requires g c = fits_line c.new-line.result.items c.put_display.new.line.items c.as_slice.result.now
    (display_text c.args.display.now) c.as_slice.ensures.value (rw c.unwrap.ensures at c.put_display.ensures.ok)
    c.new-line.ensures
    (display_some c.args.display.now c.requires.operating)
    (omega (
      arith,
      c.put_display.ensures.variant.0
          (c.put_display.ensures.room (omega (arith, ap length c.new-line.ensures))),
    ))

pub returns-clause-printed : goal.returns-clause-printed
returns-clause-printed g c =
    subst (λ (bytes : List ℕ). PrintsText g.B.Printer c.args.board.now bytes c.print_text.new.board c.print_text.result)
    (has_text c.new-line.result.items c.put_display.new.line.items c.as_slice.result.now
    (display_text c.args.display.now)
    c.as_slice.ensures.value (rw c.unwrap.ensures at c.put_display.ensures.ok) c.new-line.ensures)
    c.print_text.ensures.printed

pub returns-clause-steps : goal.returns-clause-steps
returns-clause-steps g c = c.print_text.ensures.steps
