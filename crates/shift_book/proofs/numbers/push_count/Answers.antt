use Rattle.std.{specs.Fmt.{decimal}, proofs.Common.{◌∷◌, ap, arith, length, length-append}}
use Rattle.shift_book.proofs.Lines.{counts_are_short}
use Rattle.shift_book.proofs.numbers.push_count.Goals as goal

pub returns-clause-most : goal.returns-clause-most
returns-clause-most c = omega (
  arith,
  ap length c.push_field.ensures.text,
  length-append c.args.line.now.items (32 ∷ decimal c.args.value),
  counts_are_short c.args.value c.ranges.value.fits,
)
