use Rattle.{std.proofs.{Common.{arith}, lemmas.Bool.Decides.{nat_tests}}, receipt_text.proofs.Laws.{all_bytes}}
use Rattle.receipt_reading.proofs.ranges.is_digest.Goals as goal

pub returns : goal.returns
returns c = (
  λ e. record { size = grind (arith, nat_tests); bytes = all_bytes c.args.digest.now c.type_inv.digest },
  λ h. let size = h.size in grind (arith, nat_tests),
)
