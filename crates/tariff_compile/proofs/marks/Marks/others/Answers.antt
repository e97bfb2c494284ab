use Rattle.{std.proofs.Common.{arith}, tariff_compile.proofs.Bits.{bit_other}}
use Rattle.tariff_compile.proofs.marks.Marks.others.Goals as goal

pub returns : goal.returns
returns c = λ place within. bit_other c.args.self.bits place (omega arith) within
