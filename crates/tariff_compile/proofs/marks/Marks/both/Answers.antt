use Rattle.tariff_compile.proofs.Bits.{bit_both}
use Rattle.tariff_compile.proofs.marks.Marks.both.Goals as goal

pub returns : goal.returns
returns c = bit_both c.args.self.bits c.args.with.bits
