use Rattle.tariff_compile.proofs.Bits.{bit_either}
use Rattle.tariff_compile.proofs.marks.Marks.either.Goals as goal

pub returns : goal.returns
returns c = bit_either c.args.self.bits c.args.or.bits
