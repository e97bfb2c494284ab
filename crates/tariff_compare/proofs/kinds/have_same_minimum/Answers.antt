use Rattle.std.proofs.Common.{refl}
use Rattle.tariff_compare.proofs.kinds.have_same_minimum.Goals as goal

pub returns : goal.returns
returns c = refl
