use Rattle.std.proofs.Common.{◌≡◌, drop}
use Rattle.tariff_check.specs.SoundTariff.{supplement_numbered}
use Rattle.tariff_check.proofs.resolving.numbered.Given as goal

abbrev pub invariant-loop-number : goal.invariant-loop-number
invariant-loop-number l = supplement_numbered (drop l.number-index l.all) l.wanted ≡ supplement_numbered l.all l.wanted
