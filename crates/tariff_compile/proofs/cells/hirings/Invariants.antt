use Rattle.std.proofs.Common.{◌≡◌, map, take}
use Rattle.tariff_compile.specs.Common.{at_hiring}
use Rattle.tariff_compile.proofs.cells.hirings.Given as goal

abbrev pub invariant-loop-x : goal.invariant-loop-x
invariant-loop-x l = l.hirings.items ≡ map at_hiring (take l.x-index l.contexts)
