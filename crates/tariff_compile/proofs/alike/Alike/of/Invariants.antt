use Rattle.tariff_compile.proofs.SameInContexts.{AgreeBefore}
use Rattle.tariff_compile.proofs.alike.Alike.of.Given as goal

abbrev pub invariant-loop-place : goal.invariant-loop-place
invariant-loop-place l = AgreeBefore l.alike l.contexts l.place
