use Rattle.std.proofs.Common.{[], ◌++◌, ◌∷◌, sym}
use Rattle.seal_record.specs.contracts.params_so_far.ParamsSoFar.{the_view}
use Rattle.seal_record.proofs.OffsetsSoFar.{lawful_so_far, said_with, said_without}
use Rattle.seal_record.proofs.params_so_far.ParamsSoFar.with_pair.Goals as goal

pub returns-in_err-offsets : goal.returns-in_err-offsets
returns-in_err-offsets c = rw (c.from_residual.ensures, ← c.self.view_is)
    (sym (said_without (the_view c.self.inside) c.args.pair c.in_err-offsets.ensures))

pub invariant_of-result : goal.invariant_of-result
invariant_of-result c = lawful_so_far (c.self.inside.offsets.items ++ c.args.pair ∷ []) c.in_ok-offsets.offsets.items
    c.in_ok-offsets.ensures

pub returns : goal.returns
returns c = rw (← c.self.view_is)
    (sym (said_with (the_view c.self.inside) c.args.pair c.in_ok-offsets.offsets.items c.in_ok-offsets.ensures))
