use Rattle.std.proofs.Common.{refl}
use Rattle.meter_states.proofs.cache.Cache.rate_at.Goals as goal

pub returns-then-is_near-clause-tree : goal.returns-then-is_near-clause-tree
returns-then-is_near-clause-tree g c = λ t is.
    (c.requires.lasting c.in-Some.rate c.in-Some.is).near t c.args.x.now is c.requires.range
    (c.if-is_near.ensures.0 refl)
