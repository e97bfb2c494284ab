use Rattle.meter_states.proofs.cache.Cache.local_at.Goals as goal

pub returns-in-Some-clause-local : goal.returns-in-Some-clause-local
returns-in-Some-clause-local g c = c.requires.cache.local _ c.in-Some.ensures.kept
