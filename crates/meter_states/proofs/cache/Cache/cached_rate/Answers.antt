use Rattle.std.proofs.Common.{◌∙◌}
use Rattle.meter_states.proofs.cache.Cache.cached_rate.Goals as goal

pub returns-in-Some-clause-fit : goal.returns-in-Some-clause-fit
returns-in-Some-clause-fit c = λ tables each. rw c.lasting_from.ensures.weights (each _ c.in-Some.is).fit

pub returns-in-Some-clause-near : goal.returns-in-Some-clause-near
returns-in-Some-clause-near c = λ tables t y each is y_in near.
    c.lasting_from.ensures.weights ∙ (each _ c.in-Some.is).near t y is y_in (c.lasting_from.ensures.near y near)
