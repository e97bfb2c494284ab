use Rattle.std.proofs.Common.{◌≡◌, subst}
use Rattle.meter_states.specs.{Cache.{IsCachedRateOf}, Common.{CachedRate}}
use Rattle.meter_states.proofs.cache.Cache.look_up_rate.Goals as goal

pub returns-clause-lasting : goal.returns-clause-lasting
returns-clause-lasting g c =
    let tables = c.args.tables.now in
    let new : CachedRate = record { first = c.args.x; lasting = c.rate_until-lasting.result } in
    let lasting : IsCachedRateOf tables new =
    record { near = c.rate_until-lasting.ensures.near; fit = c.rate_until-lasting.ensures.fit } in
    λ r is. let same : new ≡ r = cc is in subst (IsCachedRateOf tables) same lasting
