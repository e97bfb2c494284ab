use Rattle.std.{specs.Option.{ForSome}, proofs.Common.{ℕ, ◌∙◌, ◌≡◌, Option, ap, subst, sym}}
use Rattle.meter_states.specs.{Cache.{IsCachedTimeOf}, Core.{CoreData}}
use Rattle.meter_states.specs.Common.{CachedTime, SoundTariff, context_on, local_at, weights_in_force}
use Rattle.meter_states.proofs.meter_state.State.weights.Goals as goal

pub returns-clause-rate : goal.returns-clause-rate
returns-clause-rate g c = λ s m is st.
    let began : c.local_at-local.result.second ≡ m.began =
    c.local_at-local.ensures.second ∙ ap (λ (p : CoreData). p.began) (c.self.view_is ∙ st) in
    c.rate_at.ensures.tree is.tariff.tree is.tariff.compiled
    ∙ ap (λ (t : SoundTariff). weights_in_force t c.args.tables.now.constant c.context_on-x.result)
    (sym is.tariff.parts)
    ∙ ap (weights_in_force s.tariff c.args.tables.now.constant)
    (c.context_on-x.ensures.value c.args.seal.now s m c.local_at-local.ensures.local is st ∙ ap (λ
    (second : ℕ). context_on s (local_at s second) m) began)

pub rate_at-requires-clause-range : goal.rate_at-requires-clause-range
rate_at-requires-clause-range g c = c.context_on-x.ensures.range c.args.seal.now c.local_at-local.ensures.local

pub rate_at-requires-clause-lasting : goal.rate_at-requires-clause-lasting
rate_at-requires-clause-lasting g c = c.local_at-local.ensures.cache.rate

pub returns-clause-cache : goal.returns-clause-cache
returns-clause-cache g c = record {
  local = subst (λ (o : Option CachedTime). ForSome o (IsCachedTimeOf c.args.tables.now c.args.seal.now))
      (sym c.rate_at.ensures.local) c.local_at-local.ensures.cache.local;
  rate = c.rate_at.ensures.lasting;
}
