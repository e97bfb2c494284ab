use Rattle.std.proofs.Common.{ℕ, ◌∙◌, ap}
use Rattle.meter_states.specs.Common.{context_on, local_at}
use Rattle.meter_states.proofs.meter_state.State.context_at.Goals as goal

pub returns-clause-value : goal.returns-clause-value
returns-clause-value g c = λ s m is e.
    c.context_on.ensures.value c.args.seal.now s m c.cached_time-local.ensures.local is e
    ∙ ap (λ (second : ℕ). context_on s (local_at s second) m) c.cached_time-local.ensures.second

pub returns-clause-range : goal.returns-clause-range
returns-clause-range g c = c.context_on.ensures.range c.args.seal.now c.cached_time-local.ensures.local
