use Rattle.std.proofs.Common.{ℕ, ◌∙◌, ◌≡◌, ap, sym}
use Rattle.{tariff_check.specs.Amounts.{fees_in_force}, meter_states.specs.Common.{SoundTariff, context_on, local_at}}
use Rattle.meter_states.specs.Core.{CoreData}
use Rattle.meter_states.proofs.meter_state.State.fee.Goals as goal

pub returns-clause-value : goal.returns-clause-value
returns-clause-value g c = λ s m is st.
    let clock : c.second.result ≡ m.clock = c.second.ensures ∙ ap (λ (p : CoreData). p.clock) (c.self.view_is ∙ st) in
    c.initial_at.ensures.tree is.tariff.tree is.tariff.compiled
    ∙ ap (λ (t : SoundTariff). fees_in_force t c.context_at-x.result) (sym is.tariff.parts)
    ∙ ap (fees_in_force s.tariff)
    (c.context_at-x.ensures.value s m is st ∙ ap (λ (second : ℕ). context_on s (local_at s second) m) clock)
