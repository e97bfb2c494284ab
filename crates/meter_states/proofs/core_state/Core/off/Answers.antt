use Rattle.std.proofs.Common.{inl}
use Rattle.meter_states.proofs.core_state.Core.off.Goals as goal

pub returns-clause-lawful : goal.returns-clause-lawful
returns-clause-lawful c = λ tables seal. record { powered = inl c.off.ensures; cache = c.empty.ensures tables seal }
