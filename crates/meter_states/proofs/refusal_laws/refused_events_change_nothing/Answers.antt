use Rattle.meter_states.proofs.Refused.{refused-event, refused-key}
use Rattle.meter_states.proofs.refusal_laws.refused_events_change_nothing.Goals as goal

pub returns : goal.returns
returns c = record { event = refused-event; key = refused-key }
