use Rattle.std.proofs.Common.{◌∙◌, ap, sum, sym}
use Rattle.{meter_model.specs.Interval.{left_in}, meter_states.proofs.RoamingStages.{amid-enters}}
use Rattle.meter_states.{specs.{Common.{Operating}, Core.{CoreData, core_of}}, proofs.Powered.{powered-wider}}
use Rattle.meter_states.proofs.meter_state.State.leave_interval.Goals as goal

pub returns-in-ForHire-clause-lawful : goal.returns-in-ForHire-clause-lawful
returns-in-ForHire-clause-lawful c = λ tables on. amid-enters (c.roam_interval.ensures.lawful tables on)

pub returns-in-ForHire-clause-state : goal.returns-in-ForHire-clause-state
returns-in-ForHire-clause-state c = λ s m e.
    let here = sym c.in-ForHire.is ∙ ap (λ (p : CoreData). p.operating) (c.self.view_is ∙ e) in
    c.roam_interval.ensures.state s m e ∙ ap (λ (o : Operating). core_of s (left_in o (sum m.taken) m)) here

pub returns-in-Hired-clause-lawful : goal.returns-in-Hired-clause-lawful
returns-in-Hired-clause-lawful c = λ tables on. powered-wider (c.leave_trip.ensures.lawful tables on)

pub returns-in-Hired-clause-state : goal.returns-in-Hired-clause-state
returns-in-Hired-clause-state c = λ s m e.
    let here = sym c.in-Hired.is ∙ ap (λ (p : CoreData). p.operating) (c.self.view_is ∙ e) in
    c.leave_trip.ensures.state s m e ∙ ap (λ (o : Operating). core_of s (left_in o (sum m.taken) m)) here

pub returns-in-Stopped-clause-lawful : goal.returns-in-Stopped-clause-lawful
returns-in-Stopped-clause-lawful c = λ tables on. powered-wider (c.leave_trip-in-Stopped.ensures.lawful tables on)

pub returns-in-Stopped-clause-state : goal.returns-in-Stopped-clause-state
returns-in-Stopped-clause-state c = λ s m e.
    let here = sym c.in-Stopped.is ∙ ap (λ (p : CoreData). p.operating) (c.self.view_is ∙ e) in
    c.leave_trip-in-Stopped.ensures.state s m e ∙ ap (λ (o : Operating). core_of s (left_in o (sum m.taken) m)) here
