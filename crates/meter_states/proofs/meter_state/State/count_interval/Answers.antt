use Rattle.std.proofs.Common.{◌+◌, ◌∙◌, ◌≤◌, ap, arith, subst, sum, sym}
use Rattle.meter_states.{specs.Common.{Operating, counted_in}, proofs.Powered.{powered-longer, powered-wider}}
use Rattle.meter_states.{specs.{Core.{CoreData, core_of}, Lawful.{counting_steps}}, proofs.Outcomes.{not_off}}
use Rattle.meter_states.proofs.meter_state.State.count_interval.Goals as goal

pub roam_interval-requires-clause-roam : goal.roam_interval-requires-clause-roam
roam_interval-requires-clause-roam g c = c.requires.lawful.roam

pub roam_interval-requires-clause-hire : goal.roam_interval-requires-clause-hire
roam_interval-requires-clause-hire g c = sym (ap (λ (p : CoreData). p.operating) c.self.view_is) ∙ c.in-ForHire.is

pub charge_interval-requires : goal.charge_interval-requires
charge_interval-requires g c = record {
  lawful = c.requires.lawful;
  cache = c.requires.cache;
  on = sym (ap (λ (p : CoreData). p.operating) c.self.view_is) ∙ c.in-Hired.is;
}

pub returns-in-Off : goal.returns-in-Off
returns-in-Off g c = absurd (not_off c.args.self.now.operating c.args.self.now.trip c.requires.lawful.on
    (sym (ap (λ (p : CoreData). p.operating) c.self.view_is) ∙ c.in-Off.is))

pub returns-in-ForHire : goal.returns-in-ForHire
returns-in-ForHire g c = record {
  lawful = powered-longer
      (c.roam_interval.ensures.lawful c.args.tables.now c.requires.lawful);
  cache = c.requires.cache;
  same = c.roam_interval.ensures.same;
  state = λ s m is e.
      let here = sym c.in-ForHire.is ∙ ap (λ (p : CoreData). p.operating) (c.self.view_is ∙ e) in
      c.roam_interval.ensures.state s m e ∙ ap (λ (o : Operating). core_of s (counted_in s o (sum m.taken) m)) here;
  steps = omega arith;
}

pub returns-in-Hired : goal.returns-in-Hired
returns-in-Hired g c = record {
  lawful = powered-wider c.charge_interval.ensures.lawful;
  cache = c.charge_interval.ensures.cache;
  same = c.charge_interval.ensures.same;
  state = λ s m is e.
      let here = sym c.in-Hired.is ∙ ap (λ (p : CoreData). p.operating) (c.self.view_is ∙ e) in
      c.charge_interval.ensures.state s m is e ∙ ap (λ (o : Operating). core_of s
      (counted_in s o (sum m.taken) m)) here;
  steps = subst (λ (o : Operating). c.charge_interval.new.steps ≤ c.args.steps.now + counting_steps o)
      (sym (sym (ap (λ (p : CoreData). p.operating) c.self.view_is) ∙ c.in-Hired.is)) c.charge_interval.ensures.steps;
}

pub returns-in-Stopped-clause-cache : goal.returns-in-Stopped-clause-cache
returns-in-Stopped-clause-cache g c = c.requires.cache

pub returns-in-Stopped-clause-lawful : goal.returns-in-Stopped-clause-lawful
returns-in-Stopped-clause-lawful g c = powered-wider
    (c.pass_interval.ensures.lawful c.args.tables.now c.requires.lawful)

pub returns-in-Stopped-clause-state : goal.returns-in-Stopped-clause-state
returns-in-Stopped-clause-state g c = λ s m is e.
    let here = sym c.in-Stopped.is ∙ ap (λ (p : CoreData). p.operating) (c.self.view_is ∙ e) in
    c.pass_interval.ensures.state s m e ∙ ap (λ (o : Operating). core_of s (counted_in s o (sum m.taken) m)) here

pub pass_interval-requires-clause-lawful : goal.pass_interval-requires-clause-lawful
pass_interval-requires-clause-lawful g c = (c.args.tables.now, c.requires.lawful)
