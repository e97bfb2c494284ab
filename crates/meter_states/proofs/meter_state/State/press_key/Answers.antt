use Rattle.std.proofs.Common.{◌∙◌, ◌≡◌, ap, refl, subst, sym, true}
use Rattle.{meter_model.specs.Meter.{refused}, meter_states.proofs.KeyStages.{steps-one, steps-twelve, trip-there}}
use Rattle.meter_states.{specs.{Common.{ForHire, Meter, NotNow, Setting}, Lawful.{is_busy}}, proofs.Pushes.{room-none}}
use Rattle.meter_states.specs.Core.{CoreData}
use Rattle.meter_states.proofs.KeyStages.{closes-act, commits-act, moves-stage, refuses-stage, steps-at, steps-none}
use Rattle.meter_model.specs.declared.key_act.KeyAct.TheVariants as key_acts
use Rattle.meter_states.proofs.meter_state.State.press_key.Goals as goal

pub hire-requires-clause-ready : goal.hire-requires-clause-ready
hire-requires-clause-ready g c = c.requires.ready

pub hire-requires-clause-hire : goal.hire-requires-clause-hire
hire-requires-clause-hire g c = sym (ap (λ (p : CoreData). p.operating) c.self.view_is) ∙ c.in-Hire.ensures.done

pub clear-requires-clause-ready : goal.clear-requires-clause-ready
clear-requires-clause-ready g c = c.requires.ready

pub clear-requires-clause-trip : goal.clear-requires-clause-trip
clear-requires-clause-trip g c = trip-there c.args.self.now.operating c.args.self.now.trip
    (subst (λ (p : CoreData). is_busy p.operating ≡ true) c.self.view_is c.in-Clear.ensures.done)
    c.requires.ready.lawful.on

pub set_position-requires : goal.set_position-requires
set_position-requires g c = record { ready = c.requires.ready }

pub set_zone-requires : goal.set_zone-requires
set_zone-requires g c = record { ready = c.requires.ready }

pub add_extra-requires : goal.add_extra-requires
add_extra-requires g c = record { ready = c.requires.ready }

pub refuse-requires : goal.refuse-requires
refuse-requires g c = room-none c.args.acts.now.items c.requires.ready.room

pub returns-in-Hire : goal.returns-in-Hire
returns-in-Hire g c = record {
  stage = commits-act c.args.key key_acts.Hire c.self.view_is c.in-Hire.ensures.value c.hire.ensures.stage;
  steps = steps-at c.hire.new.steps c.args.steps.now ForHire c.self.view_is c.in-Hire.ensures.done c.hire.ensures.steps;
}

pub returns-in-Move : goal.returns-in-Move
returns-in-Move g c = record {
  stage = commits-act c.args.key (key_acts.Move c.in-Move.operating) c.self.view_is c.in-Move.ensures.value
      (moves-stage c.in-Move.operating c.self.view_is c.requires.ready c.in-Move.ensures.done);
  steps = steps-none c.args.steps.now c.args.self.now.operating;
}

pub returns-in-Clear : goal.returns-in-Clear
returns-in-Clear g c = record {
  stage = closes-act c.args.key key_acts.Clear c.self.view_is c.in-Clear.ensures.value c.clear.ensures.stage;
  steps = steps-twelve c.clear.new.steps c.args.steps.now c.args.self.now.operating c.clear.ensures.steps;
}

pub returns-in-Position-clause-stage : goal.returns-in-Position-clause-stage
returns-in-Position-clause-stage g c = commits-act c.args.key (key_acts.Position c.in-Position.n) c.self.view_is
    c.in-Position.ensures.value (c.set_position.ensures.stage c.args.seal.now)

pub returns-in-Position-clause-steps : goal.returns-in-Position-clause-steps
returns-in-Position-clause-steps g c = steps-none c.args.steps.now c.args.self.now.operating

pub returns-in-Zone-clause-stage : goal.returns-in-Zone-clause-stage
returns-in-Zone-clause-stage g c = commits-act c.args.key (key_acts.Zone c.in-Zone.n) c.self.view_is
    c.in-Zone.ensures.value (c.set_zone.ensures.stage c.args.seal.now)

pub returns-in-Zone-clause-steps : goal.returns-in-Zone-clause-steps
returns-in-Zone-clause-steps g c = steps-none c.args.steps.now c.args.self.now.operating

pub returns-in-Extra : goal.returns-in-Extra
returns-in-Extra g c = record {
  stage = commits-act c.args.key (key_acts.Extra c.in-Extra.n) c.self.view_is
      c.in-Extra.ensures.value (c.add_extra.ensures.stage c.args.seal.now);
  steps = steps-one c.add_extra.new.steps c.args.steps.now c.args.self.now.operating c.add_extra.ensures.steps;
}

pub returns-in-Refuse-clause-stage : goal.returns-in-Refuse-clause-stage
returns-in-Refuse-clause-stage g c = commits-act c.args.key key_acts.Refuse c.self.view_is c.in-Refuse.ensures.value
    (refuses-stage NotNow (λ (s : Setting) (m : Meter). refused NotNow m) c.requires.ready c.refuse.ensures
    (λ s m is. refl))

pub returns-in-Refuse-clause-steps : goal.returns-in-Refuse-clause-steps
returns-in-Refuse-clause-steps g c = steps-none c.args.steps.now c.args.self.now.operating
