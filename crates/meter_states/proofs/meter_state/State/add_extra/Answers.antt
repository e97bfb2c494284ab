use Rattle.std.proofs.Common.{◌∙◌, ◌≤◌, Option, ap, subst, sym}
use Rattle.{taxi_units.specs.declared.event.Why.TheVariants.{NoSuch}, meter_model.specs.Keys.{extra_added}}
use Rattle.meter_states.specs.Common.{Meter, Setting, Supplement, amount_in, extra_added_to, most_in}
use Rattle.meter_states.{specs.Common.{supplement_numbered}, proofs.KeyStages.{commits-as, refuses-stage, steps-same}}
use Rattle.meter_states.proofs.{Powered.{some-there}, Pushes.{room-none}}
use Rattle.meter_states.proofs.meter_state.State.add_extra.Goals as goal

pub refuse-requires : goal.refuse-requires
refuse-requires g c = room-none c.args.acts.now.items c.requires.ready.room

pub returns-in_default : goal.returns-in_default
returns-in_default g c = record {
  stage = λ seal.
      refuses-stage NoSuch
      (λ (s : Setting) (m : Meter). extra_added c.args.n (supplement_numbered s.tariff.supplements c.args.n) m)
      c.requires.ready c.refuse.ensures
      (λ s m is. ap (λ (o : Option Supplement). extra_added c.args.n o m)
      (sym (c.find_supplement.ensures.setting s is.tariff) ∙ c.in_default.is));
  steps = steps-same c.find_supplement.new.steps c.args.steps.now c.find_supplement.ensures.steps;
}

pub add_found-requires : goal.add_found-requires
add_found-requires g c = record {
  ready = (c.args.tables.now, c.requires.ready);
  number = c.find_supplement.ensures.number (some-there c.in-Some.supplement c.in-Some.is);
  amount = subst (λ (o : Option Supplement). amount_in o ≤ 1000000) c.in-Some.is c.find_supplement.ensures.amount;
  most = subst (λ
      (o : Option Supplement). most_in o ≤ 99) c.in-Some.is c.find_supplement.ensures.most;
}

pub returns-clause-stage : goal.returns-clause-stage
returns-clause-stage g c = λ seal.
    commits-as (λ (s : Setting) (m : Meter). extra_added_to c.args.n c.in-Some.supplement m.trip m) (λ (s : Setting)
    (m : Meter). extra_added c.args.n (supplement_numbered s.tariff.supplements c.args.n) m)
    (c.add_found.ensures.stage c.args.tables.now seal c.requires.ready (sym c.find_supplement.ensures.value
    ∙ c.in-Some.is))
    (λ s m is. ap (λ (o : Option Supplement). extra_added c.args.n o m)
    (sym (c.find_supplement.ensures.setting s is.tariff) ∙ c.in-Some.is))

pub returns-clause-steps : goal.returns-clause-steps
returns-clause-steps g c = steps-same c.find_supplement.new.steps c.args.steps.now c.find_supplement.ensures.steps
