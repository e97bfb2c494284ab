use Rattle.std.proofs.Common.{◌∙◌, rules, subst, sym}
use Rattle.meter_run.{specs.Common.{Event, IsTimely, Meets, step}, proofs.EventOnStore.{lawful_beside}}
use Rattle.meter_run.proofs.SupplyDrop.{came}
use Rattle.meter_run.proofs.dry.step_or_resume.Goals as goal

pub resume-powered-requires : goal.resume-powered-requires
resume-powered-requires g c = record {
  range = c.requires.ready.range;
  fits = c.requires.ready.fits;
  constant = c.requires.ready.way.is.tariff.constant ∙ sym c.requires.ready.way.is.secured.constant;
  second = subst IsTimely c.in-Some.ensures.comes.0 c.requires.timely;
}

pub returns-in-Some : goal.returns-in-Some
returns-in-Some g c = record {
  lawful = c.resume-powered.ensures.lawful;
  ranges = c.resume-powered.ensures.ranges;
  meets = λ s m is stands.
      let core = c.resume-powered.result.0 in
      let acts = c.resume-powered.result.1.items in
      subst (λ (event : Event). Meets s core.state acts (step s event m)) (sym c.in-Some.ensures.comes.0)
      (came s c.in-Some.second c.args.core.now core c.args.durable.now acts c.in-Some.ensures.comes.1
      (λ n at saved. c.resume-powered.ensures.meets s n is at saved) m stands);
  steps = search rules;
}

pub step_into-requires : goal.step_into-requires
step_into-requires g c = record {
  ready = record {
    lawful = c.requires.ready.lawful;
    constant = c.requires.ready.way.is.tariff.constant ∙ sym c.requires.ready.way.is.secured.constant;
    timely = c.requires.timely;
    supply = c.supply_at.ensures.other c.in-None.is;
  };
  empty = c.requires.empty;
}

pub returns-in-None : goal.returns-in-None
returns-in-None g c = record {
  lawful = c.step_into.ensures.takes.lawful;
  ranges = lawful_beside c.args.tables.now c.args.seal.now c.args.event c.args.core.now c.step_into.new.self
      c.args.durable.now c.step_into.new.acts.items c.requires.ready (c.supply_at.ensures.other c.in-None.is)
      c.step_into.ensures.takes;
  meets = λ s m is stands. c.step_into.ensures.takes.meets s m is stands.core;
  steps = search rules;
}
