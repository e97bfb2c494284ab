use Rattle.std.proofs.Common.{[], ◌∙◌, ◌∷◌, All, List, arith, rules, subst, sym}
use Rattle.meter_run.{specs.Commits.{AreFor}, proofs.SupplyDrop.{acts_for, few_commits}}
use Rattle.meter_run.{specs.Common.{Act, Event, IsLawfulAct, IsTimely, step}, proofs.EventOnStore.{refusal_attempted}}
use Rattle.meter_run.{specs.OnStore.{Attempts}, proofs.Supplies.{event_keeps_off, supply_keeps, unknown_keeps_off}}
use Rattle.meter_run.proofs.EventOnStore.{event_attempted, known_ready, lawful_beside, may_known, meets_as, meets_with}
use Rattle.meter_run.proofs.stored.StoreMeter.carry_event.Goals as goal

-- ---- the supply comes

pub power_up-requires : goal.power_up-requires
power_up-requires g c = record {
  ready = c.requires.ready;
  off = c.in-Some.ensures.comes.1;
  second = subst IsTimely c.in-Some.ensures.comes.0 c.requires.timely;
}

pub returns-in-Some : goal.returns-in-Some
returns-in-Some g c = record {
  attempts = subst (λ (e : Event). Attempts g.B.Printer c.args.tables.now c.args.seal.now (λ s m. step s e m)
      c.args.self.now
      c.args.board.now c.power_up.result c.power_up.new.meter c.power_up.new.board) (sym c.in-Some.ensures.comes.0)
      c.power_up.ensures.attempts;
  supply = supply_keeps c.args.self.now.core.state c.power_up.new.meter.core.state c.args.event c.in-Some.second
      c.in-Some.ensures.comes.0;
  steps = search rules;
}

-- ---- a meter that is off refuses

pub returns-in-None-known-clause-attempts : goal.returns-in-None-known-clause-attempts
returns-in-None-known-clause-attempts g c =
    let a = c.args.board.now in
    let printed = c.print_refusal.ensures.printed in
    refusal_attempted g.B.Printer c.args.tables.now c.args.seal.now c.args.self.now a c.print_refusal.new.board
    c.args.event c.requires.ready c.in-None-known.is (c.supply_at.ensures.other c.in-None.is)
    (g.met.B.Printer.only_now a)
    printed.store printed.leaves printed.begun c.print_refusal.result printed.whole printed.cause

pub returns-in-None-known-clause-supply : goal.returns-in-None-known-clause-supply
returns-in-None-known-clause-supply g c =
    unknown_keeps_off g.B.Printer c.args.tables.now c.args.seal.now c.args.self.now c.args.board.now
    (c.args.event ∷ []) c.in-None-known.is c.requires.ready

-- ---- the core moves by the event

pub step_into-requires : goal.step_into-requires
step_into-requires g c = record {
  ready = record {
    lawful = c.requires.ready.lawful;
    constant = c.requires.ready.secured.is.tariff.constant ∙ sym c.requires.ready.secured.is.secured.constant;
    timely = c.requires.timely;
    supply = c.supply_at.ensures.other c.in-None.is;
  };
  empty = c.clear.ensures;
}

pub do_acts-requires : goal.do_acts-requires
do_acts-requires g c =
    let t = c.args.tables.now in
    let x = c.args.self.now in
    record {
      acts =
          let k = c.args.seal.now in
          let d = c.in-Some-known.known.durable in
          let core = c.step_into.new.self in
          let acts = c.step_into.new.acts.items in
          let takes = c.step_into.ensures.takes in
          let ready = known_ready g.B.Printer t k x c.in-Some-known.known c.args.board.now c.in-Some-known.is
          c.requires.ready in
          subst (AreFor d) (sym c.as_slice.ensures.value)
          (acts_for t k c.args.event x.core core d acts ready (meets_with t k c.args.event x.core core d acts takes)
          (lawful_beside t k c.args.event x.core core d acts ready (c.supply_at.ensures.other c.in-None.is) takes));
      may =
          let k = c.in-Some-known.known in
          let ready = known_ready g.B.Printer t c.args.seal.now x k c.args.board.now c.in-Some-known.is
          c.requires.ready in (
            t,
            may_known g.B.Printer t c.args.seal.now x k c.args.board.now c.as_slice.result.now c.in-Some-known.is
                c.requires.ready
                (subst (λ (acts : List Act). All (IsLawfulAct t k.durable.number) acts) (sym c.as_slice.ensures.value)
                (lawful_beside t c.args.seal.now c.args.event x.core c.step_into.new.self k.durable
                c.step_into.new.acts.items
                ready (c.supply_at.ensures.other c.in-None.is) c.step_into.ensures.takes)),
          );
      seal = search rules;
    }

pub returns-in-Some-known : goal.returns-in-Some-known
returns-in-Some-known g c =
    let t = c.args.tables.now in
    let k = c.args.seal.now in
    let x = c.args.self.now in
    let core = c.step_into.new.self in
    let moved = c.step_into.new.acts.items in
    let acts = c.as_slice.result.now in
    record {
      attempts =
          let a = c.args.board.now in
          let known = c.in-Some-known.known in
          let d = known.durable in
          let takes = c.step_into.ensures.takes in
          let e = c.as_slice.ensures.value in
          let done = c.do_acts.ensures in
          let ready = known_ready g.B.Printer t k x known a c.in-Some-known.is c.requires.ready in
          let lawful = subst (λ (acts : List Act). All (IsLawfulAct t d.number) acts) (sym e)
          (lawful_beside t k c.args.event x.core core d moved ready (c.supply_at.ensures.other c.in-None.is) takes) in
          let may = may_known g.B.Printer t k x known a acts c.in-Some-known.is c.requires.ready lawful in
          event_attempted g.B.Printer t k x a known core c.do_acts.new.board c.args.event acts c.in-Some-known.is
          (meets_as t k x.core d core c.args.event acts moved e (meets_with t k c.args.event x.core core d moved takes))
          (λ told. done.points told t may) done.beside
          c.do_acts.result c.do_acts.new.known c.requires.ready.secured ready
          lawful takes.lawful done.durable (done.agrees t may) done.whole done.turn done.cause;
      supply =
          let d = c.in-Some-known.known.durable in
          event_keeps_off t k c.args.event x.core core d moved
          (known_ready g.B.Printer t k x c.in-Some-known.known c.args.board.now c.in-Some-known.is c.requires.ready)
          (meets_with t k c.args.event x.core core d moved c.step_into.ensures.takes);
      steps =
          let d = c.in-Some-known.known.durable in
          let few = few_commits t k c.args.event x.core core d acts
          (known_ready g.B.Printer t k x c.in-Some-known.known c.args.board.now c.in-Some-known.is c.requires.ready)
          (meets_as t k x.core d core c.args.event acts moved c.as_slice.ensures.value
          (meets_with t k c.args.event x.core core d moved c.step_into.ensures.takes)) in
          omega (arith, few, c.as_slice.ensures.fits, c.step_into.ensures.steps, c.do_acts.ensures.steps);
    }
