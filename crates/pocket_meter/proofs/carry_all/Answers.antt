use Rattle.std.proofs.{Common.{◌++◌, ◌∙◌, List, ap, arith, refl, sym}, lemmas.List.{append-nil, take_all}}
use Rattle.meter_run.proofs.Laws.{begins, ready_first}
use Rattle.pocket_meter.specs.Common.{Event, first_state, opened, run, shown_texts}
use Rattle.pocket_meter.proofs.CarriedEvents.{fails_behind, printed_more, stands_more}
use Rattle.pocket_meter.proofs.carry_all.Goals as goal

pub loop-event-init : goal.loop-event-init
loop-event-init g c = record {
  ready = ready_first c.args.made.now.0 c.args.made.now.1 c.new-meter.result.core c.new-meter.result.durable
      c.recall.ensures.compiled c.requires.constant
      (c.new-meter.ensures.lawful c.args.made.now.0 c.args.made.now.1) c.new-meter.ensures.off c.new-meter.ensures.range
      c.new-meter.ensures.first;
  stands = λ s is. begins s c.new-meter.result.core c.new-meter.result.durable c.new-meter.ensures.off
      c.new-meter.ensures.first;
  printed = λ s is. sym (append-nil c.args.panel.now.text.items);
  faults = refl;
  steps = omega arith;
}

pub loop-event-preserved : goal.loop-event-preserved
loop-event-preserved g c =
    let t = c.args.made.now.0 in
    let k = c.args.made.now.1 in
    let es = c.args.events.now in
    let i = c.loop-event.event-index in
    let next = c.in_ok-carry_event.ensures.carried in
    record {
      ready = c.in_ok-carry_event.ensures.ready;
      stands = λ s is. stands_more _ t k es i _ c.loop-event-test.true c.loop-event.meter c.loop-event.panel
          c.carry_event.new.self c.carry_event.new.board next s is (c.loop-event.invariant.stands s is);
      printed = λ s is. printed_more _ t k es i _ c.loop-event-test.true c.loop-event.meter
          c.loop-event.panel c.carry_event.new.self c.carry_event.new.board next s is
          (c.loop-event.invariant.stands s is) c.args.panel.now.text.items tt
          (c.loop-event.invariant.printed s is);
      faults = c.in_ok-carry_event.ensures.cause.kept refl ∙ c.loop-event.invariant.faults;
      steps = omega (arith, c.loop-event.invariant.steps, c.carry_event.ensures.steps);
    }

pub returns-in_err-carry_event-clause-cause : goal.returns-in_err-carry_event-clause-cause
returns-in_err-carry_event-clause-cause g c =
    fails_behind c.args.panel.now.faults c.loop-event.panel.faults
    c.carry_event.new.board.faults _ c.from_residual.result c.from_residual.ensures.0
    c.loop-event.invariant.faults c.in_err-carry_event.ensures.cause

pub returns-in_err-carry_event-clause-steps : goal.returns-in_err-carry_event-clause-steps
returns-in_err-carry_event-clause-steps g c =
    omega (arith, c.loop-event-test.true, c.loop-event.invariant.steps, c.carry_event.ensures.steps)

pub returns-clause-shown : goal.returns-clause-shown
returns-clause-shown g c = λ s is.
    c.loop-event.invariant.printed s is
    ∙ ap (λ (es : List Event). c.args.panel.now.text.items ++ shown_texts (run s es (opened s first_state)).acts)
    (take_all c.loop-event.event-index c.args.events.now c.loop-event-test.false)
