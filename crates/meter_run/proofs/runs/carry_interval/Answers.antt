use Rattle.std.proofs.lemmas.Result.{on_err_weaker, on_ok_weaker}
use Rattle.meter_run.proofs.EventLists.{interval_broken, interval_carried, on_err, pulses_broken}
use Rattle.meter_run.proofs.runs.carry_interval.Goals as goal

pub returns-clause-carried : goal.returns-clause-carried
returns-clause-carried g c =
    let r = c.args.by.now in
    on_ok_weaker c.carry_event-3.result (λ next. interval_carried (g.C.Carrier.carried r) (g.C.Carrier.broke_off r)
    (g.met.C.Carrier.behind r) (g.met.C.Carrier.later r) (g.met.C.Carrier.sooner r)
    c.args.pulses c.args.meter.now c.args.board.now c.carry_event-2.new.self c.carry_event-2.new.board
    c.carry_event-3.new.self c.carry_event-3.new.board c.if-pulses-eq0.false c.in_ok-carry_event.ensures.carried next)
    c.carry_event-3.ensures.carried

pub returns-clause-broke_off : goal.returns-clause-broke_off
returns-clause-broke_off g c =
    let r = c.args.by.now in
    on_err_weaker c.carry_event-3.result (λ next. interval_broken (g.C.Carrier.carried r) (g.C.Carrier.broke_off r)
    (g.met.C.Carrier.behind r) (g.met.C.Carrier.later r) (g.met.C.Carrier.sooner r)
    c.args.pulses c.args.meter.now c.args.board.now c.carry_event-2.new.self c.carry_event-2.new.board
    c.carry_event-3.new.board c.if-pulses-eq0.false c.in_ok-carry_event.ensures.carried next)
    c.carry_event-3.ensures.broke_off

pub returns-in_err-carry_event-clause-broke_off : goal.returns-in_err-carry_event-clause-broke_off
returns-in_err-carry_event-clause-broke_off g c =
    let r = c.args.by.now in
    on_err c.from_residual.result _ (pulses_broken (g.C.Carrier.carried r) (g.C.Carrier.broke_off r)
    (g.met.C.Carrier.behind r) (g.met.C.Carrier.later r) (g.met.C.Carrier.sooner r)
    c.args.pulses c.args.meter.now c.args.board.now c.carry_event-2.new.board c.if-pulses-eq0.false
    c.in_err-carry_event.ensures.broke_off)
