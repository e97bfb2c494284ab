use Rattle.std.proofs.Common.{ℕ, ◌+◌, ◌≡◌, arith, subst}
use Rattle.meter_run.{specs.{Common.{intervals_events}, Drives.{IsBounded}}, proofs.EventLists.{went_well, went_wrong}}
use Rattle.meter_run.proofs.EventLists.{bounded_at_interval, bounded_further, counts_more, intervals_broken}
use Rattle.meter_run.proofs.EventLists.{intervals_carried, intervals_further, no_more, not_ok, on_err, true_is}
use Rattle.meter_run.proofs.runs.carry_intervals.Goals as goal

pub carry_equal-done-requires : goal.carry_equal-done-requires
carry_equal-done-requires g c = (c.carry_interval.new.board, c.in_ok-carry_interval.ensures.ready)

pub loop-done-preserved : goal.loop-done-preserved
loop-done-preserved g c =
    let r = c.args.by.now in
    let p = c.args.pulses in
    let i = c.loop-done.done in
    let n = c.carry_equal-done.result in
    let one = intervals_carried (g.C.Carrier.carried r) (g.C.Carrier.broke_off r) (g.met.C.Carrier.behind r)
    (g.met.C.Carrier.later r) (g.met.C.Carrier.sooner r)
    p i c.args.meter.now c.args.board.now c.loop-done.meter c.loop-done.board c.carry_interval.new.meter
    c.carry_interval.new.board c.loop-done.invariant.carried c.in_ok-carry_interval.ensures.carried in
    record {
      few = omega (arith, c.carry_equal-done.ensures.most);
      ready = c.carry_equal-done.ensures.ready c.carry_interval.new.board c.in_ok-carry_interval.ensures.ready;
      carried = intervals_further (g.C.Carrier.carried r) (g.C.Carrier.broke_off r) (g.met.C.Carrier.behind r)
          (g.met.C.Carrier.later r) (g.met.C.Carrier.sooner r)
          p (i + 1) n c.args.meter.now c.args.board.now c.carry_interval.new.meter c.carry_interval.new.board
          c.carry_equal-done.new.self c.carry_interval.new.board one
          (c.carry_equal-done.ensures.carried c.carry_interval.new.board c.in_ok-carry_interval.ensures.ready);
      faults = counts_more _ _ _ c.loop-done.invariant.faults
          (c.in_ok-carry_interval.ensures.cause.kept true_is);
      steps = bounded_further p (i + 1) n c.args.steps.now c.carry_interval.new.steps
          (bounded_at_interval p i (i + 1) c.args.steps.now c.loop-done.steps c.carry_interval.new.steps
          (omega arith) c.loop-done.invariant.steps c.carry_interval.ensures.steps);
    }

pub returns-in_err-carry_interval : goal.returns-in_err-carry_interval
returns-in_err-carry_interval g c = record {
  ready = not_ok _ c.from_residual.result _ c.from_residual.ensures.1;
  carried = not_ok _ c.from_residual.result _ c.from_residual.ensures.1;
  broke_off =
      let r = c.args.by.now in
      on_err c.from_residual.result _ (intervals_broken (g.C.Carrier.carried r) (g.C.Carrier.broke_off r)
      (g.met.C.Carrier.behind r) (g.met.C.Carrier.later r) (g.met.C.Carrier.sooner r)
      c.args.pulses c.loop-done.done c.args.count c.args.meter.now c.args.board.now c.loop-done.meter c.loop-done.board
      c.carry_interval.new.board c.loop-done-test.true c.loop-done.invariant.carried
      c.in_err-carry_interval.ensures.broke_off);
  cause = went_wrong _ _ _ _ c.from_residual.result c.from_residual.ensures.0
      c.loop-done.invariant.faults c.in_err-carry_interval.ensures.cause;
  steps = bounded_at_interval c.args.pulses c.loop-done.done c.args.count c.args.steps.now c.loop-done.steps
      c.carry_interval.new.steps c.loop-done-test.true c.loop-done.invariant.steps c.carry_interval.ensures.steps;
}

pub returns : goal.returns
returns g c =
    let all : c.loop-done.done ≡ c.args.count = omega (arith, c.loop-done-test.false, c.loop-done.invariant.few) in
    record {
      ready = c.loop-done.invariant.ready;
      carried = subst (λ (n : ℕ). g.C.Carrier.carried c.args.by.now c.args.meter.now c.args.board.now
          (intervals_events c.args.pulses n) c.loop-done.meter c.loop-done.board) all c.loop-done.invariant.carried;
      broke_off = tt;
      cause = went_well _ _ tt c.loop-done.invariant.faults;
      steps = subst (λ (n : ℕ). IsBounded c.args.steps.now c.loop-done.steps (intervals_events c.args.pulses n)) all
          c.loop-done.invariant.steps;
    }

pub loop-done-init : goal.loop-done-init
loop-done-init g c = record {
  few = omega arith;
  ready = c.requires.ready;
  carried = g.met.C.Carrier.nothing c.args.by.now c.args.meter.now c.args.board.now c.requires.ready;
  faults = no_more (g.B.Printer.faults c.args.board.now);
  steps = omega arith;
}

pub carry_interval-requires : goal.carry_interval-requires
carry_interval-requires g c = record { ready = c.loop-done.invariant.ready }
