use Rattle.std.proofs.{Common.{List, arith, flat_map, subst}, lemmas.List.{take_all}}
use Rattle.meter_run.{specs.Common.{Run, run_events}, proofs.EventLists.{runs_carried, true_is, went_well, went_wrong}}
use Rattle.meter_run.specs.Drives.{IsBounded}
use Rattle.meter_run.proofs.EventLists.{bounded_at_run, bounded_run, counts_more, no_more, not_ok, on_err, runs_broken}
use Rattle.meter_run.proofs.runs.carry_runs.Goals as goal

pub loop-run-preserved : goal.loop-run-preserved
loop-run-preserved g c =
    let r = c.args.by.now in
    let runs = c.args.runs.now in
    let i = c.loop-run.run-index in
    record {
      ready = c.in_ok-carry_run.ensures.ready;
      carried = runs_carried (g.C.Carrier.carried r) (g.C.Carrier.broke_off r) (g.met.C.Carrier.behind r)
          (g.met.C.Carrier.later r) (g.met.C.Carrier.sooner r)
          runs i _ c.args.meter.now c.args.board.now c.loop-run.meter c.loop-run.board c.carry_run.new.meter
          c.carry_run.new.board c.loop-run-test.true c.loop-run.invariant.carried c.in_ok-carry_run.ensures.carried;
      faults = counts_more _ _ _ c.loop-run.invariant.faults
          (c.in_ok-carry_run.ensures.cause.kept true_is);
      steps = bounded_run runs i _ c.args.steps.now c.loop-run.steps c.carry_run.new.steps c.loop-run-test.true
          c.loop-run.invariant.steps c.carry_run.ensures.steps;
    }

pub returns-in_err-carry_run : goal.returns-in_err-carry_run
returns-in_err-carry_run g c = record {
  ready = not_ok _ c.from_residual.result _ c.from_residual.ensures.1;
  carried = not_ok _ c.from_residual.result _ c.from_residual.ensures.1;
  broke_off =
      let r = c.args.by.now in
      on_err c.from_residual.result _ (runs_broken (g.C.Carrier.carried r) (g.C.Carrier.broke_off r)
      (g.met.C.Carrier.behind r) (g.met.C.Carrier.later r) (g.met.C.Carrier.sooner r)
      c.args.runs.now c.loop-run.run-index _ c.args.meter.now c.args.board.now c.loop-run.meter c.loop-run.board
      c.carry_run.new.board c.loop-run-test.true c.loop-run.invariant.carried c.in_err-carry_run.ensures.broke_off);
  cause = went_wrong _ _ _ _ c.from_residual.result c.from_residual.ensures.0
      c.loop-run.invariant.faults c.in_err-carry_run.ensures.cause;
  steps = bounded_at_run c.args.runs.now c.loop-run.run-index _ c.args.steps.now c.loop-run.steps c.carry_run.new.steps
      c.loop-run-test.true c.loop-run.invariant.steps c.carry_run.ensures.steps;
}

pub loop-run-init : goal.loop-run-init
loop-run-init g c = record {
  ready = c.requires.ready;
  carried = g.met.C.Carrier.nothing c.args.by.now c.args.meter.now c.args.board.now c.requires.ready;
  faults = no_more (g.B.Printer.faults c.args.board.now);
  steps = omega arith;
}

pub returns : goal.returns
returns g c = record {
  ready = c.loop-run.invariant.ready;
  carried = subst (λ (runs : List Run). g.C.Carrier.carried c.args.by.now c.args.meter.now c.args.board.now
      (flat_map run_events runs) c.loop-run.meter c.loop-run.board)
      (take_all c.loop-run.run-index c.args.runs.now c.loop-run-test.false) c.loop-run.invariant.carried;
  broke_off = tt;
  cause = went_well _ _ tt c.loop-run.invariant.faults;
  steps = subst (λ (runs : List Run). IsBounded c.args.steps.now c.loop-run.steps (flat_map run_events runs))
      (take_all c.loop-run.run-index c.args.runs.now c.loop-run-test.false) c.loop-run.invariant.steps;
}
