use Rattle.std.proofs.{Common.{◌++◌, ◌∙◌, List, ap, arith, refl, rules, sym}, lemmas.List.{append-nil, take_all}}
use Rattle.{outside.proofs.Laws.{keeps_none, keeps_then}, meter_run.specs.{Common.{Act}, Texts.{shown_texts}}}
use Rattle.meter_run.{specs.Commits.{after_acts}, proofs.EventLists.{not_ok, true_is, went_well, went_wrong}}
use Rattle.meter_run.proofs.CarriedActs.{after_more, are_after, are_at, begins_at, begins_end, printed_more}
use Rattle.meter_run.proofs.dry.perform_all.Goals as goal

pub perform-requires : goal.perform-requires
perform-requires g c =
    (are_at c.loop-act.durable c.args.acts.now c.loop-act.act-index _ c.loop-act-test.true c.loop-act.invariant.left).0

pub loop-act-preserved : goal.loop-act-preserved
loop-act-preserved g c =
    let n = c.loop-act.act-index in
    let acts = c.args.acts.now in
    record {
      durable = after_more c.args.durable.now c.loop-act.durable c.perform.new.durable acts n _ c.loop-act-test.true
          c.loop-act.invariant.durable c.perform.ensures.durable;
      left = are_after c.loop-act.durable c.perform.new.durable acts n _ c.loop-act-test.true c.loop-act.invariant.left
          c.perform.ensures.durable;
      printed = λ told. printed_more (g.B.Printer.printed c.args.board.now) (g.B.Printer.printed c.loop-act.board)
          (g.B.Printer.printed c.perform.new.board) acts n _ c.loop-act-test.true (c.loop-act.invariant.printed told)
          (c.in_ok-perform.ensures.whole told);
      faults = c.in_ok-perform.ensures.cause.kept true_is ∙ c.loop-act.invariant.faults;
      store = keeps_then g.B.Printer c.args.board.now c.loop-act.board c.perform.new.board c.loop-act.invariant.store
          c.perform.ensures.store;
      steps = omega (arith, c.loop-act.invariant.steps, c.perform.ensures.steps);
    }

pub loop-act-init : goal.loop-act-init
loop-act-init g c = record {
  durable = refl;
  left = c.requires;
  printed = λ told. sym (append-nil (g.B.Printer.printed c.args.board.now));
  faults = omega arith;
  store = keeps_none g.B.Printer c.args.board.now;
  steps = omega arith;
}

pub returns-in_err-perform : goal.returns-in_err-perform
returns-in_err-perform g c = record {
  durable = not_ok _ c.from_residual.result _ c.from_residual.ensures.1;
  whole = λ told. not_ok _ c.from_residual.result _ c.from_residual.ensures.1;
  begun = λ told.
      begins_at (g.B.Printer.printed c.args.board.now) (g.B.Printer.printed c.loop-act.board)
      (g.B.Printer.printed c.perform.new.board) c.args.acts.now c.loop-act.act-index _ c.loop-act-test.true
      (c.loop-act.invariant.printed told) (c.perform.ensures.begun told);
  cause = went_wrong _ _ _ _ c.from_residual.result c.from_residual.ensures.0
      c.loop-act.invariant.faults c.in_err-perform.ensures.cause;
  steps = omega (arith, c.loop-act-test.true, c.loop-act.invariant.steps, c.perform.ensures.steps);
  store = keeps_then g.B.Printer c.args.board.now c.loop-act.board c.perform.new.board
      c.loop-act.invariant.store c.perform.ensures.store;
}

pub returns : goal.returns
returns g c = record {
  durable = c.loop-act.invariant.durable
      ∙ ap (after_acts c.args.durable.now) (take_all c.loop-act.act-index c.args.acts.now c.loop-act-test.false);
  whole = λ told.
      c.loop-act.invariant.printed told ∙ ap (λ (acts : List Act). g.B.Printer.printed c.args.board.now ++ shown_texts
      acts)
      (take_all c.loop-act.act-index c.args.acts.now c.loop-act-test.false);
  begun = λ told. begins_end (g.B.Printer.printed c.args.board.now)
      (g.B.Printer.printed c.loop-act.board)
      c.args.acts.now c.loop-act.act-index c.loop-act-test.false (c.loop-act.invariant.printed told);
  cause = went_well _ _ tt c.loop-act.invariant.faults;
  steps = search rules;
  store = c.loop-act.invariant.store;
}
