use Rattle.std.proofs.{Common.{◌++◌, ◌+◌, ◌∙◌, List, ap, arith, refl, subst, sym}, lemmas.List.{append-nil, take_all}}
use Rattle.{std.proofs.lemmas.Grind.{common_steps}, outside.proofs.Laws.{keeps_none}, meter_run.specs.Common.{Act}}
use Rattle.meter_run.specs.Commits.{after_acts}
use Rattle.meter_run.specs.{Deeds.{changes_of, deeds_of, texts}, InTurn.{CommitsInTurn}, PointLaws.{keeps_still}}
use Rattle.meter_run.{specs.StoreLaws.{beside_none, beside_then}, proofs.CarriedActs.{after_more, are_after, are_at}}
use Rattle.meter_run.proofs.ActsOnStore.{may_at, points_more, points_whole, steps_more, steps_whole, text_more}
use Rattle.meter_run.proofs.{ActsOnStore.{turn_more}, EventLists.{counts_more, not_ok, true_is, went_well, went_wrong}}
use Rattle.meter_run.proofs.storing.do_acts.Goals as goal

pub do_act-requires-clause-act : goal.do_act-requires-clause-act
do_act-requires-clause-act g c = (are_at c.loop-act.known.durable c.args.acts.now c.loop-act.act-index _
    c.loop-act-test.true c.loop-act.invariant.left).0

pub do_act-requires-clause-may : goal.do_act-requires-clause-may
do_act-requires-clause-may g c =
    let t = c.requires.may.0 in
    let may = c.requires.may.1 in (
      t,
      may_at g.B.Printer t c.args.known.now c.loop-act.known c.args.board.now c.loop-act.board c.args.acts.now
          c.loop-act.act-index _ c.loop-act-test.true may (c.loop-act.invariant.agrees t may),
    )

pub loop-act-preserved : goal.loop-act-preserved
loop-act-preserved g c =
    let t = c.requires.may.0 in
    let k = c.args.seal.now in
    let n = c.loop-act.act-index in
    let acts = c.args.acts.now in
    let i = c.loop-act.invariant in
    let a = c.args.board.now in
    let b = c.loop-act.board in
    let b' = c.do_act.new.board in
    record {
      durable = after_more c.args.known.now.durable c.loop-act.known.durable c.do_act.new.known.durable acts n _
          c.loop-act-test.true i.durable c.in_ok-do_act.ensures.durable;
      left = are_after c.loop-act.known.durable c.do_act.new.known.durable acts n _ c.loop-act-test.true i.left
          c.in_ok-do_act.ensures.durable;
      agrees = λ tables may. c.in_ok-do_act.ensures.agrees tables
          (may_at g.B.Printer tables c.args.known.now c.loop-act.known c.args.board.now c.loop-act.board c.args.acts.now
          c.loop-act.act-index _ c.loop-act-test.true may (c.loop-act.invariant.agrees tables may));
      printed = text_more g.B.Printer t k a b b' acts n _ c.loop-act-test.true i.printed c.in_ok-do_act.ensures.whole;
      points = λ told tables may. points_more g.B.Printer tables k a b b' acts n _ c.loop-act-test.true i.printed
          c.args.known.now.durable c.loop-act.known.durable i.durable (i.points told tables may)
          (c.do_act.ensures.points told tables
          (may_at g.B.Printer tables c.args.known.now c.loop-act.known c.args.board.now c.loop-act.board c.args.acts.now
          c.loop-act.act-index _ c.loop-act-test.true may (c.loop-act.invariant.agrees tables may)));
      turn = λ told. turn_more g.B.Printer t k a b b' acts n _ c.loop-act-test.true i.printed c.args.known.now.durable
          c.loop-act.known.durable i.durable (i.turn told) (c.in_ok-do_act.ensures.turn told);
      beside = λ told. beside_then g.B.Printer a b b' (i.beside told) (c.do_act.ensures.beside told);
      faults = counts_more _ _ _ i.faults
          (c.in_ok-do_act.ensures.cause.kept true_is);
      steps = steps_more acts n _ c.args.steps.now c.loop-act.steps c.do_act.new.steps c.loop-act-test.true i.steps
          c.do_act.ensures.steps;
    }

pub loop-act-init : goal.loop-act-init
loop-act-init g c =
    let a = c.args.board.now in
    let k = c.args.known.now in
    let now = g.met.B.Printer.only_now a in
    record {
      durable = refl;
      left = c.requires.acts;
      agrees = λ tables may. may.agrees;
      printed = λ told. sym (append-nil (g.B.Printer.printed a));
      points = λ told tables may. keeps_still g.B.Printer tables c.args.seal.now a k.place k.durable now
          (may.agrees.settled told) may.agrees.fits;
      turn = λ told. keeps_none g.B.Printer a;
      beside = λ told. beside_none g.B.Printer a now;
      faults = omega arith;
      steps = omega arith;
    }

pub returns-in_err-do_act : goal.returns-in_err-do_act
returns-in_err-do_act g c = record {
  durable = not_ok _ c.from_residual.result _ c.from_residual.ensures.1;
  agrees = λ tables may. not_ok _ c.from_residual.result _ c.from_residual.ensures.1;
  whole = λ told. not_ok _ c.from_residual.result _ c.from_residual.ensures.1;
  points = λ told tables may.
      let k = c.args.seal.now in
      let n = c.loop-act.act-index in
      let acts = c.args.acts.now in
      let i = c.loop-act.invariant in
      let d = c.args.known.now.durable in
      points_whole g.B.Printer tables k c.args.board.now c.do_act.new.board d acts (n + 1)
      (points_more g.B.Printer tables k c.args.board.now c.loop-act.board c.do_act.new.board acts n _
      c.loop-act-test.true
      i.printed d c.loop-act.known.durable i.durable (i.points told tables may) (c.do_act.ensures.points told tables
      (may_at g.B.Printer tables c.args.known.now c.loop-act.known c.args.board.now c.loop-act.board c.args.acts.now
      c.loop-act.act-index _ c.loop-act-test.true may (c.loop-act.invariant.agrees tables may))));
  turn = λ told. not_ok _ c.from_residual.result _ c.from_residual.ensures.1;
  beside = λ told. beside_then g.B.Printer c.args.board.now c.loop-act.board
      c.do_act.new.board (c.loop-act.invariant.beside told) (c.do_act.ensures.beside told);
  cause = went_wrong _ _ _ _ c.from_residual.result c.from_residual.ensures.0
      c.loop-act.invariant.faults c.in_err-do_act.ensures.cause;
  steps = steps_whole c.args.acts.now c.loop-act.act-index _ c.args.steps.now
      c.loop-act.steps c.do_act.new.steps c.loop-act-test.true c.loop-act.invariant.steps c.do_act.ensures.steps;
}

pub returns : goal.returns
returns g c = record {
  durable = c.loop-act.invariant.durable
      ∙ ap (after_acts c.args.known.now.durable) (take_all c.loop-act.act-index c.args.acts.now c.loop-act-test.false);
  agrees = c.loop-act.invariant.agrees;
  whole = λ told.
      c.loop-act.invariant.printed told ∙ ap (λ (acts : List Act). g.B.Printer.printed c.args.board.now
      ++ texts c.args.seal.now (deeds_of acts)) (take_all c.loop-act.act-index c.args.acts.now c.loop-act-test.false);
  points = λ told tables may. points_whole g.B.Printer tables c.args.seal.now c.args.board.now c.loop-act.board
      c.args.known.now.durable c.args.acts.now c.loop-act.act-index (c.loop-act.invariant.points told tables may);
  turn = λ told. subst (λ (acts : List Act). CommitsInTurn g.B.Printer c.args.known.now.durable
      (changes_of (deeds_of acts)) c.args.board.now c.loop-act.board)
      (take_all c.loop-act.act-index c.args.acts.now c.loop-act-test.false) (c.loop-act.invariant.turn told);
  beside = c.loop-act.invariant.beside;
  cause = went_well _ _ tt c.loop-act.invariant.faults;
  steps = grind (arith, common_steps);
}
