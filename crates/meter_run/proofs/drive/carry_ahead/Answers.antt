use Rattle.std.proofs.Common.{[], ◌++◌, ◌∙◌, All, List, Some, ap, flat_map, rules, subst, sym}
use Rattle.{drive_text.specs.Ranges.{IsRunInRange}, meter_run.{specs.Drives.{IsBounded}, proofs.RunEnds.{not_told}}}
use Rattle.meter_run.{specs.Common.{Run, run_events}, proofs.WholeDrive.{way_more, way_none, way_stops, way_through}}
use Rattle.meter_run.proofs.EventLists.{counts_more, no_more, not_ok, not_this, on_err, true_is, went_well, went_wrong}
use Rattle.meter_run.proofs.WholeDrive.{answer_of_call, none_not_some, smaller, some_ahead, some_not_none, way_breaks}
use Rattle.meter_run.proofs.drive.carry_ahead.Goals as goal

pub ahead-init : goal.ahead-init
ahead-init g c = record {
  ready = c.requires.ready;
  way = way_none (g.C.Carrier.carried c.args.by.now) (g.C.Carrier.broke_off c.args.by.now)
      (g.met.C.Carrier.behind c.args.by.now) (g.met.C.Carrier.later c.args.by.now)
      (g.met.C.Carrier.sooner c.args.by.now) c.args.source.now c.args.meter.now c.args.board.now c.args.steps.now;
  given = c.requires.given;
  some = c.requires.some;
  faults = no_more (g.B.Printer.faults c.args.board.now);
}

pub feed-stop-requires : goal.feed-stop-requires
feed-stop-requires g c = record {
  given = c.ahead.invariant.given;
  some = c.ahead.invariant.some;
  none = c.clear.ensures;
}

pub carry_runs-requires : goal.carry_runs-requires
carry_runs-requires g c = record {
  ready = c.ahead.invariant.ready;
  ranges = subst (All IsRunInRange) (sym c.as_slice.ensures.value) c.feed-stop.ensures.range;
}

pub returns-in_err-carry_runs : goal.returns-in_err-carry_runs
returns-in_err-carry_runs g c = record {
  ready = not_ok _ c.from_residual.result _ c.from_residual.ensures.1;
  goes_on = λ ok. absurd (not_this _ c.from_residual.result _ c.from_residual.ensures.1 ok);
  stops = not_ok _ c.from_residual.result _ c.from_residual.ensures.1;
  broke_off =
      let r = c.args.by.now in
      let runs = c.feed-stop.new.runs.items in
      let broken = subst (λ (rs : List Run). g.C.Carrier.broke_off r c.ahead.meter c.ahead.board
      (flat_map run_events rs) c.carry_runs.new.board) c.as_slice.ensures.value
      c.in_err-carry_runs.ensures.broke_off in
      on_err c.from_residual.result _
      (way_breaks (g.C.Carrier.carried r) (g.C.Carrier.broke_off r) (g.met.C.Carrier.behind r) (g.met.C.Carrier.later r)
      (g.met.C.Carrier.sooner r) c.args.source.now c.args.meter.now c.args.board.now c.args.steps.now c.ahead.source
      c.ahead.meter c.ahead.board c.ahead.steps c.carry_runs.new.steps runs c.ahead.invariant.way
      (subst (λ (rs : List Run). IsBounded c.ahead.steps c.carry_runs.new.steps (flat_map run_events rs))
      c.as_slice.ensures.value c.carry_runs.ensures.steps)
      c.feed-stop.new.self c.carry_runs.new.board c.feed-stop.result c.feed-stop.ensures.more
      (λ stop is. rw is at c.feed-stop.ensures.stops) broken);
  bad = λ stop ok. absurd (not_this _ c.from_residual.result _ c.from_residual.ensures.1 ok);
  cause = went_wrong _ _ _ _ c.from_residual.result c.from_residual.ensures.0
      c.ahead.invariant.faults c.in_err-carry_runs.ensures.cause;
}

pub returns-in-Some : goal.returns-in-Some
returns-in-Some g c = record {
  ready = c.in_ok-carry_runs.ensures.ready;
  goes_on = λ none. absurd (some_not_none _ _ none);
  stops =
      let r = c.args.by.now in
      let runs = c.feed-stop.new.runs.items in
      let next = subst (λ (rs : List Run). g.C.Carrier.carried r c.ahead.meter c.ahead.board (flat_map run_events
      rs) c.carry_runs.new.meter c.carry_runs.new.board) c.as_slice.ensures.value c.in_ok-carry_runs.ensures.carried in
      way_stops (g.C.Carrier.carried r) (g.C.Carrier.broke_off r) (g.met.C.Carrier.behind r) (g.met.C.Carrier.later r)
      (g.met.C.Carrier.sooner r) c.args.source.now c.args.meter.now c.args.board.now c.args.steps.now c.ahead.source
      c.ahead.meter c.ahead.board c.ahead.steps c.carry_runs.new.steps runs c.ahead.invariant.way
      (subst (λ (rs : List Run). IsBounded c.ahead.steps c.carry_runs.new.steps (flat_map run_events rs))
      c.as_slice.ensures.value c.carry_runs.ensures.steps)
      c.carry_runs.new.meter c.carry_runs.new.board c.in-Some.stop c.in-Some.ensures.stops next;
  broke_off = tt;
  bad = λ stop is. c.feed-stop.ensures.bad stop (c.in-Some.is ∙ ap Some (answer_of_call _ _ _ is));
  cause = went_well (g.B.Printer.faults c.args.board.now) (g.B.Printer.faults c.carry_runs.new.board) _
      (counts_more _ _ _ c.ahead.invariant.faults
      (c.in_ok-carry_runs.ensures.cause.kept true_is));
}

pub returns-then-is_through : goal.returns-then-is_through
returns-then-is_through g c = record {
  ready = c.in_ok-carry_runs.ensures.ready;
  goes_on = λ none.
      let r = c.args.by.now in
      let runs = c.feed-stop.new.runs.items in
      let next = subst (λ (rs : List Run). g.C.Carrier.carried r c.ahead.meter c.ahead.board (flat_map run_events
      rs) c.carry_runs.new.meter c.carry_runs.new.board) c.as_slice.ensures.value c.in_ok-carry_runs.ensures.carried in
      way_through (g.C.Carrier.carried r) (g.C.Carrier.broke_off r) (g.met.C.Carrier.behind r) (g.met.C.Carrier.later r)
      (g.met.C.Carrier.sooner r) c.args.source.now c.args.meter.now c.args.board.now c.args.steps.now
      c.feed-stop.new.self
      c.carry_runs.new.meter c.carry_runs.new.board c.carry_runs.new.steps
      (way_more (g.C.Carrier.carried r) (g.C.Carrier.broke_off r) (g.met.C.Carrier.behind r) (g.met.C.Carrier.later r)
      (g.met.C.Carrier.sooner r) c.args.source.now c.args.meter.now c.args.board.now c.args.steps.now c.ahead.source
      c.ahead.meter c.ahead.board c.ahead.steps c.carry_runs.new.steps runs c.ahead.invariant.way
      (subst (λ (rs : List Run). IsBounded c.ahead.steps c.carry_runs.new.steps (flat_map run_events rs))
      c.as_slice.ensures.value c.carry_runs.ensures.steps)
      c.feed-stop.new.self c.carry_runs.new.meter c.carry_runs.new.board (c.feed-stop.ensures.more c.in_default.is)
      next)
      (c.is_through.ensures.0 c.if-is_through.true);
  stops = search rules;
  broke_off = search rules;
  bad = λ stop is. absurd (none_not_some _ stop is);
  cause = went_well (g.B.Printer.faults c.args.board.now) (g.B.Printer.faults c.carry_runs.new.board) _
      (counts_more _ _ _ c.ahead.invariant.faults
      (c.in_ok-carry_runs.ensures.cause.kept true_is));
}

pub ahead-smaller : goal.ahead-smaller
ahead-smaller g c =
    let given = c.ahead.invariant.given in
    smaller (Unit {0}) c.ahead.source c.feed-stop.new.self [] [] given.0 c.feed-stop.new.runs.items given.1
    (c.feed-stop.ensures.more c.in_default.is given.0 [] given.1)

pub ahead-preserved : goal.ahead-preserved
ahead-preserved g c =
    let r = c.args.by.now in
    let runs = c.feed-stop.new.runs.items in
    let given = c.ahead.invariant.given in
    let gives = c.feed-stop.ensures.more c.in_default.is given.0 [] given.1 in
    let next = subst (λ (rs : List Run). g.C.Carrier.carried r c.ahead.meter c.ahead.board (flat_map run_events
    rs) c.carry_runs.new.meter c.carry_runs.new.board) c.as_slice.ensures.value c.in_ok-carry_runs.ensures.carried in
    record {
      ready = c.in_ok-carry_runs.ensures.ready;
      way = way_more (g.C.Carrier.carried r) (g.C.Carrier.broke_off r) (g.met.C.Carrier.behind r)
          (g.met.C.Carrier.later r)
          (g.met.C.Carrier.sooner r) c.args.source.now c.args.meter.now c.args.board.now c.args.steps.now c.ahead.source
          c.ahead.meter c.ahead.board c.ahead.steps c.carry_runs.new.steps runs c.ahead.invariant.way
          (subst (λ (rs : List Run). IsBounded c.ahead.steps c.carry_runs.new.steps (flat_map run_events rs))
          c.as_slice.ensures.value c.carry_runs.ensures.steps)
          c.feed-stop.new.self c.carry_runs.new.meter c.carry_runs.new.board
          (c.feed-stop.ensures.more c.in_default.is) next;
      given = (given.0 ++ gives.fed, gives.goes_on);
      some = some_ahead c.feed-stop.new.self.ahead
          (not_told c.is_through.result _ c.is_through.ensures.1 c.if-is_through.false);
      faults = counts_more _ _ _ c.ahead.invariant.faults
          (c.in_ok-carry_runs.ensures.cause.kept true_is);
    }
