use Rattle.std.proofs.Common.{◌++◌, ◌∙◌, List, Ok, ap, inr, refl, sym}
use Rattle.{outside.proofs.Laws.{may_rise_behind, may_rise_more}, meter_run.specs.Common.{Event}}
use Rattle.meter_run.proofs.EventLists.{counts_more, no_more, not_ok, not_this, on_err, true_is, went_wrong}
use Rattle.meter_run.proofs.WholeDrive.{breaks_as, fewer, none_not_some, takes_as, up_to_more, up_to_none}
use Rattle.meter_run.proofs.drive.carry_drive.Goals as goal

pub loop-stop-init : goal.loop-stop-init
loop-stop-init g c =
    let r = c.args.by.now in
    let m = c.args.meter.now in
    let b = c.args.board.now in
    record {
      ready = c.requires.ready;
      up_to = up_to_none g.F.Files.tells c.new-source.result (g.F.Files.rest c.args.files.now c.args.word)
          (λ (es : List Event). g.C.Carrier.carried r m b es m b) c.args.steps.now
          c.new-source.ensures.given c.new-source.ensures.none (g.met.C.Carrier.nothing r m b c.requires.ready);
      faults = no_more (g.B.Printer.faults b);
      others = λ other differs. refl;
      counts = λ other. no_more (g.F.Files.faults c.args.files.now other);
    }

pub carry_piece-requires : goal.carry_piece-requires
carry_piece-requires g c = record {
  ready = c.loop-stop.invariant.ready;
  through = (c.loop-stop.invariant.up_to.taken, c.loop-stop.invariant.up_to.through);
}

pub returns-in_err-stop : goal.returns-in_err-stop
returns-in_err-stop g c = record {
  ready = not_ok _ c.from_residual.result _ c.from_residual.ensures.1;
  carried = not_ok _ c.from_residual.result _ c.from_residual.ensures.1;
  broke_off =
      let m = c.args.meter.now in
      let b = c.args.board.now in
      let s = c.loop-stop.invariant.up_to in
      let drive = g.F.Files.rest c.args.files.now c.args.word in
      let rest = g.F.Files.rest c.loop-stop.files c.args.word in
      on_err c.from_residual.result _
      (breaks_as g.F.Files.tells g.F.Files.tells drive (s.taken ++ rest)
      (g.F.Files.rest c.carry_piece.new.files c.args.word)
      (λ (es : List Event). g.C.Carrier.broke_off c.args.by.now m b es c.carry_piece.new.board) c.args.steps.now
      c.carry_piece.new.steps (λ t. t) (λ t. sym (s.split t))
      (c.in_err-stop.ensures.broke_off m b c.args.steps.now s.taken s.through s.done));
  cause = went_wrong _ _ _ _ c.from_residual.result c.from_residual.ensures.0
      c.loop-stop.invariant.faults c.in_err-stop.ensures.cause;
  others = λ other differs. c.carry_piece.ensures.others other differs ∙ c.loop-stop.invariant.others other differs;
  read_fault = λ ok. absurd (not_this _ c.from_residual.result _ c.from_residual.ensures.1 ok);
  counts = λ other. may_rise_behind (c.loop-stop.invariant.counts other)
      (may_rise_more (λ fault. inr c.from_residual.ensures.0) (c.carry_piece.ensures.counts other));
}

pub returns-in-Some-clause-ready : goal.returns-in-Some-clause-ready
returns-in-Some-clause-ready g c = c.in_ok-stop.ensures.ready

pub returns-in-Some-clause-carried : goal.returns-in-Some-clause-carried
returns-in-Some-clause-carried g c =
    let m = c.args.meter.now in
    let b = c.args.board.now in
    let s = c.loop-stop.invariant.up_to in
    let drive = g.F.Files.rest c.args.files.now c.args.word in
    let rest = g.F.Files.rest c.loop-stop.files c.args.word in
    let stops = rw c.in-Some.is at c.in_ok-stop.ensures.stops in
    takes_as g.F.Files.tells g.F.Files.tells drive (s.taken ++ rest)
    (g.F.Files.rest c.carry_piece.new.files c.args.word)
    c.in-Some.stop (λ (es : List Event). g.C.Carrier.carried c.args.by.now m b es c.carry_piece.new.meter
    c.carry_piece.new.board)
    c.args.steps.now c.carry_piece.new.steps (λ t. t) (λ t. sym (s.split t))
    (stops m b c.args.steps.now s.taken s.through s.done)

pub loop-stop-smaller : goal.loop-stop-smaller
loop-stop-smaller g c =
    let m = c.args.meter.now in
    let b = c.args.board.now in
    let s = c.loop-stop.invariant.up_to in
    fewer g.F.Files.tells c.loop-stop.source c.carry_piece.new.source (g.F.Files.rest c.loop-stop.files c.args.word)
    (g.F.Files.rest c.carry_piece.new.files c.args.word) s.taken
    (λ (es : List Event). g.C.Carrier.carried c.args.by.now m b es c.carry_piece.new.meter c.carry_piece.new.board)
    c.args.steps.now c.carry_piece.new.steps s.through
    (c.carry_piece.ensures.goes_on (c.in_ok-stop.was ∙ ap Ok c.in_default.is) m b c.args.steps.now s.taken s.through
    s.done)

pub loop-stop-preserved : goal.loop-stop-preserved
loop-stop-preserved g c =
    let r = c.args.by.now in
    let m = c.args.meter.now in
    let b = c.args.board.now in
    let s = c.loop-stop.invariant.up_to in
    let piece = c.carry_piece.ensures.goes_on (c.in_ok-stop.was ∙ ap Ok c.in_default.is) m b c.args.steps.now s.taken
    s.through s.done in
    record {
      ready = c.in_ok-stop.ensures.ready;
      up_to = up_to_more g.F.Files.tells c.loop-stop.source c.carry_piece.new.source
          (g.F.Files.rest c.args.files.now c.args.word) (g.F.Files.rest c.loop-stop.files c.args.word)
          (g.F.Files.rest c.carry_piece.new.files c.args.word)
          (λ (es : List Event). g.C.Carrier.carried r m b es c.loop-stop.meter c.loop-stop.board)
          (λ (es : List Event). g.C.Carrier.carried r m b es c.carry_piece.new.meter c.carry_piece.new.board)
          c.args.steps.now c.loop-stop.steps c.carry_piece.new.steps s piece;
      faults = counts_more _ _ _ c.loop-stop.invariant.faults
          (c.in_ok-stop.ensures.cause.kept true_is);
      others = λ other differs. c.carry_piece.ensures.others other differs ∙ c.loop-stop.invariant.others other differs;
      counts = λ other. counts_more _ _ _ (c.loop-stop.invariant.counts other)
          ((c.carry_piece.ensures.counts other).kept
          (λ fault. none_not_some _ _ (sym (c.in_ok-stop.was ∙ ap Ok c.in_default.is) ∙ fault)));
    }
