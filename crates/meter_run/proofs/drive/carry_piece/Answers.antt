use Rattle.std.proofs.Common.{◌++◌, ◌∙◌, List, Ok, Some, ap, rules, sym}
use Rattle.{outside.proofs.Laws.{may_rise_more, may_rise_not}, drive_source.proofs.Laws.{not_some}}
use Rattle.meter_run.{specs.Common.{Event}, proofs.EventLists.{no_more, went_well}}
use Rattle.meter_run.proofs.WholeDrive.{answer_of_call, answers_then, bad_not_fault, breaks_as, carries_filled}
use Rattle.meter_run.proofs.WholeDrive.{err_then, filled_is, some_not_none, stops_before, takes_as}
use Rattle.meter_run.proofs.drive.carry_piece.Goals as goal

pub read_piece-requires : goal.read_piece-requires
read_piece-requires g c = record { none = c.requires.through.1.none }

pub carry_ahead-requires : goal.carry_ahead-requires
carry_ahead-requires g c = record {
  ready = c.requires.ready;
  given =
      let through = c.requires.through in
      (through.0, (c.read_piece.ensures.filled c.in_default.is).stands through.0 through.1.given);
  some = (c.read_piece.ensures.filled c.in_default.is).some;
}

pub returns-in-Some : goal.returns-in-Some
returns-in-Some g c = record {
  ready = c.requires.ready;
  goes_on = λ none. absurd (some_not_none _ _ none);
  stops = λ x a start taken through done.
      stops_before g.F.Files.tells c.args.source.now (g.F.Files.rest c.args.files.now c.args.word)
      (g.F.Files.rest c.read_piece.new.files c.args.word) taken
      (λ (es : List Event). g.C.Carrier.carried c.args.by.now x a es c.args.meter.now c.args.board.now) start
      c.args.steps.now c.in-Some.stop through done (c.in-Some.ensures.stops taken through.given);
  broke_off = search rules;
  unread = λ stop is other told.
      c.read_piece.ensures.unread (λ none. not_some c.read_piece.result _ none c.in-Some.is) told;
  cause = went_well (g.B.Printer.faults c.args.board.now)
      (g.B.Printer.faults c.args.board.now) _ (no_more (g.B.Printer.faults c.args.board.now));
  others = c.read_piece.ensures.others;
  read_fault = λ is. c.read_piece.ensures.read_fault (c.in-Some.is ∙ ap Some (answer_of_call _ _ _ is));
  counts = λ other. may_rise_more (λ fault. ap Ok (sym c.in-Some.is ∙ fault)) (c.read_piece.ensures.counts other);
}

pub returns : goal.returns
returns g c =
    let filled = c.read_piece.ensures.filled c.in_default.is in
    let rest = g.F.Files.rest c.args.files.now c.args.word in
    let left = g.F.Files.rest c.read_piece.new.files c.args.word in
    record {
      ready = c.carry_ahead.ensures.ready;
      goes_on = λ none x a start taken through done.
          let filled = c.read_piece.ensures.filled c.in_default.is in
          carries_filled g.F.Files.tells c.args.source.now c.read_piece.new.self c.carry_ahead.new.source
          (g.F.Files.rest c.args.files.now c.args.word) (g.F.Files.rest c.read_piece.new.files c.args.word) taken
          (λ (es : List Event). g.C.Carrier.carried c.args.by.now x a es c.carry_ahead.new.meter
          c.carry_ahead.new.board)
          start c.carry_ahead.new.steps through filled (c.read_piece.ensures.few c.in_default.is)
          (c.carry_ahead.ensures.goes_on none x a start taken (filled.stands taken through.given) done);
      stops = answers_then c.carry_ahead.result _ _ (λ stop stops x a start taken through done.
          takes_as g.F.Files.tells (Unit {0}) (taken ++ rest) (taken ++ (c.read_piece.new.self.ahead ++ left)) left stop
          (λ (es : List Event). g.C.Carrier.carried c.args.by.now x a es c.carry_ahead.new.meter
          c.carry_ahead.new.board)
          start c.carry_ahead.new.steps
          (λ t. tt) (filled_is g.F.Files.tells c.args.source.now c.read_piece.new.self rest left taken filled
          through.none)
          (stops x a start taken left (filled.stands taken through.given) done)) c.carry_ahead.ensures.stops;
      broke_off = err_then c.carry_ahead.result _ _ (λ breaks x a start taken through done.
          breaks_as g.F.Files.tells (Unit {0}) (taken ++ rest) (taken ++ (c.read_piece.new.self.ahead ++ left)) left
          (λ (es : List Event). g.C.Carrier.broke_off c.args.by.now x a es c.carry_ahead.new.board)
          start c.carry_ahead.new.steps
          (λ t. tt) (filled_is g.F.Files.tells c.args.source.now c.read_piece.new.self rest left taken filled
          through.none)
          (breaks x a start taken left (filled.stands taken through.given) done)) c.carry_ahead.ensures.broke_off;
      unread = λ stop is other told.
          let bad = c.carry_ahead.ensures.bad stop is in
          absurd (other bad.0 bad.1);
      cause = c.carry_ahead.ensures.cause;
      others = c.read_piece.ensures.others;
      read_fault = λ is.
          let bad = c.carry_ahead.ensures.bad _ is in
          absurd (bad_not_fault bad.0 bad.1);
      counts = λ other. may_rise_not ((c.read_piece.ensures.counts other).kept
          (λ fault. not_some c.read_piece.result _ c.in_default.is fault));
    }
