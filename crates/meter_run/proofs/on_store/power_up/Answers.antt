use Rattle.meter_run.specs.StoreLaws.{has_settled}
use Rattle.meter_run.proofs.EventLists.{no_more, not_ok, true_is, went_well, went_wrong}
use Rattle.meter_run.proofs.EventOnStore.{amid_scan, blank_attempted, found_attempted, found_same, never_found}
use Rattle.meter_run.proofs.on_store.power_up.Goals as goal

pub returns-in_err-read_store-clause-attempts : goal.returns-in_err-read_store-clause-attempts
returns-in_err-read_store-clause-attempts g c = record {
  ready = not_ok _ c.from_residual.result _ c.from_residual.ensures.1;
  carried = not_ok _ c.from_residual.result _ c.from_residual.ensures.1;
  stopped = amid_scan g.B.Printer c.args.tables.now c.args.seal.now c.args.meter.now c.args.board.now
      c.read_store.new.board c.args.second
      (λ told. c.read_store.ensures.points told c.args.seal.now) c.read_store.ensures.text c.read_store.ensures.beside;
  cause = went_wrong _ _ _ _ c.from_residual.result c.from_residual.ensures.0
      (no_more (g.B.Printer.faults c.args.board.now)) c.in_err-read_store.ensures.cause;
}

pub resume-requires-clause-range : goal.resume-requires-clause-range
resume-requires-clause-range g c = c.in_ok-read_store.ensures.range c.in-Some.found c.in-Some.is

pub resume-requires-clause-agrees : goal.resume-requires-clause-agrees
resume-requires-clause-agrees g c = c.in_ok-read_store.ensures.agrees c.in-Some.found c.in-Some.is

pub returns-in-None-clause-attempts : goal.returns-in-None-clause-attempts
returns-in-None-clause-attempts g c =
    let x = c.args.meter.now in
    let a = c.args.board.now in
    blank_attempted g.B.Printer c.args.tables.now c.args.seal.now x a c.read_store.new.board c.args.second
    (λ told. c.read_store.ensures.points told c.args.seal.now) c.read_store.ensures.text c.read_store.ensures.beside _
    c.requires.ready c.requires.off
    (λ s m told h. let at = has_settled g.B.Printer x.known a m.durable h.has in
    let found = c.in_ok-read_store.ensures.finds told at.0 m.durable at.1 h.fits in
    never_found c.in_ok-read_store.field-0 found.0 found.1.0 c.in-None.is)
    (went_well (g.B.Printer.faults a) (g.B.Printer.faults c.read_store.new.board) _
    (c.in_ok-read_store.ensures.cause.kept true_is))

pub returns-in-Some-clause-attempts : goal.returns-in-Some-clause-attempts
returns-in-Some-clause-attempts g c =
    let k = c.in-Some.found in
    found_attempted g.B.Printer c.args.tables.now c.args.seal.now c.args.meter.now c.args.board.now
    c.read_store.new.board c.args.second
    (λ told. c.read_store.ensures.points told c.args.seal.now) c.read_store.ensures.text c.read_store.ensures.beside
    k (c.in_ok-read_store.ensures.agrees k c.in-Some.is)
    (λ told place d settled fits. let found = c.in_ok-read_store.ensures.finds told place d settled fits in
    found_same c.in_ok-read_store.field-0 found.0 k d found.1.0 c.in-Some.is found.1.1) c.in_ok-read_store.ensures.kept
    c.resume.result c.resume.new.meter c.resume.new.board (c.in_ok-read_store.ensures.cause.kept true_is)
    c.resume.ensures.attempts
