use Rattle.std.proofs.{Common.{[], ◌∷◌, arith, refl}, lemmas.Result.{on_ok_weaker}}
use Rattle.{outside.proofs.Laws.{keeps_none}, meter_run.proofs.{EventLists.{no_more, went_well}, RunEnds.{not_told}}}
use Rattle.meter_run.{specs.Common.{Down}, proofs.SupplyDrop.{ends_off, ends_on, ends_some, event_store, off_some}}
use Rattle.meter_run.proofs.dry_drive.drop_at_end.Goals as goal

pub returns : goal.returns
returns g c = record {
  whole = on_ok_weaker c.carry_event.result (λ h. ends_on g.B.Printer c.args.tables.now c.args.seal.now c.args.meter.now
      c.args.board.now c.carry_event.new.self c.carry_event.new.board
      (not_told c.is_off.result _ c.is_off.ensures.1 c.if-is_off.false) h) c.carry_event.ensures.carried;
  begun = ends_some g.B.Printer c.args.tables.now c.args.seal.now c.carry_event.result c.args.meter.now c.args.board.now
      c.carry_event.new.self c.carry_event.new.board
      (not_told c.is_off.result _ c.is_off.ensures.1 c.if-is_off.false) c.carry_event.ensures.carried
      c.carry_event.ensures.broke_off;
  cause = c.carry_event.ensures.cause;
  steps = c.carry_event.ensures.steps;
  idle = λ off. absurd (not_told c.is_off.result _ c.is_off.ensures.1 c.if-is_off.false off);
  store = event_store g.B.Printer c.args.tables.now c.args.seal.now c.carry_event.result c.args.meter.now
      c.args.board.now
      c.carry_event.new.self c.carry_event.new.board (Down ∷ [])
      c.carry_event.ensures.carried c.carry_event.ensures.broke_off;
}

pub returns-then-is_off : goal.returns-then-is_off
returns-then-is_off g c = record {
  whole = ends_off g.B.Printer c.args.tables.now c.args.seal.now c.args.meter.now
      c.args.board.now (c.is_off.ensures.0 c.if-is_off.true);
  begun = off_some g.B.Printer c.args.tables.now c.args.seal.now c.args.meter.now
      c.args.board.now (c.is_off.ensures.0 c.if-is_off.true);
  cause = went_well (g.B.Printer.faults c.args.board.now)
      (g.B.Printer.faults c.args.board.now) tt (no_more (g.B.Printer.faults c.args.board.now));
  steps = omega arith;
  idle = λ off. refl;
  store = keeps_none g.B.Printer c.args.board.now;
}
