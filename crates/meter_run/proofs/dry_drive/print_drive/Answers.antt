use Rattle.std.proofs.Common.{◌∙◌, inr, refl, rules}
use Rattle.outside.proofs.Laws.{keeps_then, may_rise_more, rises_by, rises_not, rose_behind}
use Rattle.meter_run.{specs.Common.{events_in}, proofs.SupplyDrop.{end_begun, ready_first, run_begun, whole_printed}}
use Rattle.meter_run.proofs.{EventLists.{true_is}, RunEnds.{board_only, breaks, ends, no_board_fault, read_failed}}
use Rattle.meter_run.proofs.Supplies.{broken_whole, drop_whole, dry_off}
use Rattle.meter_run.proofs.dry_drive.print_drive.Goals as goal

pub carry_drive-requires : goal.carry_drive-requires
carry_drive-requires g c = record {
  ready = ready_first c.args.tables.now c.args.seal.now c.new-meter.result.core c.new-meter.result.durable
      c.recall.ensures.compiled c.requires.constant
      (c.new-meter.ensures.lawful c.args.tables.now c.args.seal.now) c.new-meter.ensures.off c.new-meter.ensures.range
      c.new-meter.ensures.first;
}

pub drop_at_end-requires : goal.drop_at_end-requires
drop_at_end-requires g c = record { ready = c.in-Ok.ensures.ready }

pub returns-in-Ok-drop_at_end : goal.returns-in-Ok-drop_at_end
returns-in-Ok-drop_at_end g c = record {
  ends = λ tells.
      let t = c.args.tables.now in
      let k = c.args.seal.now in
      let h = c.in-Ok.ensures.carried in
      rw c.answer.ensures
      (ends g.B.Printer.tells_text t k (g.F.Files.rest c.args.files.now c.args.word)
      (g.F.Files.rest c.carry_drive.new.files
      c.args.word) (g.B.Printer.printed c.args.board.now) (g.B.Printer.printed c.drop_at_end.new.board)
      h.taken c.in-Ok.stop h.few (h.split tells) (h.ends tells)
      (whole_printed g.B.Printer t k c.new-meter.result c.args.board.now c.new-meter.ensures.off
      c.new-meter.ensures.first
      (events_in h.taken) c.carry_drive.new.meter c.carry_drive.new.board c.drop_at_end.new.board
      h.carried c.in-Ok-drop_at_end.ensures.whole));
  steps = drop_whole c.drop_at_end.new.steps c.in-Ok.ensures.carried c.drop_at_end.ensures.steps (λ done none.
      c.drop_at_end.ensures.idle (dry_off g.B.Printer c.args.tables.now c.args.seal.now c.new-meter.result
      c.args.board.now c.carry_drive.new.meter c.carry_drive.new.board (events_in c.in-Ok.ensures.carried.taken)
      c.in-Ok.ensures.ready c.new-meter.ensures.off c.new-meter.ensures.first done none));
  others = c.carry_drive.ensures.others;
  read_fault = search rules;
  board_fault = rises_not (no_board_fault c.in-Ok.stop c.answer.result
      c.answer.ensures)
      (c.in-Ok-drop_at_end.ensures.cause.kept true_is ∙ c.in-Ok.ensures.cause.kept true_is);
  counts = λ other. may_rise_more (read_failed c.in-Ok.stop _ c.answer.ensures) (c.in-Ok.ensures.counts other);
  store = keeps_then g.B.Printer c.args.board.now c.carry_drive.new.board
      c.drop_at_end.new.board c.in-Ok.ensures.carried.carried.store c.drop_at_end.ensures.store;
}

pub returns-in-Err-drop_at_end : goal.returns-in-Err-drop_at_end
returns-in-Err-drop_at_end g c =
    let h = c.in-Ok.ensures.carried in
    record {
      ends = λ tells. breaks _ _ _ _ _ _ _ h.taken h.few (h.split tells)
          (end_begun g.B.Printer c.args.tables.now c.args.seal.now c.new-meter.result c.args.board.now
          c.new-meter.ensures.off c.new-meter.ensures.first
          (events_in h.taken) c.carry_drive.new.meter c.carry_drive.new.board c.drop_at_end.new.board
          h.carried c.drop_at_end.ensures.begun);
      steps = drop_whole c.drop_at_end.new.steps h c.drop_at_end.ensures.steps (λ done none.
          c.drop_at_end.ensures.idle (dry_off g.B.Printer c.args.tables.now c.args.seal.now c.new-meter.result
          c.args.board.now c.carry_drive.new.meter c.carry_drive.new.board (events_in h.taken)
          c.in-Ok.ensures.ready c.new-meter.ensures.off c.new-meter.ensures.first done none));
      others = c.carry_drive.ensures.others;
      read_fault = λ is. absurd (board_only is);
      board_fault = rises_by refl (rose_behind _ _ _ (c.in-Ok.ensures.cause.kept true_is)
          (c.in-Err-drop_at_end.ensures.cause.failed true_is));
      counts = λ other. may_rise_more (λ failed. inr refl)
          (c.carry_drive.ensures.counts other);
      store = keeps_then g.B.Printer c.args.board.now c.carry_drive.new.board
          c.drop_at_end.new.board c.in-Ok.ensures.carried.carried.store c.drop_at_end.ensures.store;
    }

pub returns-in-Err : goal.returns-in-Err
returns-in-Err g c = record {
  ends = λ tells.
      let h = c.in-Err.ensures.broke_off in
      breaks _ _ _ _ _ _ _ h.taken h.few (h.split tells)
      (run_begun g.B.Printer c.args.tables.now c.args.seal.now c.new-meter.result c.args.board.now
      c.new-meter.ensures.off c.new-meter.ensures.first
      (events_in h.taken) c.carry_drive.new.board h.broke_off);
  steps = broken_whole c.in-Err.ensures.broke_off;
  others = c.carry_drive.ensures.others;
  read_fault = λ is. absurd (board_only is);
  board_fault = rises_by refl (c.in-Err.ensures.cause.failed true_is);
  counts = λ other. may_rise_more (λ failed. inr refl) (c.carry_drive.ensures.counts other);
  store = c.in-Err.ensures.broke_off.broke_off.store;
}
