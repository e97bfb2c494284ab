use Rattle.std.proofs.Common.{◌∙◌, Ok, ap, false, inr, refl, rules}
use Rattle.outside.proofs.Laws.{may_rise_more, rises_by, rises_not, rose_behind}
use Rattle.meter_run.{specs.StoreLaws.{beside_then}, proofs.EventLists.{true_is}}
use Rattle.meter_run.proofs.{RunEnds.{board_only, no_board_fault, read_failed}, Supplies.{broken_whole, drop_whole}}
use Rattle.meter_run.proofs.WholeRun.{done_whole, ran_amid, ran_to_end, ran_whole, ready_new, secured_of}
use Rattle.meter_run.proofs.store_drive.run_events.Goals as goal

pub carry_drive-requires : goal.carry_drive-requires
carry_drive-requires g c = record {
  ready = ready_new g.B.Printer c.args.tables.now c.args.seal.now c.new-meter.result c.args.board.now
      (secured_of c.args.tables.now c.args.seal.now c.recall.ensures.compiled c.requires.constant c.requires.seal)
      (c.new-meter.ensures.lawful c.args.tables.now c.args.seal.now) c.new-meter.ensures.off
      c.new-meter.ensures.unknown;
}

pub drop_at_end-requires : goal.drop_at_end-requires
drop_at_end-requires g c = record { ready = c.in-Ok.ensures.ready }

pub returns-in-Ok-drop_at_end : goal.returns-in-Ok-drop_at_end
returns-in-Ok-drop_at_end g c =
    let ran = λ (tells : g.F.Files.tells). ran_whole g.B.Printer c.args.tables.now c.args.seal.now c.new-meter.result
    c.args.board.now c.new-meter.ensures.off c.new-meter.ensures.unknown c.carry_drive.new.meter
    c.carry_drive.new.board c.drop_at_end.new.meter c.drop_at_end.new.board c.in-Ok.ensures.carried
    c.in-Ok-drop_at_end.ensures.carried tells in
    record {
      ends = λ tells. rw c.answer.ensures (ran tells).ends;
      cuts = λ tells. (ran tells).cuts;
      beside = λ told. beside_then g.B.Printer c.args.board.now c.carry_drive.new.board c.drop_at_end.new.board
          (c.in-Ok.ensures.carried.carried.out.beside told) (c.drop_at_end.ensures.stopped.beside told);
      complete = λ tells whole calm still.
          let h = c.in-Ok.ensures.carried in
          rw c.answer.ensures (done_whole (g.F.Files.rest c.args.files.now c.args.word)
          (g.F.Files.rest c.carry_drive.new.files c.args.word) h.taken c.in-Ok.stop (h.ends tells) whole
          (λ fault. calm (c.in-Ok.ensures.read_fault (ap Ok fault))));
      steps = drop_whole c.drop_at_end.new.steps c.in-Ok.ensures.carried c.drop_at_end.ensures.steps (λ done none.
          c.drop_at_end.ensures.idle (done.supply false (λ unsupplied. c.new-meter.ensures.off) none));
      others = c.carry_drive.ensures.others;
      read_fault = search rules;
      board_fault = rises_not (no_board_fault c.in-Ok.stop c.answer.result c.answer.ensures)
          (c.in-Ok-drop_at_end.ensures.cause.kept true_is ∙ c.in-Ok.ensures.cause.kept true_is);
      counts = λ other. may_rise_more (read_failed c.in-Ok.stop _ c.answer.ensures) (c.in-Ok.ensures.counts other);
    }

pub returns-in-Err-drop_at_end : goal.returns-in-Err-drop_at_end
returns-in-Err-drop_at_end g c =
    let ran = λ (tells : g.F.Files.tells). ran_to_end g.B.Printer c.args.tables.now c.args.seal.now c.new-meter.result
    c.args.board.now c.new-meter.ensures.off c.new-meter.ensures.unknown c.carry_drive.new.meter
    c.carry_drive.new.board c.drop_at_end.new.board c.in-Ok.ensures.carried c.drop_at_end.ensures.stopped tells in
    record {
      ends = λ tells. (ran tells).ends;
      cuts = λ tells. (ran tells).cuts;
      beside = λ told. beside_then g.B.Printer c.args.board.now c.carry_drive.new.board c.drop_at_end.new.board
          (c.in-Ok.ensures.carried.carried.out.beside told) (c.drop_at_end.ensures.stopped.beside told);
      complete = λ tells whole calm still.
          absurd (still (rose_behind _ _ _ (c.in-Ok.ensures.cause.kept true_is)
          (c.in-Err-drop_at_end.ensures.cause.failed true_is)));
      steps = drop_whole c.drop_at_end.new.steps c.in-Ok.ensures.carried c.drop_at_end.ensures.steps (λ done none.
          c.drop_at_end.ensures.idle (done.supply false (λ unsupplied. c.new-meter.ensures.off) none));
      others = c.carry_drive.ensures.others;
      read_fault = λ is. absurd (board_only is);
      board_fault = rises_by refl (rose_behind _ _ _ (c.in-Ok.ensures.cause.kept true_is)
          (c.in-Err-drop_at_end.ensures.cause.failed true_is));
      counts = λ other. may_rise_more (λ failed. inr refl) (c.carry_drive.ensures.counts other);
    }

pub returns-in-Err : goal.returns-in-Err
returns-in-Err g c =
    let ran = λ (tells : g.F.Files.tells). ran_amid g.B.Printer c.args.tables.now c.args.seal.now c.new-meter.result
    c.args.board.now c.new-meter.ensures.off c.new-meter.ensures.unknown c.carry_drive.new.board
    c.in-Err.ensures.broke_off tells in
    record {
      ends = λ tells. (ran tells).ends;
      cuts = λ tells. (ran tells).cuts;
      beside = λ told. c.in-Err.ensures.broke_off.broke_off.beside told;
      complete = λ tells whole calm still. absurd (still (c.in-Err.ensures.cause.failed true_is));
      steps = broken_whole c.in-Err.ensures.broke_off;
      others = c.carry_drive.ensures.others;
      read_fault = λ is. absurd (board_only is);
      board_fault = rises_by refl (c.in-Err.ensures.cause.failed true_is);
      counts = λ other. may_rise_more (λ failed. inr refl) (c.carry_drive.ensures.counts other);
    }
