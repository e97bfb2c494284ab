use Rattle.std.{specs.Prelude.{Option}, proofs.Common.{ℕ, ◌∙◌, ◌≡◌, ◌≢◌, Some, refl, subst, sym}}
use Rattle.outside.{specs.declared.files.Files.{Ghosts as FileGhosts}, proofs.Laws.{keeps_then}}
use Rattle.call_ends.specs.{Call.{LeavesUnread}, Course.{Answered}, Unwritten.{LeavesImage}}
use Rattle.call_ends.proofs.Laws.{board_counts, bytes-kept, bytes-then, cause_carried, files_left, not_some, not_status}
use Rattle.store_commands.proofs.Laws.{seals-finished, seals-settled, unwritten-finished}
use Rattle.drive_commands.{specs.Run.{run_command}, proofs.Laws.{run-finished}}
use Rattle.commands.specs.{Carried.{RowReachesLine}, Command.{IsReadOnlyRow, command_of}, declared.words.Row.{Row}}
use Rattle.commands.specs.Common.{Ended, Ghosts, IsAtRest, IsCall, KeepsStore, WritesNothing}
use Rattle.commands.proofs.Calls.{call_course, call_from, completes, nothing_written, rests_after}
use Rattle.call_ends.specs.declared.ending.Ended.TheVariants as ended
use Rattle.commands.specs.declared.words.Row.TheVariants as rows
use Rattle.commands.proofs.top.taxi.Goals as goal

is_seal : (row : Row) → Some row ≡ Some rows.Seal → row ≡ rows.Seal
is_seal row e = cc

is_run : (row : Row) → Some row ≡ Some rows.Run → row ≡ rows.Run
is_run row e = cc

course_as : {E D L : Type 0} {N : ℕ} (F : FileGhosts E) (B : Ghosts D N L) (row row' : Row) (files files' : E)
    (old new : D) (end : Ended) → row ≡ row'
    → RowReachesLine F B row files files' old new end → RowReachesLine F B row' files files' old new end
course_as F B row row' files files' old new end e h =
    subst (λ (r : Row). RowReachesLine F B r files files' old new end) e h

pub returns-in-Some-clause-call : goal.returns-in-Some-clause-call
returns-in-Some-clause-call g c =
    subst (λ (o : Option Row). (command_of o).told g.F.Files.tells g.B.Printer.tells_image
    → IsCall g.F.Files g.B.Printer (command_of o) c.args.files.now c.carry_out-ended.new.files c.args.board.now
    c.finish-in-Some.new.board c.finish-in-Some.result)
    c.in-Some.ensures
    (λ known. call_from g.F.Files g.B.Printer _ _ _ _ _ _ _ (cause_carried c.carry_out-ended.ensures.carries)
    c.finish-in-Some.ensures.count c.finish-in-Some.ensures.ends
    (command_of (Some c.in-Some.row)) (c.carry_out-ended.ensures.carries.ends known)
    (c.carry_out-ended.ensures.carries.unread known))

pub returns-in-None-clause-call : goal.returns-in-None-clause-call
returns-in-None-clause-call g c =
    subst (λ (o : Option Row). (command_of o).told g.F.Files.tells g.B.Printer.tells_image
    → IsCall g.F.Files g.B.Printer
    (command_of o) c.args.files.now c.args.files.now c.args.board.now c.finish.new.board c.finish.result)
    c.in-None.ensures
    (λ known. record {
      course = Answered;
      may = record {
        whole = λ e. absurd (not_status ended.BadWords 0 refl e);
        bad = λ e. absurd (not_status ended.BadWords 3 refl e);
      };
      ends = c.finish.ensures.ends;
      unread = λ word never. refl;
    })

pub returns-in-None-clause-complete : goal.returns-in-None-clause-complete
returns-in-None-clause-complete g c = λ known read calm.
    completes g.F.Files g.B.Printer _ _ _ _ _ _ read calm (returns-in-None-clause-call g c known)

pub returns-in-Some-clause-complete : goal.returns-in-Some-clause-complete
returns-in-Some-clause-complete g c = λ known read calm.
    completes g.F.Files g.B.Printer _ _ _ _ _ _ read calm (returns-in-Some-clause-call g c known)

pub returns-in-Some-clause-unwritten : goal.returns-in-Some-clause-unwritten
returns-in-Some-clause-unwritten g c =
    subst (λ (o : Option Row). ¬ ((command_of o).writes c.finish-in-Some.result)
    → WritesNothing g.B.Printer c.args.board.now c.finish-in-Some.new.board c.finish-in-Some.result)
    c.in-Some.ensures
    (nothing_written g.F.Files g.B.Printer _ _ _ _ _ _ _ (cause_carried c.carry_out-ended.ensures.carries)
    c.finish-in-Some.ensures.count c.finish-in-Some.ensures.ends (command_of (Some c.in-Some.row)) _ _
    c.finish-in-Some.ensures.store c.carry_out-ended.ensures.carries)

pub returns-in-None-clause-unwritten : goal.returns-in-None-clause-unwritten
returns-in-None-clause-unwritten g c = λ not. record {
  bytes = bytes-kept g.B.Printer c.args.board.now c.finish.new.board c.finish.ensures.store;
  same = λ not_8. c.finish.ensures.store.same;
}

pub returns-in-Some-clause-seals : goal.returns-in-Some-clause-seals
returns-in-Some-clause-seals g c = λ e read tells.
    let printed = g.B.Printer.printed in
    let old = c.args.board.now in
    let mid = c.carry_out-ended.new.board in
    let new = c.finish-in-Some.new.board in
    let comes = course_as g.F.Files g.B.Printer c.in-Some.row rows.Seal c.args.files.now c.carry_out-ended.new.files old
    mid c.carry_out-ended.result
    (is_seal c.in-Some.row (c.in-Some.ensures ∙ e)) c.carry_out-ended.ensures.comes read tells in
    seals-finished g.B.Printer _ old mid new c.carry_out-ended.result c.finish-in-Some.result g.B.Printer.tells_text _
    (printed mid) (printed new)
    comes.seals comes.rests c.finish-in-Some.ensures.store c.finish-in-Some.ensures.leaves
    c.finish-in-Some.ensures.silent c.finish-in-Some.ensures.ends

pub returns-in-Some-clause-settled : goal.returns-in-Some-clause-settled
returns-in-Some-clause-settled g c = λ is read tells still.
    seals-settled g.B.Printer (g.F.Files.rest c.args.files.now 1)
    (g.F.Files.rest c.args.files.now 2) c.args.board.now c.finish-in-Some.new.board c.finish-in-Some.result still
    (returns-in-Some-clause-seals g c is read tells)

pub returns-in-None-clause-settled : goal.returns-in-None-clause-settled
returns-in-None-clause-settled g c = λ e. absurd (not_some _ _ (sym c.in-None.ensures) e)

pub returns-in-None-clause-seals : goal.returns-in-None-clause-seals
returns-in-None-clause-seals g c = λ e. absurd (not_some _ _ (sym c.in-None.ensures) e)

pub returns-in-Some-clause-runs : goal.returns-in-Some-clause-runs
returns-in-Some-clause-runs g c = λ e read tells.
    let files = c.args.files.now in
    let files' = c.carry_out-ended.new.files in
    let old = c.args.board.now in
    let mid = c.carry_out-ended.new.board in
    let new = c.finish-in-Some.new.board in
    let end = c.carry_out-ended.result in
    let status = c.finish-in-Some.result in
    let comes = course_as g.F.Files g.B.Printer c.in-Some.row rows.Run files files' old mid end
    (is_run c.in-Some.row (c.in-Some.ensures ∙ e)) c.carry_out-ended.ensures.comes read tells in
    let unread : LeavesUnread run_command (g.F.Files.rest files) (g.F.Files.rest files') (g.B.Printer.image old) =
    subst (λ (o : Option Row). (command_of o).told g.F.Files.tells g.B.Printer.tells_image → LeavesUnread (command_of o)
    (g.F.Files.rest files) (g.F.Files.rest files') (g.B.Printer.image old))
    (c.in-Some.ensures ∙ e) c.carry_out-ended.ensures.carries.unread (read, tells) in
    let call = call_from g.F.Files g.B.Printer files files' old mid new end status
    (cause_carried c.carry_out-ended.ensures.carries) c.finish-in-Some.ensures.count c.finish-in-Some.ensures.ends
    run_command comes.comes unread in
    run-finished g.F.Files g.B.Printer files files' old mid new end status comes c.finish-in-Some.ensures.store
    c.finish-in-Some.ensures.leaves c.finish-in-Some.ensures.silent
    call (call_course g.F.Files g.B.Printer files files' old mid new end status
    (cause_carried c.carry_out-ended.ensures.carries) c.finish-in-Some.ensures.count c.finish-in-Some.ensures.ends
    run_command comes.comes unread)
    c.finish-in-Some.ensures.ends
    (λ bytes. bytes-then g.B.Printer old mid new bytes (bytes-kept g.B.Printer mid new c.finish-in-Some.ensures.store))

pub returns-in-None-clause-runs : goal.returns-in-None-clause-runs
returns-in-None-clause-runs g c = λ e. absurd (not_some _ _ (sym c.in-None.ensures) e)

pub returns-in-Some-clause-kept : goal.returns-in-Some-clause-kept
returns-in-Some-clause-kept g c =
    subst
    (λ (o : Option Row). ¬ ((command_of o).opens) → KeepsStore g.B.Printer c.args.board.now c.finish-in-Some.new.board)
    c.in-Some.ensures
    (λ not. keeps_then g.B.Printer c.args.board.now c.carry_out-ended.new.board c.finish-in-Some.new.board
    (c.carry_out-ended.ensures.carries.kept not) c.finish-in-Some.ensures.store)

pub returns-in-Some-clause-at_rest : goal.returns-in-Some-clause-at_rest
returns-in-Some-clause-at_rest g c =
    subst (λ (o : Option Row). (command_of o).told g.F.Files.tells g.B.Printer.tells_image → g.B.Printer.tells_image →
    (command_of o).opens → c.finish-in-Some.result ≢ 8
    → IsAtRest g.B.Printer c.finish-in-Some.new.board)
    c.in-Some.ensures
    (rests_after g.F.Files g.B.Printer _ _ _ _ _ _ _ (cause_carried c.carry_out-ended.ensures.carries)
    c.finish-in-Some.ensures.count c.finish-in-Some.ensures.ends (command_of (Some c.in-Some.row)) _ _
    c.finish-in-Some.ensures.store c.carry_out-ended.ensures.carries)

pub returns-in-None-clause-at_rest : goal.returns-in-None-clause-at_rest
returns-in-None-clause-at_rest g c =
    λ known told opened. absurd (subst (λ (o : Option Row). (command_of o).opens) (sym c.in-None.ensures) opened)

pub returns-in-Some-clause-looks : goal.returns-in-Some-clause-looks
returns-in-Some-clause-looks g c =
    subst (λ (o : Option Row). IsReadOnlyRow o → g.B.Printer.tells_image
    → LeavesImage g.B.Printer (c.finish-in-Some.result ≡ 8) c.args.board.now c.finish-in-Some.new.board)
    c.in-Some.ensures
    (λ looks told. unwritten-finished g.B.Printer _ _ _ _ _ _ _ _ _ (c.carry_out-ended.ensures.carries.looks looks told)
    (g.met.B.Printer.only_now c.carry_out-ended.new.board) c.finish-in-Some.ensures.store
    c.finish-in-Some.ensures.silent c.finish-in-Some.ensures.ends)

pub returns-in-Some-clause-steps : goal.returns-in-Some-clause-steps
returns-in-Some-clause-steps g c =
    let rest = g.F.Files.rest in
    let image = g.B.Printer.image c.args.board.now in
    subst (λ (o : Option Row). (command_of o).steps g.F.Files.tells g.B.Printer.tells_image (rest c.args.files.now)
    (rest c.carry_out-ended.new.files) image c.args.steps.now c.finish-in-Some.new.steps)
    c.in-Some.ensures
    (c.carry_out-ended.ensures.carries.steps c.finish-in-Some.new.steps c.finish-in-Some.ensures.steps)

pub returns-in-Some-clause-board_fault : goal.returns-in-Some-clause-board_fault
returns-in-Some-clause-board_fault g c =
    board_counts g.B.Printer _ _ _ _ _ (cause_carried c.carry_out-ended.ensures.carries) c.finish-in-Some.ensures.count
    c.finish-in-Some.ensures.ends

pub returns-in-None-clause-board_fault : goal.returns-in-None-clause-board_fault
returns-in-None-clause-board_fault g c =
    board_counts g.B.Printer c.args.board.now c.args.board.now c.finish.new.board ended.BadWords c.finish.result
    (record { count = λ good. refl; failed = λ failed. absurd cc }) c.finish.ensures.count c.finish.ensures.ends

pub returns-in-Some-clause-unfailed : goal.returns-in-Some-clause-unfailed
returns-in-Some-clause-unfailed g c =
    files_left g.B.Printer _ _ _ _ _ (cause_carried c.carry_out-ended.ensures.carries) c.finish-in-Some.ensures.count
    c.finish-in-Some.ensures.ends (g.F.Files.faults c.args.files.now) (g.F.Files.faults c.carry_out-ended.new.files)
    c.carry_out-ended.ensures.carries.counts

pub returns-in-None-clause-unfailed : goal.returns-in-None-clause-unfailed
returns-in-None-clause-unfailed g c = λ read board word. refl
