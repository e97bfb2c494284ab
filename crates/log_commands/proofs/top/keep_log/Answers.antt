use Rattle.std.proofs.Common.{◌+◌, ◌∙◌, ◌≡◌, Option, Some, map, rules, string_bytes, subst}
use Rattle.log_commands.specs.{Calls.{IsCall, TakesNothing, WritesNothing, known_of}, Common.{Call, RisesOnlyIf, Rows}}
use Rattle.log_commands.specs.{Endings.{status_of}, RowsCalls.{IsRowsCall}, Words.{call_of}}
use Rattle.log_commands.proofs.{Causes.{may_rise_for}, EndCases.{few_are_fewer}, RowsEnds.{rows_told, rows_whole}}
use Rattle.log_commands.proofs.LastLines.{call_again, call_told, call_whole, fault_finished, has_finished}
use Rattle.log_commands.proofs.LastLines.{reads_finished, search_told, takes_before, writes_before}
use Rattle.log_commands.proofs.top.keep_log.Given as given
use Rattle.log_commands.proofs.top.keep_log.Goals as goal

-- the board's count of faults, behind the last line too
board_fault : (g : given.Over) (c : goal.After-finish g)
    → RisesOnlyIf (c.finish.result ≡ 8) (g.G.Printer.faults c.args.log.now) (g.G.Printer.faults c.finish.new.log)
board_fault g c =
    fault_finished g.G.Printer c.carry_out-ended.result c.args.log.now c.carry_out-ended.new.log
    c.finish.new.log c.finish.result
    c.carry_out-ended.ensures.board_fault c.finish.ensures.cause c.finish.ensures.silent

-- the call is what its words, its log and its roll come to, with its last line
is_call : (g : given.Over) (c : goal.After-finish g)
    → known_of (call_of (map string_bytes c.args.words.now)) g.F.Files.tells g.G.Printer.tells_image
    → IsCall g.F.Files g.G.Printer (call_of (map string_bytes c.args.words.now)) c.args.files.now
    c.carry_out-ended.new.files c.args.log.now c.finish.new.log c.args.steps.now c.finish.new.steps c.finish.result
is_call g c known =
    let B = g.G.Printer in
    subst (λ (call : Option Call). IsCall g.F.Files B call c.args.files.now c.carry_out-ended.new.files c.args.log.now
    c.finish.new.log c.args.steps.now c.finish.new.steps c.finish.result) c.call_in.ensures
    (call_told g.F.Files B c.call_in.result c.args.files.now c.carry_out-ended.new.files c.args.log.now
    c.carry_out-ended.new.log c.finish.new.log c.args.steps.now c.carry_out-ended.new.steps c.finish.new.steps
    c.carry_out-ended.result c.finish.result
    (g.met.G.Printer.only_now c.carry_out-ended.new.log)
    (c.carry_out-ended.ensures.comes (rw c.call_in.ensures known)) c.finish.ensures.told c.finish.ensures.silent
    c.finish.ensures.keeps (board_fault g c) c.finish.ensures.steps)

-- what is written is written before the last line
writes : (g : given.Over) (c : goal.After-finish g)
    → WritesNothing (call_of (map string_bytes c.args.words.now)) c.finish.result
    → WritesNothing c.call_in.result (status_of c.carry_out-ended.result)
writes g c nothing =
    rw c.call_in.ensures
    (writes_before g.G.Printer (call_of (map string_bytes c.args.words.now)) c.carry_out-ended.result
    c.carry_out-ended.new.log c.finish.new.log c.finish.result c.finish.ensures.told nothing)

-- what is taken of the roll is taken before the last line
takes : (g : given.Over) (c : goal.After-finish g)
    → TakesNothing (call_of (map string_bytes c.args.words.now)) c.finish.result
    → TakesNothing c.call_in.result (status_of c.carry_out-ended.result)
takes g c nothing =
    rw c.call_in.ensures
    (takes_before g.G.Printer (call_of (map string_bytes c.args.words.now)) c.carry_out-ended.result
    c.carry_out-ended.new.log c.finish.new.log c.finish.result c.finish.ensures.told nothing)

-- a call of `rows` is what its roll comes to, with its last line
is_rows : (g : given.Over) (c : goal.After-finish g) → g.F.Files.tells
    → call_of (map string_bytes c.args.words.now) ≡ Some Rows
    → IsRowsCall g.F.Files g.G.Printer c.args.files.now c.carry_out-ended.new.files c.args.log.now c.finish.new.log
    c.args.steps.now c.finish.new.steps c.finish.result
is_rows g c told is =
    let reaches = c.carry_out-ended.ensures.rows told (c.call_in.ensures ∙ is) in
    rows_told g.F.Files g.G.Printer c.args.files.now c.carry_out-ended.new.files c.args.log.now
    c.carry_out-ended.new.log c.finish.new.log c.args.steps.now c.carry_out-ended.new.steps c.finish.new.steps
    c.carry_out-ended.result c.finish.result reaches.0 reaches.1 c.finish.ensures.keeps c.finish.ensures.told
    c.finish.ensures.silent (board_fault g c) c.finish.ensures.steps

pub returns : goal.returns
returns g c = record {
  call = λ known. is_call g c known;
  rows = is_rows g c;
  complete_rows = λ told is small read board.
      rows_whole g.F.Files g.G.Printer c.args.files.now c.carry_out-ended.new.files c.args.log.now c.finish.new.log
      c.args.steps.now c.finish.new.steps c.finish.result (is_rows g c told is) small read board;
  again = λ files_told told file good.
      call_again g.F.Files g.G.Printer c.args.files.now c.carry_out-ended.new.files c.args.log.now c.finish.new.log
      c.finish.result (call_of (map string_bytes c.args.words.now)) c.args.steps.now c.finish.new.steps
      (is_call g c (rw file (files_told, told))) file good;
  complete = λ known command records calls stands fit read board.
      call_whole g.F.Files g.G.Printer c.args.files.now c.carry_out-ended.new.files c.args.log.now c.finish.new.log
      c.finish.result records stands command fit read board (call_of (map string_bytes c.args.words.now))
      c.args.steps.now c.finish.new.steps (is_call g c known) calls;
  has = has_finished g.G.Printer (call_of (map string_bytes c.args.words.now)) c.carry_out-ended.result
      c.carry_out-ended.new.log c.finish.new.log c.finish.result
      (rw (← c.call_in.ensures) c.carry_out-ended.ensures.has) c.finish.ensures.told;
  read_fault = search rules;
  reads = λ word.
      may_rise_for _ _ (reads_finished g.G.Printer c.carry_out-ended.result c.carry_out-ended.new.log
      c.finish.new.log c.finish.result c.finish.ensures.told)
      (c.carry_out-ended.ensures.reads word);
  board_fault = board_fault g c;
  looks = λ nothing.
      search_told g.G.Printer c.args.log.now c.carry_out-ended.new.log c.finish.new.log
      c.carry_out-ended.result c.finish.result
      (g.met.G.Printer.only_now c.carry_out-ended.new.log) (c.carry_out-ended.ensures.looks (writes g c nothing))
      c.finish.ensures.keeps c.finish.ensures.told;
  untaken = λ nothing. c.carry_out-ended.ensures.untaken (takes g c nothing);
  others = search rules;
  steps = few_are_fewer (call_of (map string_bytes c.args.words.now)) c.args.steps.now (c.carry_out-ended.new.steps + 1)
      c.finish.new.steps (rw (← c.call_in.ensures) c.carry_out-ended.ensures.steps) c.finish.ensures.steps;
}
