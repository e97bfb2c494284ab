use Rattle.std.proofs.Common.{ℕ, ◌<◌, ◌∙◌, ◌≡◌, Err, List, Ok, ap, arith, length, refl, rules, subst, sym}
use Rattle.{outside.proofs.Laws.{keeps_none, keeps_print}, call_ends.proofs.Laws.{ends-printed, prints-by}}
use Rattle.call_ends.specs.{Carried.{no_files}, Making.{Prints, end_printed}}
use Rattle.call_ends.proofs.Laws.{board_not_read, carries-kept, course-unprinted, done_not_board, done_not_read}
use Rattle.drive_commands.specs.Common.{tables_of, tariff_in}
use Rattle.drive_commands.specs.Generate.{gen_command, generated_setting, generated_text}
use Rattle.drive_commands.proofs.GenDrive.{course-gen, course-gen_refused, setting_is, text_is}
use Rattle.call_ends.specs.declared.ending.Ended.TheVariants as ended
use Rattle.drive_commands.proofs.generate.generate.Goals as goal

pub returns-in-Err : goal.returns-in-Err
returns-in-Err g c = λ contents.
    carries-kept (no_files contents) g.B.Printer (gen_command c.args.seed c.args.trips) tt tt c.args.board.now
    c.args.board.now c.args.steps.now c.args.steps.now _ (λ none. none) (λ status w. w)
    (λ known.
    let image = g.B.Printer.image c.args.board.now in
    rw c.refused_by.ensures
    (course-unprinted (gen_command c.args.seed c.args.trips) contents contents image _ _ _
    (g.B.Printer.printed c.args.board.now) _
    (course-gen_refused c.args.seed c.args.trips contents contents image _ c.in-Err.fault
    (λ e. c.tables_of_text.ensures.read (c.in-Err.is ∙ ap Err e))
    (λ why e. subst (λ (x : List ℕ). tariff_in x ≡ Err why) c.city_tariff-text.ensures
    (c.tables_of_text.ensures.refused why (c.in-Err.is ∙ ap Err e))))))
    (λ later le. omega (arith, le)) (search rules)
    (search rules)
    (λ word not. refl) (λ known word never. refl) (λ read good word. refl) (keeps_none g.B.Printer c.args.board.now)

pub state_of_drive-durable-requires-clause-setting : goal.state_of_drive-durable-requires-clause-setting
state_of_drive-durable-requires-clause-setting g c = let made = c.in-Ok.ensures.found in (
  generated_setting made.tree,
  setting_is made.tree c.in-Ok.tables c.gen_seal-seal.result made.compiled
      (made.value ∙ ap (tables_of made.tree) c.ten_thousand-constant.ensures)
      c.gen_seal-seal.ensures.constant c.gen_seal-seal.ensures.mode c.gen_seal-seal.ensures.hold
      c.gen_seal-seal.ensures.offsets,
)

pub print-requires-clause-some : goal.print-requires-clause-some
print-requires-clause-some g c =
    subst (λ (x : List ℕ). 0 < length x) (sym c.as_slice.ensures.value) c.summary-line.ensures.some

pub returns : goal.returns
returns g c = λ contents.
    let made = c.in-Ok.ensures.found in
    let t = made.tree in
    let value = made.value ∙ ap (tables_of t) c.ten_thousand-constant.ensures in
    let text = generated_text c.args.seed c.args.trips c.decimals-decimals.result c.state_of_drive-durable.result in
    let is = setting_is t c.in-Ok.tables c.gen_seal-seal.result made.compiled value
    c.gen_seal-seal.ensures.constant c.gen_seal-seal.ensures.mode c.gen_seal-seal.ensures.hold
    c.gen_seal-seal.ensures.offsets in
    let shown = text_is c.args.seed c.args.trips c.decimals-decimals.result c.state_of_drive-durable.result t
    c.in-Ok.tables value c.decimals-decimals.ensures.value
    (c.state_of_drive-durable.ensures.state (generated_setting t) is)
    ∙ sym (◌∙◌ {c = text} c.as_slice.ensures.value c.summary-line.ensures.text) in
    let p : Prints g.B.Printer c.as_slice.result.now 1 ended.Done c.args.board.now c.print.new.self
    c.state_of_drive-durable.new.steps c.print.new.steps (end_printed c.print.result ended.Done) =
    prints-by c.print.result c.print.ensures.whole c.print.ensures.begun c.print.ensures.cause
    (omega (arith, c.print.ensures.step)) (keeps_print g.B.Printer c.args.board.now c.print.new.self _
    c.print.ensures.image c.print.ensures.flight c.print.ensures.time) done_not_board in
    rw c.ended_behind.ensures
    (carries-kept (no_files contents) g.B.Printer (gen_command c.args.seed c.args.trips) tt tt c.args.board.now
    c.print.new.self c.args.steps.now c.print.new.steps _ (λ none. none) (λ status w. w)
    (λ known. ends-printed (gen_command c.args.seed c.args.trips) contents contents
    (g.B.Printer.image c.args.board.now) _ c.as_slice.result.now ended.Done
    (course-gen c.args.seed c.args.trips contents contents (g.B.Printer.image c.args.board.now) _ t
    c.as_slice.result.now (subst (λ (x : List ℕ). tariff_in x ≡ Ok t) c.city_tariff-text.ensures made.sound) shown)
    g.B.Printer p)
    (λ later le. omega (arith, le, c.state_of_drive-durable.ensures.steps, p.steps))
    (λ e. absurd (done_not_read (sym (p.ends (λ f. board_not_read (sym f ∙ e))) ∙ e))) p.cause
    (λ word not. refl) (λ known word never. refl) (λ read good word. refl) p.store)
