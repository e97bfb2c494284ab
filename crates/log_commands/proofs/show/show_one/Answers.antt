use Rattle.std.proofs.{Common.{ℕ, ◌++◌, ◌∙◌, ◌≡◌, List, ap, arith, length, subst}, lemmas.Result.{on_ok_weaker}}
use Rattle.{outside.proofs.Laws.{begins_not, keeps_print, keeps_then}, log_commands.specs.Common.{Begins, KeepsStore}}
use Rattle.log_commands.specs.{LogScan.{IsContentInRange}, Record.{Record}, Slots.{HasRecord, slot_of}}
use Rattle.log_commands.proofs.{ReadOnlyCalls.{reads_keep}, show.show_one.Goals.{After-read_slot}}
use Rattle.log_commands.proofs.Shown.{few_text, some_text, told_closed, told_record, told_unread}
use Rattle.log_commands.proofs.show.show_one.Given as given
use Rattle.log_commands.proofs.show.show_one.Goals as goal

pub print-requires : goal.print-requires
print-requires g c =
    let is = subst IsContentInRange c.in-Filled.is c.in_ok-it.ensures.sound in
    let long = ap length c.as_slice.ensures.value ∙ ap (λ (r : Record). length r.text) c.it.view_is in
    record { some = omega (arith, long, some_text _ is.0); few = omega (arith, long, few_text _ is.0) }

-- what is printed is the record's text
printed_is : (g : given.Over) (c : goal.After-print g) → g.G.Printer.tells_image → (it : Record) → HasRecord
    (g.G.Printer.image c.args.log.now) (slot_of c.args.place) c.args.place it → c.as_slice.result.now ≡ it.text
printed_is g c image it holds =
    let same = told_record (g.G.Printer.image c.args.log.now) c.args.place it c.in_ok-it.field-0 _ _ holds
    (c.in_ok-it.ensures.content image) c.in-Filled.is in
    c.as_slice.ensures.value ∙ (ap (λ (r : Record). r.text) c.it.view_is ∙ ap (λ (r : Record). r.text) same)

pub returns-in-Filled-clause-shown : goal.returns-in-Filled-clause-shown
returns-in-Filled-clause-shown g c = λ image text it holds.
    on_ok_weaker c.print.result
    (λ whole. whole ∙ (ap (λ (t : List ℕ). t ++ c.as_slice.result.now) c.read_slot.ensures.reads.text
    ∙ ap (λ (t : List ℕ). g.G.Printer.printed c.args.log.now ++ t) (printed_is g c image it holds)))
    (c.print.ensures.whole text)

pub returns-in-Filled-clause-begun : goal.returns-in-Filled-clause-begun
returns-in-Filled-clause-begun g c = λ image text it holds.
    subst (λ (t : List ℕ). Begins (g.G.Printer.printed c.args.log.now) (g.G.Printer.printed c.print.new.self) t)
    (printed_is g c image it holds)
    (subst (λ (t : List ℕ). Begins t (g.G.Printer.printed c.print.new.self) c.as_slice.result.now)
    c.read_slot.ensures.reads.text (c.print.ensures.begun text))

pub returns-in-Unread-clause-shown : goal.returns-in-Unread-clause-shown
returns-in-Unread-clause-shown g c = λ image text it holds.
    absurd (told_unread (g.G.Printer.image c.args.log.now) c.args.place it c.in_ok-it.field-0 holds
    (c.in_ok-it.ensures.content image) c.in-Unread.is)

pub returns-in-Closed-clause-shown : goal.returns-in-Closed-clause-shown
returns-in-Closed-clause-shown g c = λ image text it holds.
    absurd (told_closed (g.G.Printer.image c.args.log.now) c.args.place it c.in_ok-it.field-0 holds
    (c.in_ok-it.ensures.content image) c.in-Closed.is)

pub returns-in_err-it-clause-begun : goal.returns-in_err-it-clause-begun
returns-in_err-it-clause-begun g c = λ image text it holds. begins_not _ _ it.text c.read_slot.ensures.reads.text

pub returns-in-Unread-clause-begun : goal.returns-in-Unread-clause-begun
returns-in-Unread-clause-begun g c = λ image text it holds. begins_not _ _ it.text c.read_slot.ensures.reads.text

pub returns-in-Closed-clause-begun : goal.returns-in-Closed-clause-begun
returns-in-Closed-clause-begun g c = λ image text it holds. begins_not _ _ it.text c.read_slot.ensures.reads.text

-- the slot is read
keeps_read : (g : given.Over) (c : After-read_slot g) → KeepsStore g.G.Printer c.args.log.now c.read_slot.new.log
keeps_read g c =
    reads_keep g.G.Printer c.args.log.now c.read_slot.new.log c.read_slot.ensures.image c.read_slot.ensures.reads

pub returns-in_err-it-clause-keeps : goal.returns-in_err-it-clause-keeps
returns-in_err-it-clause-keeps g c = keeps_read g (goal.at.returns-in_err-it-clause-keeps g c).After-read_slot

pub returns-in-Unread-clause-keeps : goal.returns-in-Unread-clause-keeps
returns-in-Unread-clause-keeps g c = keeps_read g (goal.at.returns-in-Unread-clause-keeps g c).After-read_slot

pub returns-in-Closed-clause-keeps : goal.returns-in-Closed-clause-keeps
returns-in-Closed-clause-keeps g c = keeps_read g (goal.at.returns-in-Closed-clause-keeps g c).After-read_slot

pub returns-in-Filled-clause-keeps : goal.returns-in-Filled-clause-keeps
returns-in-Filled-clause-keeps g c =
    keeps_then g.G.Printer c.args.log.now c.read_slot.new.log c.print.new.self
    (keeps_read g (goal.at.returns-in-Filled-clause-keeps g c).After-read_slot)
    (keeps_print g.G.Printer c.read_slot.new.log c.print.new.self c.as_slice.result.now c.print.ensures.image
    c.print.ensures.flight c.print.ensures.time)
