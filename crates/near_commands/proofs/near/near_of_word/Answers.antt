use Rattle.std.proofs.Common.{◌∙◌, Err, ap, refl, sym}
use Rattle.call_ends.{specs.Ending.{ended_for}, proofs.Laws.{reads-ok, refuses-bad, word_is}}
use Rattle.call_ends.proofs.Laws.{fails-text, makes-of, makes-unread, not_board-text, read_fault-text, reads-bad}
use Rattle.near_commands.{specs.{Common.{bad_tariff}, Near.{near_in}}, proofs.NearTexts.{long_near}}
use Rattle.near_commands.proofs.near.near_of_word.Goals as goal

pub returns-in-Ok : goal.returns-in-Ok
returns-in-Ok g c = λ image. let f = c.text_of_word.ensures in
    makes-of (word_is near_in)
    (reads-ok f.read_fault f.others f.counts c.in-Ok.ensures.ended c.in-Ok.is) c.near_of_text.result refl
    (λ tells. c.as_slice.ensures.value ∙ c.in-Ok.ensures.text tells) c.near_of_text.ensures

pub returns-in-Err : goal.returns-in-Err
returns-in-Err g c = λ image. let f = c.text_of_word.ensures in let fault = c.in-Err.fault in
    rw c.refused_by.ensures (makes-unread (word_is near_in)
    (reads-bad f.read_fault f.others f.counts ended_for c.in-Err.is (read_fault-text fault) refl
    (not_board-text fault)) refl
    (λ tells. fails-text fault (λ why e. let long = f.long why tells (c.in-Err.is ∙ ap Err e) in
    refuses-bad (long_near _ long.1 ∙ ap bad_tariff (sym long.0)))))
