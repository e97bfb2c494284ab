use Rattle.std.proofs.Common.{[], ◌∙◌, Err, ap, inl, refl}
use Rattle.{call_ends.specs.declared.ending.Ended.TheVariants.{Faulty}, tariff_commands.specs.Faults.{faults_in}}
use Rattle.call_ends.proofs.Laws.{fails-text, makes-answer, makes-none, makes-of, makes-unread, not_board-text}
use Rattle.call_ends.proofs.Laws.{read_fault-text, reads-bad, reads-ok, word_is}
use Rattle.tariff_commands.specs.Common.{NoMemory, ended_for}
use Rattle.tariff_commands.proofs.FoundFaults.{answer_refused, found_made, goes_long, long_found, not_final}
use Rattle.call_ends.specs.declared.tariff.TextFault.TheVariants as texts
use Rattle.tariff_commands.proofs.faults.found_in_word.Goals as goal

-- the text was searched
pub returns-in-Ok-found_in_text : goal.returns-in-Ok-found_in_text
returns-in-Ok-found_in_text g c = λ image. let f = c.text_of_word.ensures in
    makes-of (word_is faults_in) (reads-ok f.read_fault f.others f.counts c.in-Ok.ensures.ended c.in-Ok.is) _ refl
    (λ tells. c.as_slice.ensures.value ∙ c.in-Ok.ensures.text tells)
    (found_made _ c.in-Ok-found_in_text.found c.made_of.result c.in-Ok-found_in_text.ensures c.made_of.ensures.text
    c.made_of.ensures.ended)

pub returns-in-Ok : goal.returns-in-Ok
returns-in-Ok g c = λ image. let f = c.text_of_word.ensures in
    makes-of (word_is faults_in) (reads-ok f.read_fault f.others f.counts c.in-Ok.ensures.ended c.in-Ok.is)
    (Err NoMemory) refl (λ tells. c.as_slice.ensures.value ∙ c.in-Ok.ensures.text tells) (inl refl)

-- it is too long
pub returns-in-Ok-long_line : goal.returns-in-Ok-long_line
returns-in-Ok-long_line g c = λ image.
    let f = c.text_of_word.ensures in
    let text = c.in-Ok-long_line.text.items in
    let rest = g.F.Files.rest c.args.files.now 1 in
    makes-answer (word_is faults_in).makes text Faulty
    (goes_long image f.others f.counts c.in-Err-Refused.is c.in-Err-Refused.field-0-is) refl
    (λ tells. answer_refused rest text (long_found rest text (f.long c.in-Err-Refused.field-0-0 tells
    (c.in-Err-Refused.is ∙ ap Err c.in-Err-Refused.field-0-is)).1 c.in-Ok-long_line.ensures))
    (λ tells final. absurd (not_final 2 refl final))

pub returns-in-Err-Refused : goal.returns-in-Err-Refused
returns-in-Err-Refused g c = λ image.
    let f = c.text_of_word.ensures in
    makes-none (word_is faults_in).makes []
    (goes_long image f.others f.counts c.in-Err-Refused.is c.in-Err-Refused.field-0-is) (λ tells. refl) (λ tells. tt)

-- it wasn't read
pub returns-in-Err-ReadFault : goal.returns-in-Err-ReadFault
returns-in-Err-ReadFault g c = λ image. let f = c.text_of_word.ensures in
    makes-unread (word_is faults_in) (reads-bad f.read_fault f.others f.counts ended_for
    (cc) (read_fault-text texts.ReadFault) refl (not_board-text texts.ReadFault)) refl
    (λ tells. fails-text texts.ReadFault (λ why e. absurd cc))

pub returns : goal.returns
returns g c = λ image. let f = c.text_of_word.ensures in
    makes-unread (word_is faults_in) (reads-bad f.read_fault f.others f.counts ended_for
    (cc) (read_fault-text texts.NoMemory) refl (not_board-text texts.NoMemory)) refl
    (λ tells. fails-text texts.NoMemory (λ why e. absurd cc))
