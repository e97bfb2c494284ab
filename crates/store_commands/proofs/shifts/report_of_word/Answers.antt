use Rattle.std.proofs.{Common.{ℕ, ◌<◌, ◌∙◌, ◌≡◌, Err, List, ap, arith, length, refl, ⊎_elim}, lemmas.Bool.{lt-ltb}}
use Rattle.{shift_book.specs.declared.book.BookFault.TheVariants.{TooLong}, store_commands.specs.Shifts.{reported}}
use Rattle.{call_ends.proofs.Laws.{no_fault, reads-fault, reads-ok}, store_commands.specs.Common.{Durable, book_read}}
use Rattle.store_commands.proofs.ShiftReports.{book-known, book-lacking, book-of, book-unread}
use Rattle.call_ends.specs.declared.ending.Ended.TheVariants as ended
use Rattle.store_commands.proofs.shifts.report_of_word.Goals as goal

-- a text that is longer than a book may be is refused for that
long_refused : (now : Durable) (text : List ℕ) → 1048576 < length text → book_read now text ≡ Err TooLong
long_refused now text longer = rw (lt-ltb 1048576 (length text) longer) refl

pub returns-in-Ok-clause-makes : goal.returns-in-Ok-clause-makes
returns-in-Ok-clause-makes g c = λ image. let f = c.read_text.ensures in
    book-of {F = g.F.Files} (λ same. same)
    (reads-ok f.cause f.others (λ not other. (f.counts other).kept not) (λ t. c.in-Ok.ensures.ended t.0)
    c.in-Ok.is) c.report_of_text.result (no_fault _ _ _ refl)
    (λ tells. c.as_slice.ensures.value ∙ c.in-Ok.ensures.whole tells) c.in-Ok.ensures.ended
    c.report_of_text.ensures.made

pub returns-in-Err-TooLong-clause-makes : goal.returns-in-Err-TooLong-clause-makes
returns-in-Err-TooLong-clause-makes g c = λ image. let f = c.read_text.ensures in
    let store = c.args.store.now in
    book-known {F = g.F.Files} (λ same. same) (reads-fault f.cause f.others (λ not other. (f.counts other).kept not)
    {why = ended.LongBook} (c.in-Err-TooLong.is ∙ ap Err c.in-Err-TooLong.field-0-is)
    (λ e. absurd cc) (λ e. absurd cc) (λ e. absurd cc)) _ ended.LongBook (λ e. absurd cc) refl
    (λ tells. ap (reported store.1.decimals store.0) (long_refused store.0 _ (f.too_long tells cc).longer))
    (λ tells. ⊎_elim (λ (z : 18 ≡ 0). absurd (omega (arith, z))) (λ (z : 18 ≡ 11). absurd (omega (arith, z))))

pub returns-in-Err-DeviceFailed-clause-makes : goal.returns-in-Err-DeviceFailed-clause-makes
returns-in-Err-DeviceFailed-clause-makes g c = λ image. let f = c.read_text.ensures in
    book-unread {F = g.F.Files} (λ same. same) (reads-fault f.cause f.others (λ not other. (f.counts other).kept not)
    {why = ended.ReadFault} (c.in-Err-DeviceFailed.is ∙ ap Err c.in-Err-DeviceFailed.field-0-is)
    (λ e. refl) (λ e. refl) (λ e. absurd cc)) refl

pub returns-in-Err-NoMemory-clause-makes : goal.returns-in-Err-NoMemory-clause-makes
returns-in-Err-NoMemory-clause-makes g c = λ image. let f = c.read_text.ensures in
    book-lacking {F = g.F.Files} (λ same. same) (reads-fault f.cause f.others (λ not other. (f.counts other).kept not)
    {why = ended.NoMemory} (c.in-Err-NoMemory.is ∙ ap Err c.in-Err-NoMemory.field-0-is)
    (λ e. absurd cc) (λ e. absurd cc) (λ e. absurd cc)) (λ e. absurd cc)
