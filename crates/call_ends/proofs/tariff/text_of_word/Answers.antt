use Rattle.std.proofs.{Common.{ℕ, ◌<◌, ◌≡◌, Err, List, length, refl}, lemmas.Bool.{lt-ltb}}
use Rattle.call_ends.{specs.{Common.{Refusal, TooLong}, Tariffs.{tariff_in}}, proofs.OneAnswer.{same_fault}}
use Rattle.call_ends.specs.declared.tariff.TextFault.TheVariants as texts
use Rattle.call_ends.proofs.tariff.text_of_word.Goals as goal

-- a text that is longer than a tariff may be is refused for that
long_refused : (text : List ℕ) (why : Refusal) → 65536 < length text → texts.Refused TooLong ≡ texts.Refused why
    → tariff_in text ≡ Err why
long_refused text why longer same = rw (lt-ltb 65536 (length text) longer) cc

pub returns-in-Err-TooLong-clause-refused : goal.returns-in-Err-TooLong-clause-refused
returns-in-Err-TooLong-clause-refused g c = λ why tells e.
    long_refused (g.F.Files.rest c.args.files.now c.args.word) why (c.read_text.ensures.too_long tells cc).longer
    (same_fault _ _ _ refl e)
