use Rattle.std.proofs.{Common.{ℕ, ◌<◌, ◌≡◌, Err, List, length, refl}, lemmas.Bool.{lt-ltb}}
use Rattle.seal_record.specs.{Reading.{params_read}, declared.params.ParamFault.TheVariants.{TooLong}}
use Rattle.{call_ends.proofs.Laws.{same_fault}, store_commands.specs.Common.{ParamFault}}
use Rattle.store_commands.specs.declared.params.ParamsFault.TheVariants as params
use Rattle.store_commands.proofs.params.read_parameters.Goals as goal

-- a text that is longer than parameters may be is refused for that
long_refused : (text : List ℕ) (why : ParamFault) → 65536 < length text → params.Refused TooLong ≡ params.Refused why
    → params_read text ≡ Err why
unfolding params_read
long_refused text why longer same = rw (lt-ltb 65536 (length text) longer) cc

pub returns-in-Err-TooLong-clause-refused : goal.returns-in-Err-TooLong-clause-refused
returns-in-Err-TooLong-clause-refused g c = λ why tells e.
    long_refused (g.F.Files.rest c.args.files.now c.args.word) why (c.read_text.ensures.too_long tells cc).longer
    (same_fault _ _ _ refl e)
