use Rattle.std.proofs.{Common.{ℕ, ◌<◌, ◌≡◌, Err, List, arith, length, refl}, lemmas.Bool.{lt-ltb}}
use Rattle.offset_rules.specs.{Reading.{rules_read}, declared.fault.RuleFault.TheVariants.{TooLong}}
use Rattle.{call_ends.proofs.Laws.{same_fault}, store_commands.specs.Common.{RuleFault}}
use Rattle.store_commands.specs.declared.offsets.RulesFault.TheVariants as rules
use Rattle.store_commands.proofs.offsets.rules_of_word.Goals as goal

-- a text that is longer than rules may be is refused for that
long_refused : (text : List ℕ) (why : RuleFault) → 4096 < length text → rules.Refused TooLong ≡ rules.Refused why
    → rules_read text ≡ Err why
unfolding rules_read
long_refused text why longer same = rw (lt-ltb 4096 (length text) longer) cc

pub returns-in-Err-TooLong-clause-refused : goal.returns-in-Err-TooLong-clause-refused
returns-in-Err-TooLong-clause-refused g c = λ why tells e.
    let longer = (c.read_whole.ensures.too_long tells cc).longer in
    long_refused (g.F.Files.rest c.args.files.now c.args.word) why (omega (arith, longer)) (same_fault _ _ _ refl e)
