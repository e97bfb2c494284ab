use Rattle.std.{specs.Prelude.{IfOk}, proofs.Common.{ℕ, ◌∙◌, ◌≡◌, Err, List, Ok, ap, inl, inr, refl, subst, sym}}
use Rattle.call_ends.proofs.Laws.{not_board-text, read_fault-text, reads-bad, reads-ok, same_fault}
use Rattle.store_commands.specs.{Common.{Ended, Rose, ended_for, tree_of}, SealedTariff.{HasSealedLines, sealed_tariff}}
use Rattle.store_commands.{specs.TariffSteps.{AreNoTables}, proofs.WordsRead.{reads-behind, reads-err}}
use Rattle.store_commands.proofs.SealedTariffs.{no_memory-text, no_tables-as, no_tables-read}
use Rattle.call_ends.specs.declared.ending.Ended.TheVariants as ended
use Rattle.store_commands.proofs.sealed_tariff.read_sealed.Goals as goal

pub returns-in-Err-clause-refused : goal.returns-in-Err-clause-refused
returns-in-Err-clause-refused g c = λ why tells e.
    let rest = g.F.Files.rest in
    let faults = g.F.Files.faults in
    let failed = Rose (faults c.args.files.now 1) (faults c.text_of_word.new.files 1) in
    subst (λ (w : Ended). AreNoTables c.args.digest.now (rest c.args.files.now 1) failed w)
    (sym c.refused_by.ensures ∙ same_fault _ _ _ refl e)
    (no_tables-read c.args.digest.now (rest c.args.files.now 1) failed c.in-Err.fault
    (λ f. c.text_of_word.ensures.read_fault (c.in-Err.is ∙ ap Err f))
    (λ w f. c.text_of_word.ensures.long w tells (c.in-Err.is ∙ ap Err f)))

pub returns-in-Err-clause-reads : goal.returns-in-Err-clause-reads
returns-in-Err-clause-reads g c = let f = c.text_of_word.ensures in let fault = c.in-Err.fault in
    rw c.refused_by.ensures (reads-err (reads-bad f.read_fault f.others f.counts ended_for c.in-Err.is
    (read_fault-text fault) refl (not_board-text fault)))

pub returns-clause-found : goal.returns-clause-found
returns-clause-found g c = λ tells.
    subst (λ (x : List ℕ). IfOk c.sealed_of_text.result (λ checked. sealed_tariff c.args.digest.now x
    ≡ Ok (tree_of checked))) (c.as_slice.ensures.value ∙ c.in-Ok.ensures.text tells) c.sealed_of_text.ensures.found

pub returns-clause-refused : goal.returns-clause-refused
returns-clause-refused g c = λ why tells e.
    let rest = g.F.Files.rest in
    let faults = g.F.Files.faults in
    let failed = Rose (faults c.args.files.now 1) (faults c.text_of_word.new.files 1) in
    no_tables-as c.args.digest.now (rest c.args.files.now 1) ⊥ failed why (λ none. absurd none)
    (subst (λ (x : List ℕ). AreNoTables c.args.digest.now x ⊥ why)
    (c.as_slice.ensures.value ∙ c.in-Ok.ensures.text tells) (c.sealed_of_text.ensures.refused why e))

pub returns-clause-reads : goal.returns-clause-reads
returns-clause-reads g c = let f = c.text_of_word.ensures in
    reads-behind (reads-ok f.read_fault f.others f.counts c.in-Ok.ensures.ended c.in-Ok.is) c.sealed_of_text.result
    (λ e. absurd (c.sealed_of_text.ensures.refused ended.ReadFault e))
    (λ e. absurd (c.sealed_of_text.ensures.refused ended.BoardFault e))

-- memory ran out before anything was read, or for the lines of the sealed text
pub returns-in-Err-clause-memory : goal.returns-in-Err-clause-memory
returns-in-Err-clause-memory g c = λ tells e.
    let none = no_memory-text c.in-Err.fault (sym c.refused_by.ensures ∙ same_fault _ _ _ refl e) in
    inl (ap (λ files. g.F.Files.rest files 1) (c.text_of_word.ensures.memory (c.in-Err.is ∙ ap Err none)))

pub returns-clause-memory : goal.returns-clause-memory
returns-clause-memory g c = λ tells e.
    inr (subst (λ (x : List ℕ). HasSealedLines c.args.digest.now x)
    (c.as_slice.ensures.value ∙ c.in-Ok.ensures.text tells) (c.sealed_of_text.ensures.memory e))
