use Rattle.std.proofs.Common.{ℕ, ◌∙◌, ◌≡◌, Err, List, Ok, Option, Result, ap, arith, inl, inr, refl, subst, sym}
use Rattle.{std.proofs.lemmas.Result.{err_from_is_err_and}, sha2.specs.Sha256.{sha256}}
use Rattle.{seal_record.specs.Reading.{params_read}, store_commands.proofs.Sealings.{no_seal-tariff, no_tariff-fault}}
use Rattle.call_ends.proofs.Laws.{lines_of_sound, no_fault, read_fault-text, same_fault}
use Rattle.store_commands.specs.Common.{Ended, IsOfLines, Params, Refusal, Rose, Tree, ended_for}
use Rattle.store_commands.specs.Seal.{HasDecimals, seal_read, seal_with_tariff, where_decimals, with_params}
use Rattle.store_commands.specs.{SealSteps.{IsNoSeal}, StoreEnds.{ended_for_params}}
use Rattle.store_commands.proofs.ReadFaults.{no_memory-params, not_board-params, read_fault-params}
use Rattle.store_commands.proofs.{SealedTariffs.{no_memory-text}, Turns.{first_alone, first_then}}
use Rattle.store_commands.specs.declared.params.ParamsFault.TheVariants as params
use Rattle.call_ends.specs.declared.tariff.TextFault.TheVariants as texts
use Rattle.store_commands.proofs.seal.read_seal.Goals as goal

-- the seal of a number that texts make has the digest of the tariff
seal_made : (number : ℕ) (found : Option ℕ) (tariff text : List ℕ) (params : Params) (digest : List ℕ) (decimals : ℕ)
    (has : HasDecimals found tariff) → has.tree.decimals ≡ decimals → params_read text ≡ Ok params
    → digest ≡ sha256 tariff
    → seal_read number found tariff text
    ≡ Ok (record { seal_number = number; params = params; digest = digest; decimals = decimals })
seal_made number found tariff text params digest decimals has decimals_are read digested =
    ap (λ (r : Result Tree Refusal). seal_with_tariff number found (sha256 tariff) r (params_read text)) has.sound
    ∙ ap (λ (r : Result (Unit {0}) Ended). where_decimals r
    (with_params number (sha256 tariff) has.tree.decimals (params_read text))) has.decimals
    ∙ rw (sym digested, decimals_are, read) refl

pub returns-in_err-decimals-clause-refused : goal.returns-in_err-decimals-clause-refused
returns-in_err-decimals-clause-refused g c =
    let p = err_from_is_err_and c.from_residual.result c.from_residual.ensures.1 in
    rw (p.1, p.2) (λ end read e.
    let rest = g.F.Files.rest in
    let faults = g.F.Files.faults in
    let params = rest c.args.files.now 2 in
    let text = c.as_slice.result.now in
    let failed = λ (word : ℕ). Rose (faults c.args.files.now word) (faults c.text_of_word.new.files word) in
    let why = c.decimals_of.ensures.refused end (c.in_err-decimals.was ∙ ap Err (same_fault _ _ _ refl e)) in
    subst (λ (x : List ℕ). IsNoSeal c.args.number c.args.found x params failed end)
    (c.as_slice.ensures.value ∙ c.in-Ok.ensures.text read)
    (no_seal-tariff c.args.number c.args.found text params failed end why))

pub returns-in_err-decimals-clause-not_board : goal.returns-in_err-decimals-clause-not_board
returns-in_err-decimals-clause-not_board g c =
    let p = err_from_is_err_and c.from_residual.result c.from_residual.ensures.1 in
    rw (p.1, p.2) (λ e.
    let end = c.in_err-decimals.field-0.0 in
    (no_tariff-fault c.args.found c.as_slice.result.now end (c.decimals_of.ensures.refused end c.in_err-decimals.was)).1
    (same_fault _ _ _ refl e))

pub returns-in-Err-read_parameters-clause-not_board : goal.returns-in-Err-read_parameters-clause-not_board
returns-in-Err-read_parameters-clause-not_board g c = λ e.
    not_board-params c.in-Err-read_parameters.fault (sym c.refused_params.ensures ∙ same_fault _ _ _ refl e)

pub returns-clause-read : goal.returns-clause-read
returns-clause-read g c = λ read.
    let tariff = c.as_slice.ensures.value ∙ c.in-Ok.ensures.text read in
    let params = ap params_read (sym (c.text_of_word.ensures.others 2 (λ e. absurd (omega (arith, e)))))
    ∙ c.in-Ok-read_parameters.ensures.found read in
    let text = g.F.Files.rest c.args.files.now 2 in
    ap (λ (x : List ℕ). seal_read c.args.number c.args.found x text) (sym tariff)
    ∙ seal_made c.args.number c.args.found c.as_slice.result.now text _ _ _ c.in_ok-decimals.ensures.sound.has
    c.in_ok-decimals.ensures.sound.decimals_are params cc

pub returns-clause-refused : goal.returns-clause-refused
returns-clause-refused g c = λ why read e. absurd (no_fault _ _ _ refl e)

pub returns-clause-not_board : goal.returns-clause-not_board
returns-clause-not_board g c = no_fault _ _ _ refl

-- ---- what is read

pub returns-in-Err-clause-reads : goal.returns-in-Err-clause-reads
returns-in-Err-clause-reads g c =
    first_alone g.F.Files 1 2 _ _ c.args.files.now c.text_of_word.new.files
    (c.text_of_word.result ≡ Err texts.ReadFault)
    (λ e. c.in-Err.is ∙ ap Err
    (read_fault-text c.in-Err.fault (sym c.refused_by.ensures ∙ same_fault _ _ _ refl e)))
    (λ e. ap Err (c.refused_by.ensures
    ∙ ap ended_for (same_fault c.text_of_word.result c.in-Err.fault texts.ReadFault c.in-Err.is e)))
    c.text_of_word.ensures.read_fault c.text_of_word.ensures.others c.text_of_word.ensures.counts

pub returns-in_err-decimals-clause-reads : goal.returns-in_err-decimals-clause-reads
returns-in_err-decimals-clause-reads g c =
    let p = err_from_is_err_and c.from_residual.result c.from_residual.ensures.1 in
    let end = c.in_err-decimals.field-0.0 in
    let why = no_tariff-fault c.args.found c.as_slice.result.now end
    (c.decimals_of.ensures.refused end c.in_err-decimals.was) in
    rw (p.1, p.2) (first_alone g.F.Files 1 2 _ _ c.args.files.now c.text_of_word.new.files
    (c.text_of_word.result ≡ Err texts.ReadFault)
    (λ e. absurd (why.0 (same_fault _ _ _ refl e)))
    (λ e. absurd (no_fault c.text_of_word.result c.in-Ok.text texts.ReadFault c.in-Ok.is e))
    c.text_of_word.ensures.read_fault c.text_of_word.ensures.others c.text_of_word.ensures.counts)

pub returns-in-Err-read_parameters-clause-reads : goal.returns-in-Err-read_parameters-clause-reads
returns-in-Err-read_parameters-clause-reads g c =
    let went = no_fault c.text_of_word.result c.in-Ok.text texts.ReadFault c.in-Ok.is in
    let has = λ (read : g.F.Files.tells). subst (λ (x : List ℕ). HasDecimals c.args.found x)
    (c.as_slice.ensures.value ∙ c.in-Ok.ensures.text read) c.in_ok-decimals.ensures.sound.has in
    let fault = c.in-Err-read_parameters.fault in
    first_then g.F.Files 1 2 _ _ c.args.files.now c.read_parameters.new.files c.text_of_word.new.files
    (c.read_parameters.result ≡ Err params.ReadFault) has
    (λ e. c.in-Err-read_parameters.is ∙ ap Err
    (read_fault-params fault (sym c.refused_params.ensures ∙ same_fault _ _ _ refl e)))
    (λ e. ap Err (c.refused_params.ensures
    ∙ ap ended_for_params (same_fault c.read_parameters.result fault params.ReadFault c.in-Err-read_parameters.is e)))
    c.text_of_word.ensures.others (c.text_of_word.ensures.counts went)
    c.read_parameters.ensures.read_fault c.read_parameters.ensures.others c.read_parameters.ensures.counts

pub returns-clause-reads : goal.returns-clause-reads
returns-clause-reads g c =
    let went = no_fault c.text_of_word.result c.in-Ok.text texts.ReadFault c.in-Ok.is in
    let has = λ (read : g.F.Files.tells). subst (λ (x : List ℕ). HasDecimals c.args.found x)
    (c.as_slice.ensures.value ∙ c.in-Ok.ensures.text read) c.in_ok-decimals.ensures.sound.has in
    first_then g.F.Files 1 2 _ _ c.args.files.now c.read_parameters.new.files c.text_of_word.new.files
    (c.read_parameters.result ≡ Err params.ReadFault) has
    (λ e. absurd (no_fault _ _ _ refl e))
    (λ e. absurd (no_fault c.read_parameters.result c.in-Ok-read_parameters.params params.ReadFault
    c.in-Ok-read_parameters.is e))
    c.text_of_word.ensures.others (c.text_of_word.ensures.counts went)
    c.read_parameters.ensures.read_fault c.read_parameters.ensures.others c.read_parameters.ensures.counts

-- ---- memory ran out

pub returns-in-Err-clause-memory : goal.returns-in-Err-clause-memory
returns-in-Err-clause-memory g c = λ tells e.
    let none = no_memory-text c.in-Err.fault (sym c.refused_by.ensures ∙ same_fault _ _ _ refl e) in
    let same = c.text_of_word.ensures.memory (c.in-Err.is ∙ ap Err none) in
    record {
      params = ap (λ files. g.F.Files.rest files 2) same;
      tariff = inl (ap (λ files. g.F.Files.rest files 1) same);
    }

pub returns-in_err-decimals-clause-memory : goal.returns-in_err-decimals-clause-memory
returns-in_err-decimals-clause-memory g c =
    let p = err_from_is_err_and c.from_residual.result c.from_residual.ensures.1 in
    rw (p.1, p.2) (λ tells e. record {
      params = c.text_of_word.ensures.others 2 (λ is. absurd (omega (arith, is)));
      tariff = inr (subst (λ (x : List ℕ). IsOfLines x) (c.as_slice.ensures.value ∙ c.in-Ok.ensures.text tells)
          (c.decimals_of.ensures.memory (c.in_err-decimals.was ∙ ap Err (same_fault _ _ _ refl e))));
    })

pub returns-in-Err-read_parameters-clause-memory : goal.returns-in-Err-read_parameters-clause-memory
returns-in-Err-read_parameters-clause-memory g c = λ tells e.
    let none = no_memory-params c.in-Err-read_parameters.fault
    (sym c.refused_params.ensures ∙ same_fault _ _ _ refl e) in
    let same = c.read_parameters.ensures.memory (c.in-Err-read_parameters.is ∙ ap Err none) in
    let has = c.in_ok-decimals.ensures.sound.has in
    record {
      params = ap (λ files. g.F.Files.rest files 2) same
          ∙ c.text_of_word.ensures.others 2 (λ is. absurd (omega (arith, is)));
      tariff = inr (subst (λ (x : List ℕ). IsOfLines x) (c.as_slice.ensures.value ∙ c.in-Ok.ensures.text tells)
          (lines_of_sound c.as_slice.result.now has.tree has.sound));
    }
