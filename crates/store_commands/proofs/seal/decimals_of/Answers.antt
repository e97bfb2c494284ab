use Rattle.std.proofs.{Common.{◌∙◌, Err, ap, refl, sym}, lemmas.Result.{err_from_is_err_and}}
use Rattle.{call_ends.proofs.Laws.{same_fault}, store_commands.proofs.SealedTariffs.{no_memory-text}}
use Rattle.store_commands.{specs.{Common.{tree_of}, Seal.{are_decimals}}, proofs.Sealings.{no_tariff-decimals}}
use Rattle.store_commands.proofs.seal.decimals_of.Goals as goal

pub returns-clause-sound : goal.returns-clause-sound
returns-clause-sound c =
    let same = sym c.decimals-decimals.ensures.value in
    record {
      has = record {
        tree = tree_of c.in-Ok.checked;
        sound = c.in-Ok.ensures.found;
        decimals = ap (are_decimals c.args.found) same ∙ sym c.are_decimals.ensures ∙ c.in_ok-are_decimals.was;
      };
      decimals_are = same;
    }

pub returns-in_err-are_decimals-clause-refused : goal.returns-in_err-are_decimals-clause-refused
returns-in_err-are_decimals-clause-refused c =
    let same = sym c.decimals-decimals.ensures.value in
    let p = err_from_is_err_and c.from_residual.result c.from_residual.ensures.1 in
    rw (p.1, p.2) (λ end e.
    no_tariff-decimals c.args.found c.args.text.now (tree_of c.in-Ok.checked) end c.in-Ok.ensures.found
    (ap (are_decimals c.args.found) same ∙ sym c.are_decimals.ensures ∙ c.in_err-are_decimals.was
    ∙ ap Err (same_fault _ _ _ refl e)))

pub returns-in-Err-clause-memory : goal.returns-in-Err-clause-memory
returns-in-Err-clause-memory c = λ e.
    c.in-Err.ensures.memory (ap Err (no_memory-text c.in-Err.fault (sym c.refused_by.ensures ∙ same_fault _ _ _ refl e)))
