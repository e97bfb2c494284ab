use Rattle.std.proofs.Common.{◌∙◌, ◌≡◌, Err, ap, refl, sym}
use Rattle.{call_ends.proofs.Laws.{same_fault}, store_commands.proofs.SealedTariffs.{no_memory-text}}
use Rattle.store_commands.proofs.sealed_tariff.tariff_of.Goals as goal

pub returns-in-Err-clause-memory : goal.returns-in-Err-clause-memory
returns-in-Err-clause-memory c = λ e.
    c.in-Err.ensures.memory (ap Err (no_memory-text c.in-Err.fault (sym c.refused_by.ensures ∙ same_fault _ _ _ refl e)))
