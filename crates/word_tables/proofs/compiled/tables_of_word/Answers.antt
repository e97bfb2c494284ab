use Rattle.std.{specs.Prelude.{IfOk}, proofs.Common.{ℕ, ◌∙◌, List, subst}}
use Rattle.word_tables.specs.TableSteps.{AreTablesIn}
use Rattle.word_tables.proofs.compiled.tables_of_word.Goals as goal

pub returns-clause-found : goal.returns-clause-found
returns-clause-found g c = λ tells.
    subst (λ (text : List ℕ). IfOk c.tables_of_text.result (AreTablesIn c.args.constant text))
    (c.as_slice.ensures.value ∙ c.in_ok-text.ensures.text tells) c.tables_of_text.ensures.found
