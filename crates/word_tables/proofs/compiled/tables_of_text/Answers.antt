use Rattle.{std.proofs.Common.{ap, refl}, tariff_tree.specs.Tree.{tree_of}, tariff_compile.specs.Tables.{TableParts}}
use Rattle.call_ends.proofs.Laws.{no_fault, not_read-memory, same_fault}
use Rattle.word_tables.proofs.compiled.tables_of_text.Goals as goal

pub returns-in-Ok-clause-found : goal.returns-in-Ok-clause-found
returns-in-Ok-clause-found c = record {
  tree = tree_of c.in_ok-checked.checked;
  sound = c.in_ok-checked.ensures.found;
  compiled = c.in-Ok.ensures.tables;
  value = c.in-Ok.ensures.value;
}

pub returns-in-Ok-clause-constant : goal.returns-in-Ok-clause-constant
returns-in-Ok-clause-constant c = ap (λ (tables : TableParts). tables.constant) c.in-Ok.ensures.value

pub returns-in-Ok-clause-read : goal.returns-in-Ok-clause-read
returns-in-Ok-clause-read c = no_fault _ _ _ refl

pub returns-clause-read : goal.returns-clause-read
returns-clause-read c = λ e. not_read-memory (same_fault _ _ _ refl e)
