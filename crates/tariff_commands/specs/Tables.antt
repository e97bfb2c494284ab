-- Rules: the command `tables TARIFF CONSTANT`.
use Rattle.std.specs.Prelude.{ℕ, ◌+◌, ◌≤◌, Err, Ok, Result}
use Rattle.{tariff_compile.specs.Tables.{tables_of}, tariff_commands.specs.Common.{tariff_in, word_command}}
use Rattle.tariff_commands.specs.Common.{Answer, Command, Refusal, Tree, bad_tariff, row_count, rows_text, shows}

-- the answer to a sound tariff shows the rows of its tables under a constant; to another text, it says why it has none
abbrev pub tables_answer : (k : ℕ) → Result Tree Refusal → Answer
tables_answer k (Err why) = bad_tariff why
tables_answer k (Ok t) = shows (rows_text (tables_of t k))

-- the number of rows under a constant is that of a sound tariff's tables, and 0 for another text
abbrev pub rows_under : (k : ℕ) → Result Tree Refusal → ℕ
rows_under k (Err why) = 0
rows_under k (Ok t) = row_count (tables_of t k)

-- the command `tables` reads its tariff and prints each row by itself, in a step for each row and one for the last line
abbrev pub tables_command : (k : ℕ) → Command
tables_command k = record (word_command (λ text. tables_answer k (tariff_in text))) {
  steps = λ files_tell image_told contents left image before now.
      files_tell → now ≤ before + 1 + rows_under k (tariff_in (contents 1));
}
