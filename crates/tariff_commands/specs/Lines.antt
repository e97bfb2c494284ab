-- Rules: the command `lines TARIFF CONSTANT`.
use Rattle.{std.specs.Prelude.{ℕ, Err, Ok, Result}, tariff_compare.specs.{Texts.{uses_text}, Uses.{uses_of}}}
use Rattle.tariff_commands.specs.Common.{Answer, Command, Refusal, Tree, bad_tariff, shows, tariff_in, word_command}

-- the answer to a sound tariff shows, for each line of a kind of which the first that holds counts, the first context
-- of a meter in which that line counts, if there is one. To another text it says why it has no sound tariff.
abbrev pub lines_answer : (k : ℕ) → Result Tree Refusal → Answer
lines_answer k (Err why) = bad_tariff why
lines_answer k (Ok t) = shows (uses_text (uses_of t k))

-- the command `lines` reads its tariff and prints the text, in a step for each piece and one for the last line
abbrev pub lines_command : (k : ℕ) → Command
lines_command k = word_command (λ text. lines_answer k (tariff_in text))
