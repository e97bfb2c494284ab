-- Rules: the command `form TARIFF`.
use Rattle.std.specs.Prelude.{ℕ, Err, List, Ok, Result, if◌then◌else◌, length, nat_lt}
use Rattle.{tariff_syntax.specs.Parsed.{tree_parsed}, tariff_commands.specs.Common.{shows, word_command}}
use Rattle.tariff_commands.specs.Common.{Answer, Command, Refusal, Syntax, TooLong, Tree, bad_tariff, printed_form}

-- a tariff that was read is taken as it is, and else the text is refused for its first bad line
abbrev pub or_syntax : Result Tree ℕ → Result Tree Refusal
or_syntax (Ok t) = Ok t
or_syntax (Err line) = Err (Syntax line)

-- a text has the tariff that it reads as, sound or not, or is refused because it has more than 65,536 bytes or a bad
-- line. `tree_parsed` gives the tariff or the first bad line, as the law texts_are_parsed_as_they_read of tariff_syntax
-- says
abbrev pub tree_in : List ℕ → Result Tree Refusal
tree_in text = if nat_lt 65536 (length text) then Err TooLong else or_syntax (tree_parsed text)

-- the answer to a tariff shows its printed form; to another text, it says why it has none
abbrev pub form_answer : Result Tree Refusal → Answer
form_answer (Err why) = bad_tariff why
form_answer (Ok t) = shows (printed_form t)

-- the command `form` reads its tariff and prints the printed form, in a step for each piece and one for the last line
abbrev pub form_command : Command
form_command = word_command (λ text. form_answer (tree_in text))
