-- Rules: the command `near TARIFF`.
use Rattle.std.specs.Prelude.{ℕ, ◌++◌, Err, List, Ok, Result, codes, decimal, if◌then◌else◌, length, nat_lt}
use Rattle.{tariff_syntax.specs.{Parsed.{tree_parsed}, Printed.{printed_form}}, call_ends.specs.Answer.{Answer, shows}}
use Rattle.call_ends.specs.Course.{Command}
use Rattle.call_ends.specs.{TextCommands.{word_command}, declared.tariff.Refusal.TheVariants.{Unsound}}
use Rattle.near_commands.specs.Common.{CheckFault, Measures, Syntax, TooLong, Tree, bad_tariff, rates_of}
use Rattle.near_commands.specs.NearTariff.{greatest_share, near_measures, near_tariff}

-- the first line is a comment that says how far the amounts are off
unfoldable pub share_line : ℕ → List ℕ
share_line share = codes "# each amount is within " ++ (decimal share ++ codes " in 1000000000\n")

-- the near text of a tariff for measures is the line of the share, and the printed form of the near tariff
abbrev pub near_text : Measures → Tree → List ℕ
near_text m t = share_line (greatest_share m (rates_of t.lines)) ++ printed_form (near_tariff m t)

-- the answer to a tariff that has measures shows its near text for these, and else it says why it has none
abbrev pub near_for : Tree → Result Measures CheckFault → Answer
near_for t (Err fault) = bad_tariff (Unsound fault)
near_for t (Ok m) = shows (near_text m t)

-- the answer to a text that has a bad line says which
abbrev pub near_of : Result Tree ℕ → Answer
near_of (Err line) = bad_tariff (Syntax line)
near_of (Ok t) = near_for t (near_measures t)

-- the answer to a text is that to the tariff that it reads as, unless it has more than 65,536 bytes. `tree_parsed`
-- gives the tariff or the first bad line, as the law texts_are_parsed_as_they_read of tariff_syntax says
abbrev pub near_in : List ℕ → Answer
near_in text = if nat_lt 65536 (length text) then bad_tariff TooLong else near_of (tree_parsed text)

-- the command `near` reads its tariff and prints the text, in a step for each piece and one for the last line
abbrev pub near_command : Command
near_command = word_command near_in
