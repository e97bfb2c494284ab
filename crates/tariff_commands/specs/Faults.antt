-- Rules: the command `faults TARIFF`.
use Rattle.std.specs.{List.{flat_map}, Prelude.{[], ℕ, ◌∷◌, Err, List, Ok, Result, if◌then◌else◌, length, map, nat_lt}}
use Rattle.tariff_syntax.specs.{BadLines.{bad_lines}, Parsed.{tree_parsed}}
use Rattle.tariff_commands.specs.{Check.{check_answer}, Common.{bad_tariff_line, tariff_in, word_command}}
use Rattle.tariff_commands.specs.Common.{Answer, Command, Refusal, Syntax, TooLong, Tree, Unsound, all_faults}

-- a tariff that was read is refused for each of its faults, and else a text for each of its bad lines
abbrev pub refusals_of : (bad : List ℕ) → Result Tree ℕ → List Refusal
refusals_of bad (Ok t) = map Unsound (all_faults t.lines)
refusals_of bad (Err line) = map Syntax bad

-- a text is refused because it has more than 65,536 bytes, or else for each line that has no form, or else for each
-- fault of its tariff. `bad_lines` gives the numbers of the lines that have no form, as the law bad_lines_have_no_form
-- of tariff_syntax says
abbrev pub refusals_in : List ℕ → List Refusal
refusals_in text =
    if nat_lt 65536 (length text) then TooLong ∷ [] else refusals_of (bad_lines text) (tree_parsed text)

-- the lines of refusals are one for each
abbrev pub refusal_lines : List Refusal → List ℕ
refusal_lines whys = flat_map bad_tariff_line whys

-- the answer to a sound tariff is that of `check`, and to another text it shows the line of each refusal
abbrev pub faults_answer : List Refusal → Result Tree Refusal → Answer
faults_answer whys (Ok t) = check_answer (Ok t)
faults_answer whys (Err why) = record { status = 2; shown = refusal_lines whys; line = [] }

-- the answer to a text is that to its refusals and its tariff
abbrev pub faults_in : List ℕ → Answer
faults_in text = faults_answer (refusals_in text) (tariff_in text)

-- the command `faults` reads its tariff and prints the lines of its faults in as few pieces as it can be. It takes a
-- step for each piece, and one for the last line.
abbrev pub faults_command : Command
faults_command = word_command faults_in
