-- Rules: the command `check TARIFF`.
use Rattle.std.specs.Prelude.{◌+◌, ◌≤◌, Err, Ok, Result}
use Rattle.tariff_commands.specs.Common.{Answer, Command, Refusal, Tree, bad_tariff, shows_line, sound_line, sound_of}
use Rattle.tariff_commands.specs.Common.{tariff_in, word_command}

-- the answer to a sound tariff says how many cells it has and its common measure; to another text, why it has none
abbrev pub check_answer : Result Tree Refusal → Answer
check_answer (Err why) = bad_tariff why
check_answer (Ok t) = shows_line (sound_line (sound_of t).cells (sound_of t).measure)

-- the command `check` reads its tariff and prints one line, in one step at most
abbrev pub check_command : Command
check_command = record (word_command (λ text. check_answer (tariff_in text))) {
  steps = λ files_tell image_told contents left image before now. now ≤ before + 1;
}
