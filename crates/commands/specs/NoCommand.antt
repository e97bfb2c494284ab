-- Rules: words that are no command.
use Rattle.std.specs.Prelude.{[], ◌+◌, ◌≡◌, ◌≤◌, None}
use Rattle.{call_ends.specs.{Answer.{Answer, refuses}, LastLine.{bad_words_line}}, commands.specs.Common.{Command}}

-- the answer to words that are no command is the status 1 and the last line `BAD WORDS`
abbrev pub bad_words : Answer
bad_words = refuses 1 bad_words_line

-- words that are no command are refused whatever the outside tells, and nothing is read
abbrev pub no_command : Command
no_command = record {
  answer = λ contents image. bad_words;
  drive = None;
  shown = λ contents image taken. [];
  reads = λ word. ⊥;
  turn = λ word. word;
  reads_all = λ status. status ≡ 0;
  comes_to = λ contents image word taken. ⊥;
  may_lack = λ contents image taken. ⊥;
  told = λ files_tell image_told. Unit {0};
  opens = ⊥;
  writes = λ ended. ⊥;
  steps = λ files_tell image_told contents left image before now. now ≤ before + 1;
}
