-- Rules: commands that make a whole text of their files in memory, and then print it.
use Rattle.std.specs.Prelude.{[], ℕ, ◌+◌, ◌≡◌, ◌≤◌, ◌⊎◌, List, None, Option, length}
use Rattle.call_ends.specs.{Answer.{Answer}, Stream.{Stream}}
use Rattle.call_ends.specs.{Course.{Command}, Pieces.{pieces_of}, Plan.{ComesTo, HasWord, Last, Plan, turn_in}}

-- a command that makes a text reads the words of its plan, and prints in as few pieces as it can, in a step for each
-- and one for the last line; with the status 0 or 11 it has read all; it opens no store
abbrev pub text_command : Plan → (drive : Option Stream)
    → (may_lack : (contents : ℕ → List ℕ) (taken : List ℕ) → Type 0) → (answer : (ℕ → List ℕ) → Answer) → Command
text_command plan drive may_lack answer = record {
  answer = λ contents image. answer contents;
  drive = drive;
  shown = λ contents image taken. [];
  reads = HasWord plan;
  turn = turn_in plan;
  reads_all = λ status. (status ≡ 0) ⊎ (status ≡ 11);
  comes_to = ComesTo plan;
  may_lack = λ contents image taken. may_lack contents taken;
  told = λ files_tell image_told. files_tell;
  opens = ⊥;
  writes = λ ended. ⊥;
  steps = λ files_tell image_told contents left image before now.
      files_tell → now ≤ before + 1 + pieces_of (length (answer contents).shown);
}

-- a command that makes its text of the file of word 1 alone
abbrev pub word_command : (answer : (text : List ℕ) → Answer) → Command
word_command answer = text_command (Last 1 (λ contents image taken. Unit {0})) None (λ contents taken. Unit {0})
    (λ contents. answer (contents 1))
