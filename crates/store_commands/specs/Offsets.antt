-- Rules: the command `offsets RULES FROM TO`.
use Rattle.std.specs.Prelude.{[], ℕ, ◌+◌, ◌≡◌, ◌≤◌, Err, None, Ok, Result}
use Rattle.offset_rules.specs.{Pairs.{pairs_of}, Reading.{rules_read}, Texts.{offset_lines}}
use Rattle.call_ends.specs.{Answer.{refuses}, LastLine.{bad_rules_line}}
use Rattle.store_commands.specs.Common.{Answer, Command, Rule, RuleFault, shows}

-- the answer to a first and a last year shows the list of offsets that the rules give for these years, or says why the
-- rules aren't accepted
abbrev pub offsets_answer : (years : ℕ × ℕ) → Result Rule RuleFault → Answer
offsets_answer years (Err fault) = refuses 17 (bad_rules_line fault)
offsets_answer years (Ok rule) = shows (offset_lines (pairs_of rule years.0 years.1))

-- the command `offsets` reads its rules, prints each line by itself and takes no memory, in at most 31 steps and one
-- for the last line. `rules_read` gives the rule of a text or its fault, as the law texts_say_rules_line_by_line of
-- offset_rules says
abbrev pub offsets_command : (years : ℕ × ℕ) → Command
offsets_command years = record {
  answer = λ contents image. offsets_answer years (rules_read (contents 1));
  drive = None;
  shown = λ contents image taken. [];
  reads = λ word. word ≡ 1;
  turn = λ word. word;
  reads_all = λ status. status ≡ 0;
  comes_to = λ contents image word taken. word ≡ 1;
  may_lack = λ contents image taken. ⊥;
  told = λ files_tell image_told. files_tell;
  opens = ⊥;
  writes = λ ended. ⊥;
  steps = λ files_tell image_told contents left image before now. now ≤ before + 31 + 1;
}
