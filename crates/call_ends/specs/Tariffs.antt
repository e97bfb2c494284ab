-- Rules: the tariff of a text, and what is answered if there is none.
use Rattle.std.specs.Prelude.{ℕ, ◌≡◌, ◌≤◌, Err, List, None, Ok, Option, Result, Some, if◌then◌else◌, length, nat_lt}
use Rattle.{tariff_tree.specs.Tree.{Tree}, tariff_syntax.specs.Parsed.{tree_parsed}}
use Rattle.{tariff_check.specs.Faults.{fault_of}, call_ends.specs.LastLine.{bad_other_line, bad_tariff_line}}
use Rattle.call_ends.specs.{Answer.{Answer, refuses}, Common.{CheckFault, Refusal, Syntax, TooLong, Unsound}}

-- a tariff is sound if it has no fault, and else refused for its first fault
abbrev pub sound_in : Tree → Option CheckFault → Result Tree Refusal
sound_in t None = Ok t
sound_in t (Some fault) = Err (Unsound fault)

-- a tariff that was read is sound or refused, and a text that has a bad line is refused for the first one
abbrev pub checked_in : Result Tree ℕ → Result Tree Refusal
checked_in (Ok t) = sound_in t (fault_of t)
checked_in (Err line) = Err (Syntax line)

-- the tariff of a text is the sound one that the text reads as. The text is refused if it has more than 65,536 bytes,
-- has a bad line, or its tariff has a fault. `tree_parsed` gives the tariff or the first bad line, as the law
-- texts_are_parsed_as_they_read of tariff_syntax says
abbrev pub tariff_in : List ℕ → Result Tree Refusal
tariff_in text = if nat_lt 65536 (length text) then Err TooLong else checked_in (tree_parsed text)

-- a text has a tariff if it reads as a sound one
pub record HasTariff (text : List ℕ) : Type 0 where
  pub tree : Tree
  pub reads : tariff_in text ≡ Ok tree

-- a text is one of tariff lines if it has at most 65,536 bytes, and reads as a tariff, sound or not
pub record IsOfLines (text : List ℕ) : Type 0 where
  pub few : length text ≤ 65536
  pub tree : Tree
  pub reads : tree_parsed text ≡ Ok tree

-- the answer to a text without a sound tariff says why, with the status 2
abbrev pub bad_tariff : Refusal → Answer
bad_tariff why = refuses 2 (bad_tariff_line why)

-- the answer to two texts of which the other one has no sound tariff says why, with the status 2
abbrev pub bad_other : Refusal → Answer
bad_other why = refuses 2 (bad_other_line why)
