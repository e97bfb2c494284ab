-- For proofs: what the command `faults` found of a text. Faults says what it answers.
use Rattle.std.specs.Prelude.{[], ℕ, ◌≡◌, Err, List, None, Ok, Some, map}
use Rattle.tariff_commands.specs.Common.{CheckFault, Ended, Refusal, Tree, Unsound, all_faults, fault_of, sound_of}
use Rattle.tariff_commands.specs.{Common.{tariff_in}, declared.faults.Found.{Found, TheVariants.{Faults, Sound}}}
use Rattle.tariff_commands.specs.Faults.{refusal_lines, refusals_in}
use Rattle.call_ends.specs.declared.ending.Ended.TheVariants as ended

-- numbers are those of a tariff if they are its cells and its common measure
pub record AreNumbersOf (t : Tree) (cells measure : ℕ) : Type 0 where
  pub cells_are : cells ≡ (sound_of t).cells
  pub measure_is : measure ≡ (sound_of t).measure

-- a tariff was found sound, with its numbers
pub record IsSoundTree (t : Tree) (cells measure : ℕ) : Type 0 where
  pub sound : fault_of t ≡ None
  pub numbers : AreNumbersOf t cells measure

-- a tariff was found to have faults, and these are their lines
pub record HasLines (t : Tree) (lines : List ℕ) : Type 0 where
  pub first : CheckFault
  pub unsound : fault_of t ≡ Some first
  pub are : lines ≡ refusal_lines (map Unsound (all_faults t.lines))

-- what was found is true of a tariff
abbrev pub IsFoundOf : Tree → Found → Type 0
IsFoundOf t (Sound cells measure) = IsSoundTree t cells measure
IsFoundOf t (Faults lines) = HasLines t lines.items

-- a text was found to have a sound tariff, with its numbers
pub record IsSoundText (text : List ℕ) (cells measure : ℕ) : Type 0 where
  pub tree : Tree
  pub reads : tariff_in text ≡ Ok tree
  pub numbers : AreNumbersOf tree cells measure

-- a text was found to be refused, and these are the lines of its refusals
pub record IsRefusedText (text lines : List ℕ) : Type 0 where
  pub why : Refusal
  pub refused : tariff_in text ≡ Err why
  pub are : lines ≡ refusal_lines (refusals_in text)

-- what was found is true of a text
abbrev pub IsFoundIn : (text : List ℕ) → Found → Type 0
IsFoundIn text (Sound cells measure) = IsSoundText text cells measure
IsFoundIn text (Faults lines) = IsRefusedText text lines.items

-- what is printed of what was found, and how the command ends behind it
abbrev pub found_text : Found → List ℕ
found_text (Sound cells measure) = []
found_text (Faults lines) = lines.items

abbrev pub found_end : Found → Ended
found_end (Sound cells measure) = ended.Sound cells measure
found_end (Faults lines) = ended.Faulty
