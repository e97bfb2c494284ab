-- Rules: the lines, keys and numbers of a text of parameters, in words that share nothing with how it is read.
use Rattle.std.specs.{Prelude.{[], ℕ, ◌++◌, ◌+◌, ◌∷◌, ◌≡◌, Err, List, Ok, length}, Str.Lines.{strip_carriage_return}}
use Rattle.seal_record.specs.{Common.{ParamFault}, ParamsSoFar.{ParamsSoFar}}
pub use Rattle.{taxi_units.specs.PartedBytes.{HasNone}, seal_record.specs.ParamLineStages.{line_read}}
pub use Rattle.seal_record.specs.Reading.{lines_read}

-- lines are those of a text if an LF ends each but the last, and what stands behind the last LF is the last line as it
-- is; one CR directly before an LF is no part of its line
pub data AreLines : List ℕ → List (List ℕ) → Type 0 where
  last : (line : List ℕ) → HasNone 10 line → AreLines line (line ∷ [])
  ended : (line rest : List ℕ) (lines : List (List ℕ)) → HasNone 10 line → AreLines rest lines
      → AreLines (line ++ 10 ∷ rest) (strip_carriage_return line ∷ lines)

-- a line is parted into its key and its value if one blank stands between them and the key has none; without a blank
-- it is its key alone
pub data IsParted : List ℕ → (key value : List ℕ) → Type 0 where
  parted : (key value : List ℕ) → HasNone 32 key → IsParted (key ++ 32 ∷ value) key value
  alone : (key : List ℕ) → HasNone 32 key → IsParted key key []

-- lines break at a fault if all lines before one of them are good, and that line, numbered behind them, has the
-- fault; `lines_read` and `line_read` give what lines and a line say or their fault, as the laws
-- lines_say_their_parameter and bad_lines_have_their_fault say
pub record BreaksAt (said : ParamsSoFar) (number : ℕ) (lines : List (List ℕ)) (fault : ParamFault) : Type 0 where
  pub before : List (List ℕ)
  pub line : List ℕ
  pub after : List (List ℕ)
  pub so_far : ParamsSoFar
  pub lines_are : lines ≡ before ++ line ∷ after
  pub good : lines_read said number before ≡ Ok so_far
  pub bad : line_read so_far (number + length before) line ≡ Err fault
