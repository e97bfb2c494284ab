-- For proofs: a line that is read in one pass from the front of bytes. What a line gives is told by the law
-- lines_give_what_the_table_says.
use Rattle.std.specs.Prelude.{[], ℕ, ◌++◌, ◌∷◌, ◌≡◌, List, Some}
use Rattle.{taxi_units.specs.Digits.{AreDigitsOf}, drive_text.specs.{Fields.{line_runs}, declared.run.Run.{Run}}}
use Rattle.drive_text.specs.Lines.{IsOneLine}

-- bytes begin with a short number if 1 to 5 digits of it are in front of the rest
pub record BeginsWithNumber (bytes : List ℕ) (number : ℕ) (rest : List ℕ) : Type 0 where
  pub digits : List ℕ
  pub split : bytes ≡ digits ++ rest
  pub written : AreDigitsOf 1 5 digits number

-- bytes begin with the line of a run if a line that gives this run alone is in front of the rest, ended by an LF
pub record BeginsWithLine (bytes : List ℕ) (run : Run) (rest : List ℕ) : Type 0 where
  pub line : List ℕ
  pub split : bytes ≡ line ++ 10 ∷ rest
  pub one : IsOneLine line
  pub gives : line_runs line ≡ Some (run ∷ [])
