-- Rules: what the whole text of a drive says, line by line, and what pieces of it give.
use Rattle.std.specs.Prelude.{[], ℕ, ◌++◌, ◌+◌, ◌∷◌, ◌≡◌, ◌⊎◌, All, List, None, Option, Some, false, flat_map, length}
use Rattle.{std.specs.{Prelude.{true}, Str.Lines.{strip_carriage_return}}, drive_text.specs.declared.run.Run.{Run}}
use Rattle.drive_text.specs.{Drive.{runs_after}, Lines.{IsOneLine, is_too_long, text_of}, Table.{Means}}

-- lines give runs if each line gives what the table says of it, after one CR at its end is dropped, one after another
pub data GiveAll : List (List ℕ) → List Run → Type 0 where
  no_line : GiveAll [] []
  one_more : (line : List ℕ) (lines : List (List ℕ)) (these others : List Run)
      → Means (strip_carriage_return line) these → GiveAll lines others → GiveAll (line ∷ lines) (these ++ others)

-- a line is bad if the table has no meaning for it, after one CR at its end is dropped
abbrev pub IsBad : List ℕ → Type 0
IsBad line = (runs : List Run) → ¬ (Means (strip_carriage_return line) runs)

-- bytes are good and give runs if their ended lines give the runs, and their unfinished line isn't too long so far
pub record IsGood (bytes : List ℕ) (runs : List Run) : Type 0 where
  pub lines : List (List ℕ)
  pub unfinished : List ℕ
  pub text : bytes ≡ text_of lines unfinished
  pub ended : All IsOneLine lines
  pub last : IsOneLine unfinished
  pub give : GiveAll lines runs
  pub short : is_too_long unfinished ≡ false

-- bytes have a bad line behind some good lines if the line is bad and an LF ends it, or no LF does and it is too long
abbrev pub HasBadLine : List ℕ → List (List ℕ) → List ℕ → Type 0
HasBadLine bytes lines line =
    ((behind : List ℕ) × (bytes ≡ text_of lines (line ++ 10 ∷ behind)) × IsBad line)
    ⊎ ((bytes ≡ text_of lines line) × (is_too_long line ≡ true))

-- bytes break at the line of a number if that line is bad and the lines before it are good and give the runs
pub record BreaksAt (bytes : List ℕ) (number : ℕ) (runs : List Run) : Type 0 where
  pub lines : List (List ℕ)
  pub line : List ℕ
  pub ended : All IsOneLine lines
  pub one : IsOneLine line
  pub give : GiveAll lines runs
  pub number_is : number ≡ length lines + 1
  pub bad : HasBadLine bytes lines line

-- bytes are read as good with their runs if no line is bad, and else as the number of their first bad line and the runs
-- before it
abbrev pub IsReadAs : List ℕ → Option ℕ → List Run → Type 0
IsReadAs bytes None runs = IsGood bytes runs
IsReadAs bytes (Some number) runs = BreaksAt bytes number runs

-- bytes end whole with runs if all their lines are ended and give the runs
pub record EndsWhole (bytes : List ℕ) (runs : List Run) : Type 0 where
  pub lines : List (List ℕ)
  pub text : bytes ≡ text_of lines []
  pub ended : All IsOneLine lines
  pub give : GiveAll lines runs

-- the bytes of some pieces are the bytes of each piece, one after another
abbrev pub bytes_of : List (List ℕ) → List ℕ
bytes_of pieces = flat_map (λ piece. piece) pieces

-- the runs that are given by pieces, taken in turn after other bytes, are those that each piece adds to the bytes
-- before it
abbrev pub given_by : List ℕ → List (List ℕ) → List Run
given_by before [] = []
given_by before (piece ∷ pieces) = runs_after before piece ++ given_by (before ++ piece) pieces
