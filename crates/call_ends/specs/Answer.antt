-- Rules: what the program answers.
use Rattle.std.specs.Prelude.{[], ℕ, List}

-- an answer is a status, a text that is shown, and a last line, which may be empty
pub record Answer : Type 0 where
  pub status : ℕ
  pub shown : List ℕ
  pub line : List ℕ

-- the answer that shows a text has the status 0 and no last line
abbrev pub shows : List ℕ → Answer
shows text = record { status = 0; shown = text; line = [] }

-- the answer that says a line has the status 0 and shows nothing but the line
abbrev pub shows_line : List ℕ → Answer
shows_line line = record { status = 0; shown = []; line = line }

-- the answer that refuses its input has a status and a last line, and shows nothing else
abbrev pub refuses : ℕ → List ℕ → Answer
refuses status line = record { status = status; shown = []; line = line }
