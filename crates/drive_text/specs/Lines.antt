-- Rules: the lines of a text, each of which an LF ends, and one CR directly before it is no part of it.
use Rattle.std.specs.{List.{slice_split}, Str.Lines.{strip_carriage_return}}
use Rattle.std.specs.Prelude.{[], ℕ, ◌&&◌, ◌++◌, ◌==◌, ◌∷◌, Bool, List, false, flat_map, length, nat_lt, not}
pub use Rattle.taxi_units.specs.PartedBytes.{HasNone}

-- all but the last of a list of parts are its parts without the last one, and nothing if there is none
abbrev pub all_but_last : List (List ℕ) → List (List ℕ)
all_but_last [] = []
all_but_last (part ∷ []) = []
all_but_last (part ∷ next ∷ parts) = part ∷ all_but_last (next ∷ parts)

-- the last of a list of parts is its last part, and is empty if there is none
abbrev pub last_of : List (List ℕ) → List ℕ
last_of [] = []
last_of (part ∷ []) = part
last_of (part ∷ next ∷ parts) = last_of (next ∷ parts)

-- the ended lines of a text are those that an LF ends, without their LF
abbrev pub ended_lines : List ℕ → List (List ℕ)
ended_lines bytes = all_but_last (slice_split (λ b. b == 10) bytes)

-- the unfinished line of a text is its bytes behind the last LF
abbrev pub unfinished_line : List ℕ → List ℕ
unfinished_line bytes = last_of (slice_split (λ b. b == 10) bytes)

-- a line is a comment if it begins with #
abbrev pub is_comment : List ℕ → Bool
is_comment [] = false
is_comment (c ∷ cs) = c == 35

-- a line is too long if it is no comment and has more than 80 bytes, not counting a CR at its end
abbrev pub is_too_long : List ℕ → Bool
is_too_long line = nat_lt 80 (length (strip_carriage_return line)) && not (is_comment line)

-- the text of some ended lines and an unfinished one is each ended line with an LF behind it, and then the unfinished
-- one
abbrev pub text_of : List (List ℕ) → List ℕ → List ℕ
text_of lines unfinished = flat_map (λ line. line ++ 10 ∷ []) lines ++ unfinished

-- bytes are one line if they have no LF
abbrev pub IsOneLine : List ℕ → Type 0
IsOneLine line = HasNone 10 line
