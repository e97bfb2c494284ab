-- For proofs: the lines of a parameter text, and what a line is parted into. The law texts_say_parameters_line_by_line
-- says which they are.
use Rattle.std.specs.List.{slice_split}
use Rattle.std.specs.{Prelude.{[], ℕ, ◌==◌, ◌∷◌, Bool, List, if◌then◌else◌, true}, Str.Lines.{strip_carriage_return}}

-- the lines of the parts between LFs are those parts, without one CR at the end of each but the last
abbrev pub without_ends : List (List ℕ) → List (List ℕ)
without_ends [] = []
without_ends (part ∷ []) = part ∷ []
without_ends (part ∷ next ∷ parts) = strip_carriage_return part ∷ without_ends (next ∷ parts)

-- the lines of a text are those of its parts between LFs
abbrev pub lines_of : List ℕ → List (List ℕ)
lines_of text = without_ends (slice_split (λ b. b == 10) text)

-- a test whether a line is passed over, being empty or beginning with #
abbrev pub is_passed : List ℕ → Bool
is_passed [] = true
is_passed (c ∷ cs) = c == 35

-- what stands before the first byte of this value, or all bytes if there is none
abbrev pub before : (byte : ℕ) → List ℕ → List ℕ
before byte [] = []
before byte (c ∷ cs) = if c == byte then [] else c ∷ before byte cs

-- the key of a line is what stands before its first blank, or the whole line if it has none
abbrev pub key_in : List ℕ → List ℕ
key_in line = before 32 line

-- the value of a line is what stands behind its first blank, and nothing if it has none
abbrev pub value_in : List ℕ → List ℕ
value_in [] = []
value_in (c ∷ cs) = if c == 32 then cs else value_in cs
