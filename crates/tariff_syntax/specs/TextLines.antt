-- Rules: the lines of a text of a tariff.
use Rattle.std.specs.Prelude.{[], ℕ, ◌++◌, ◌==◌, ◌∷◌, ◌≡◌, ◌≢◌, ◌⊎◌, All, Bool, List, if◌then◌else◌, not}

-- a byte in front of lines begins the first of them, or is a line if there is none
abbrev pub in_front : ℕ → List (List ℕ) → List (List ℕ)
in_front c [] = (c ∷ []) ∷ []
in_front c (text ∷ texts) = (c ∷ text) ∷ texts

-- each line of a text ends with a line feed; the last one may end with the text
abbrev pub lines_of : List ℕ → List (List ℕ)
lines_of [] = []
lines_of (c ∷ cs) = if c == 10 then [] ∷ lines_of cs else in_front c (lines_of cs)

-- a byte is within a line if it is no line feed
abbrev pub is_inner : ℕ → List ℕ → Bool
is_inner c rest = not (c == 10)

-- a text is one line if no byte of it is a line feed
abbrev pub IsLine : List ℕ → Type 0
IsLine text = All (λ (c : ℕ). c ≢ 10) text

-- lines are those of a text if the text is the lines, each followed by a line feed; the last may end with the text
-- instead, if it isn't empty
abbrev pub AreLines : (text : List ℕ) → List (List ℕ) → Type 0
AreLines text [] = text ≡ []
AreLines text (line ∷ lines) =
    IsLine line
    × (((text ≡ line) × (line ≢ []) × (lines ≡ []))
    ⊎ ((rest : List ℕ) × (text ≡ line ++ 10 ∷ rest) × AreLines rest lines))
