-- Rules: how tokens stand in a line.
use Rattle.std.specs.Char.{is_ascii_digit}
use Rattle.std.specs.Prelude.{[], ℕ, ⊤, ◌&&◌, ◌++◌, ◌<◌, ◌==◌, ◌∷◌, ◌≡◌, Bool, List, false, length, true}
use Rattle.tariff_syntax.specs.Token.{Token, begins_with_digit, figure, goes_on, is_blank, is_letter, sign, word}

-- a text before a rest is a run of a test if each of its bytes passes the test, which also sees what follows the byte,
-- and the first byte of the rest doesn't pass
abbrev pub IsRun : (ℕ → List ℕ → Bool) → (text rest : List ℕ) → Type 0
IsRun test [] [] = ⊤
IsRun test [] (c ∷ rest) = test c rest ≡ false
IsRun test (c ∷ text) rest = (test c (text ++ rest) ≡ true) × IsRun test text rest

-- a byte before a rest doesn't begin `..`
abbrev pub NoDots : ℕ → List ℕ → Type 0
NoDots c [] = ⊤
NoDots c (d ∷ rest) = (c == 46 && d == 46) ≡ false

-- a text before a rest is a sign if it is `..`, or one byte that is no blank, letter or digit, no `#`, and doesn't
-- begin `..`
abbrev pub IsSign : (text rest : List ℕ) → Type 0
IsSign [] rest = ⊥
IsSign (c ∷ []) rest =
    (is_blank c rest ≡ false) × ((c == 35) ≡ false) × (is_letter c rest ≡ false) × (is_ascii_digit c ≡ false)
    × NoDots c rest
IsSign (c ∷ d ∷ []) rest = (c ≡ 46) × (d ≡ 46)
IsSign (c ∷ d ∷ e ∷ text) rest = ⊥

-- a token has the text that it was made of
abbrev pub text_of : Token → List ℕ
text_of (word text) = text
text_of (figure text) = text
text_of (sign text) = text

-- a token before a rest is a word of letters as far as they go, a figure as far as it goes, or a sign
abbrev pub IsToken : Token → List ℕ → Type 0
IsToken (word text) rest = (0 < length text) × IsRun is_letter text rest
IsToken (figure text) rest = (begins_with_digit text ≡ true) × IsRun goes_on text rest
IsToken (sign text) rest = IsSign text rest

-- a text is the end of a line if it is empty or a comment
abbrev pub IsEnd : List ℕ → Type 0
IsEnd [] = ⊤
IsEnd (c ∷ rest) = c ≡ 35

-- a line is spelled by tokens if it is the tokens one after another, with any blanks before each and behind the
-- last, and perhaps a comment at its end
abbrev pub IsSpelled : List ℕ → List Token → Type 0
IsSpelled text [] =
    (blanks : List ℕ) × (rest : List ℕ) × (text ≡ blanks ++ rest) × IsRun is_blank blanks rest × IsEnd rest
IsSpelled text (t ∷ ts) =
    (blanks : List ℕ) × (rest : List ℕ) × (text ≡ blanks ++ (text_of t ++ rest))
    × IsRun is_blank blanks (text_of t ++ rest) × IsToken t rest × IsSpelled rest ts
