-- For proofs: how the reader counts a condition, before it reads it, by the words and signs with which its parts begin.
use Rattle.std.specs.{Prelude.{[], ℕ, ◌+◌, ◌||◌, ◌∷◌, Bool, List, codes, if◌then◌else◌}, Str.{bytes_eq}}
use Rattle.tariff_syntax.specs.Token.{Token, figure, sign, word}

-- a test whether an atom or a `not` begins with the word
abbrev pub is_counted : List ℕ → Bool
is_counted name =
    bytes_eq name (codes "not")
    || (bytes_eq name (codes "position") || (bytes_eq name (codes "zone") || (bytes_eq name (codes "time")
    || (bytes_eq name (codes "day")
    || (bytes_eq name (codes "date") || (bytes_eq name (codes "holiday") || bytes_eq name (codes "after")))))))

-- the count of a token, which is 1 if an atom, a `not` or a `(` begins with it, and else 0
abbrev pub token_weight : Token → ℕ
token_weight (word name) = if is_counted name then 1 else 0
token_weight (figure text) = 0
token_weight (sign text) = if bytes_eq text (codes "(") then 1 else 0

-- the number of atoms, `not` and `(` that begin in the tokens
abbrev pub weight : List Token → ℕ
weight [] = 0
weight (t ∷ ts) = token_weight t + weight ts
