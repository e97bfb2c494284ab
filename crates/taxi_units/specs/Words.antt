-- Rules: which words are the same.
use Rattle.std.specs.{Cmp.Lexicographic.{pointwise}, Prelude.{ℕ, Bool, List, nat_eq}}

-- the test `is_word` is true if a word has the same bytes as a name
abbrev pub is_word : List ℕ → List ℕ → Bool
is_word word name = pointwise nat_eq word name
