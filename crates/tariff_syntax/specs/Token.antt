-- Rules: the tokens of a line.
use Rattle.std.specs.Char.{is_ascii_digit, is_ascii_lowercase}
use Rattle.std.specs.Prelude.{[], ℕ, ◌&&◌, ◌==◌, ◌||◌, ◌∷◌, Bool, List, false}
use Rattle.tariff_syntax.specs.declared.tokens.Token.{Token as Piece, TheVariants.{Figure, Sign, Word}}

-- a token is a word, which is letters, a figure, which begins with a digit, or a sign, which is any other text
pub data Token : Type 0 where
  word : (text : List ℕ) → Token
  figure : (text : List ℕ) → Token
  sign : (text : List ℕ) → Token

-- a value of the program stands for the token of the same kind and text
abbrev pub token_of : Piece → Token
token_of (Word text) = word text.now
token_of (Figure text) = figure text.now
token_of (Sign text) = sign text.now

-- a byte is a blank if it is a space, a tab or a carriage return
abbrev pub is_blank : ℕ → List ℕ → Bool
is_blank c rest = c == 32 || (c == 9 || c == 13)

-- a byte is a letter if it is a to z
abbrev pub is_letter : ℕ → List ℕ → Bool
is_letter c rest = is_ascii_lowercase c

-- a text begins with a digit if its first byte is one
abbrev pub begins_with_digit : List ℕ → Bool
begins_with_digit [] = false
begins_with_digit (c ∷ cs) = is_ascii_digit c

-- a figure goes on over digits, `:`, `-`, and a `.` that a digit follows directly
abbrev pub goes_on : ℕ → List ℕ → Bool
goes_on c rest = is_ascii_digit c || (c == 58 || (c == 45 || (c == 46 && begins_with_digit rest)))
