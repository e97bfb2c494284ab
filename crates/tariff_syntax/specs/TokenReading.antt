-- For proofs: the tokens of a line, read one after another. The law texts_are_parsed_as_they_read says what the answers
-- mean.
use Rattle.std.specs.{Char.{is_ascii_digit, is_ascii_lowercase}, Prelude.{suc, take, zero}}
use Rattle.std.specs.Prelude.{[], ℕ, ◌&&◌, ◌+◌, ◌==◌, ◌∷◌, Bool, List, None, Option, Some, drop, if◌then◌else◌, length}
use Rattle.tariff_syntax.specs.Token.{Token, figure, goes_on, is_blank, is_letter, sign, word}

-- the number of bytes at the front of a text that pass a test, which also sees what stands after the byte
abbrev pub run_end : (ℕ → List ℕ → Bool) → List ℕ → ℕ
run_end test [] = 0
run_end test (c ∷ cs) = if test c cs then 1 + run_end test cs else 0

-- the number of bytes of the sign that begins with a byte: two for `..`, and else one
abbrev pub sign_end : ℕ → List ℕ → ℕ
sign_end c [] = 1
sign_end c (d ∷ ds) = if c == 46 && d == 46 then 2 else 1

-- the token of a kind that is the first `end` bytes of a text, and the rest
abbrev pub cut_token : (List ℕ → Token) → List ℕ → ℕ → Token × List ℕ
cut_token kind text end = (kind (take end text), drop end text)

-- the token at the front of a text that begins with no blank, and the rest; none at the text's end and before a comment
abbrev pub token_here : List ℕ → Option (Token × List ℕ)
token_here [] = None
token_here (c ∷ cs) =
    if c == 35 then None
    else (if is_ascii_lowercase c then Some (cut_token word (c ∷ cs) (run_end is_letter (c ∷ cs)))
    else (if is_ascii_digit c then Some (cut_token figure (c ∷ cs) (run_end goes_on (c ∷ cs)))
    else Some (cut_token sign (c ∷ cs) (sign_end c cs))))

-- the first token of a text, behind its blanks, and the rest
unfoldable pub token_at : List ℕ → Option (Token × List ℕ)
token_at text = token_here (drop (run_end is_blank text) text)

-- the first token and those that `more` gives of the rest, or none if there is no first
abbrev pub token_before : (List ℕ → List Token) → Option (Token × List ℕ) → List Token
token_before more None = []
token_before more (Some first) = first.0 ∷ more first.1

-- the first tokens of a text, at most `most` of them
unfoldable pub tokens_within : (most : ℕ) → List ℕ → List Token
tokens_within zero text = []
tokens_within (suc most) text = token_before (tokens_within most) (token_at text)

-- all tokens of a text, which are no more than its bytes
unfoldable pub tokens_of : List ℕ → List Token
tokens_of text = tokens_within (length text) text
