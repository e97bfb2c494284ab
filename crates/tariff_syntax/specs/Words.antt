-- For proofs: the word, the sign or the figure that stands first in a list of tokens. The law
-- texts_are_parsed_as_they_read says what the answers mean.
use Rattle.std.specs.{Prelude.{[], ℕ, ◌∷◌, List, None, Option, Some, if◌then◌else◌}, Str.{bytes_eq}}
use Rattle.tariff_syntax.specs.Token.{Token, figure, sign, word}

-- the tokens after the word, if it stands first
unfoldable pub after_word : (text : List ℕ) → List Token → Option (List Token)
after_word text [] = None
after_word text (word w ∷ ts) = if bytes_eq w text then Some ts else None
after_word text (figure f ∷ ts) = None
after_word text (sign s ∷ ts) = None

-- the tokens after the sign, if it stands first
unfoldable pub after_sign : (text : List ℕ) → List Token → Option (List Token)
after_sign text [] = None
after_sign text (word w ∷ ts) = None
after_sign text (figure f ∷ ts) = None
after_sign text (sign s ∷ ts) = if bytes_eq s text then Some ts else None

-- the word that stands first, and the tokens after it
unfoldable pub word_first : List Token → Option (List ℕ × List Token)
word_first [] = None
word_first (word w ∷ ts) = Some (w, ts)
word_first (figure f ∷ ts) = None
word_first (sign s ∷ ts) = None

-- the figure that stands first, and the tokens after it
unfoldable pub figure_first : List Token → Option (List ℕ × List Token)
figure_first [] = None
figure_first (word w ∷ ts) = None
figure_first (figure f ∷ ts) = Some (f, ts)
figure_first (sign s ∷ ts) = None

-- what was found, if no token stands after it
abbrev pub ended : {A B : Type 0} → List B → A → Option A
ended [] x = Some x
ended (t ∷ ts) x = None
