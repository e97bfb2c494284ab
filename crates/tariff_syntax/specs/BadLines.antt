-- By law: the lines of a text that have no form, read line after line. The law bad_lines_have_no_form says which
-- they are.
use Rattle.std.specs.Prelude.{[], ℕ, ◌+◌, ◌∷◌, Bool, List, false, if◌then◌else◌, is_none}
use Rattle.tariff_syntax.specs.Items.{item_read}
use Rattle.tariff_syntax.specs.{Parsed.{heading_read}, TextLines.{lines_of}, Token.{Token}, TokenReading.{tokens_of}}

-- the tokens of a line are bad if there are some and they say no entry
abbrev pub is_bad : (decimals : ℕ) → List Token → Bool
is_bad decimals [] = false
is_bad decimals (t ∷ ts) = is_none (item_read decimals (t ∷ ts))

-- the numbers of the bad ones of texts that are numbered from `number` on
abbrev pub bad_from : (decimals number : ℕ) → List (List ℕ) → List ℕ
bad_from decimals number [] = []
bad_from decimals number (text ∷ texts) =
    if is_bad decimals (tokens_of text) then number ∷ bad_from decimals (number + 1) texts
    else bad_from decimals (number + 1) texts

-- the numbers of the bad ones of the texts below a heading
abbrev pub bad_below : ℕ × ℕ × List (List ℕ) → List ℕ
bad_below heading = bad_from heading.0 heading.1 heading.2

-- the numbers of the lines of a text that have no form
unfoldable pub bad_lines : List ℕ → List ℕ
bad_lines text = bad_below (heading_read 1 (lines_of text))
