-- By law: the tariff of a text, read line after line. The law texts_are_parsed_as_they_read says what the answers
-- mean.
use Rattle.std.specs.Prelude.{[], ℕ, ◌++◌, ◌+◌, ◌∷◌, Err, List, None, Ok, Option, Result, Some}
use Rattle.tariff_syntax.specs.{Common.{Entry, Line, Tree}, Items.{decimals_read, item_read}, TokenReading.{tokens_of}}
use Rattle.tariff_syntax.specs.{TextLines.{lines_of}, Token.{Token}}

-- the entry of a line, put before the lines below it; a line without tokens is passed over, and one with tokens and
-- without an entry is bad
abbrev pub put_entry : (number : ℕ) → List Token → Option Entry → Result (List Line) ℕ → Result (List Line) ℕ
put_entry number [] read below = below
put_entry number (t ∷ ts) None below = Err number
put_entry number (t ∷ ts) (Some entry) (Ok lines) = Ok (record { line = number; entry = entry } ∷ lines)
put_entry number (t ∷ ts) (Some entry) (Err bad) = Err bad

-- the entry that the text of a line says, put before the lines below it
abbrev pub line_read : (decimals number : ℕ) → List ℕ → Result (List Line) ℕ → Result (List Line) ℕ
line_read decimals number text below = put_entry number (tokens_of text) (item_read decimals (tokens_of text)) below

-- the lines of a tariff, read from texts that are numbered from `number` on, or the number of the first bad one
unfoldable pub entries_read : (decimals number : ℕ) → List (List ℕ) → Result (List Line) ℕ
entries_read decimals number [] = Ok []
entries_read decimals number (text ∷ texts) =
    line_read decimals number text (entries_read decimals (number + 1) texts)

-- the decimals, the number of the next line, and the texts from there on, by a text's tokens and the decimals that they
-- say
abbrev pub heading_by : (number : ℕ) (text : List ℕ) (texts : List (List ℕ)) → List Token → Option ℕ
    → ℕ × ℕ × List (List ℕ) → ℕ × ℕ × List (List ℕ)
heading_by number text texts [] decimals below = below
heading_by number text texts (t ∷ ts) (Some decimals) below = (decimals, number + 1, texts)
heading_by number text texts (t ∷ ts) None below = (2, number, text ∷ texts)

-- the decimals, the number of the next line, and the texts from there on, of texts that are numbered from `number` on
unfoldable pub heading_read : (number : ℕ) → List (List ℕ) → ℕ × ℕ × List (List ℕ)
heading_read number [] = (2, number, [])
heading_read number (text ∷ texts) =
    heading_by number text texts (tokens_of text) (decimals_read (tokens_of text)) (heading_read (number + 1) texts)

-- the tariff with these decimals and lines, or the number of the bad line
abbrev pub tree_with : (decimals : ℕ) → Result (List Line) ℕ → Result Tree ℕ
tree_with decimals (Ok lines) = Ok (record { decimals = decimals; lines = lines })
tree_with decimals (Err bad) = Err bad

-- the tariff of the texts below a heading, or the number of the first bad one
abbrev pub tree_below : ℕ × ℕ × List (List ℕ) → Result Tree ℕ
tree_below heading = tree_with heading.0 (entries_read heading.0 heading.1 heading.2)

-- the tariff of a text, or the number of its first bad line
unfoldable pub tree_parsed : List ℕ → Result Tree ℕ
tree_parsed text = tree_below (heading_read 1 (lines_of text))

-- lines, put before others, or the number of the bad line
abbrev pub before : List Line → Result (List Line) ℕ → Result (List Line) ℕ
before lines (Ok more) = Ok (lines ++ more)
before lines (Err bad) = Err bad
