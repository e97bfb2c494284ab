-- Rules: the printed form of a tariff. Each part is spelled in front of what follows it, its rest.
use Rattle.std.specs.{Fmt.{decimal}, Prelude.{[], ℕ, ◌++◌, ◌∷◌, List, None, Option, Some, codes}}
use Rattle.tariff_syntax.specs.Common.{Ahead, Behind, Condition, Entry, Line, Part, Rounding, Tree, money_text}
use Rattle.tariff_syntax.specs.{Common.{padded_text, parts_of, word_of}, PrintedCondition.{condition_text}}
use Rattle.tariff_tree.specs.Part as part

-- the word of a rounding to the display step is `behind` or `ahead`
abbrev pub rounding_word : Rounding → List ℕ
rounding_word Behind = codes "behind"
rounding_word Ahead = codes "ahead"

-- a line of a word and a number is the word, which ends in a blank, the number in decimal, and an LF
unfoldable pub number_line : (word : List ℕ) (number : ℕ) → List ℕ → List ℕ
number_line word number rest = word ++ (decimal number ++ (codes "\n" ++ rest))

-- the end of a line that may have a condition is ` when ` and the condition, or nothing if it has none
abbrev pub when_text : Option Condition → List ℕ → List ℕ
when_text None rest = rest
when_text (Some when) rest = codes " when " ++ condition_text when rest

-- a part of a line is printed with a blank before it, except a comma, and as nothing if it is a condition that isn't
-- there
abbrev pub part_text : (decimals : ℕ) → Part → List ℕ → List ℕ
part_text decimals (part.name text) rest = codes " " ++ (text ++ rest)
part_text decimals part.comma rest = codes "," ++ rest
part_text decimals (part.money amount) rest = codes " " ++ (money_text decimals amount ++ rest)
part_text decimals (part.measure amount) rest = codes " " ++ (money_text 1 amount ++ rest)
part_text decimals (part.number least most n) rest = codes " " ++ (decimal n ++ rest)
part_text decimals (part.year_date year month date) rest =
    codes " " ++ (padded_text 4 year ++ (codes "-" ++ (padded_text 2 month
    ++ (codes "-" ++ (padded_text 2 date ++ rest)))))
part_text decimals (part.rounding rounding) rest = codes " " ++ (rounding_word rounding ++ rest)
part_text decimals (part.covers amount) rest = codes " covers " ++ (money_text decimals amount ++ rest)
part_text decimals (part.condition when) rest = when_text when rest

-- parts are printed one after another
abbrev pub parts_text : (decimals : ℕ) → List Part → List ℕ → List ℕ
parts_text decimals [] rest = rest
parts_text decimals (p ∷ ps) rest = part_text decimals p (parts_text decimals ps rest)

-- the line of an entry is its word, its parts, and an LF
unfoldable pub entry_line : (decimals : ℕ) → Entry → List ℕ → List ℕ
entry_line decimals entry rest = word_of entry ++ parts_text decimals (parts_of entry) (codes "\n" ++ rest)

-- lines are printed one after another, in their order
abbrev pub lines_text : (decimals : ℕ) → List Line → List ℕ
lines_text decimals [] = []
lines_text decimals (l ∷ ls) = entry_line decimals l.entry (lines_text decimals ls)

-- a tariff is printed as the line of its decimals and then its lines in their order
abbrev pub printed_form : Tree → List ℕ
printed_form t = number_line (codes "decimals ") t.decimals (lines_text t.decimals t.lines)
