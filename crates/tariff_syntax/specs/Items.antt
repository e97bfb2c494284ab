-- For proofs: what a line says, read from its tokens. The law texts_are_parsed_as_they_read says what the answers mean.
use Rattle.std.specs.{Prelude.{[], ℕ, ◌∷◌, List, None, Option, Some, codes, if◌then◌else◌}, Str.{bytes_eq}}
use Rattle.{tariff_tree.specs.Tree.{holiday}, tariff_syntax.specs.{Common.{supplement, zones}, Grammar.{when_read}}}
use Rattle.tariff_syntax.specs.Common.{◌>>=◌, Ahead, Behind, Entry, Rounding, initial, minimum, positions, rate, step}
use Rattle.tariff_syntax.specs.{Figure.{amount_first, number_first, year_date_first}, Token.{Token}}
use Rattle.tariff_syntax.specs.Words.{after_sign, after_word, ended, word_first}

-- the rounding that a word names, `behind` or `ahead`
abbrev pub rounding_read : List ℕ → Option Rounding
rounding_read name =
    if bytes_eq name (codes "behind") then Some Behind
    else (if bytes_eq name (codes "ahead") then Some Ahead else None)

-- the rounding at the end of a line: `behind` if the line ends, and else the one that its last word names
unfoldable pub rounding_end : List Token → Option Rounding
rounding_end [] = Some Behind
rounding_end (t ∷ ts) = do
  name ← word_first (t ∷ ts)
  rounding ← rounding_read name.0
  ended name.1 rounding

-- the display step that the tokens after `step` say
unfoldable pub step_read : (decimals : ℕ) → List Token → Option Entry
step_read decimals ts = do
  amount ← amount_first decimals ts
  rounding ← rounding_end amount.1
  Some (step amount.0 rounding)

-- the number of 1 to 9 that the tokens are
unfoldable pub count_read : List Token → Option ℕ
count_read ts = do
  number ← number_first 1 9 ts
  ended number.1 number.0

-- the number of positions that the tokens after `positions` say
abbrev pub positions_read : List Token → Option Entry
positions_read ts = count_read ts >>= λ number. Some (positions number)

-- the number of zones that the tokens after `zones` say
abbrev pub zones_read : List Token → Option Entry
zones_read ts = count_read ts >>= λ number. Some (zones number)

-- the holiday that the tokens after `holiday` say
unfoldable pub holiday_read : List Token → Option Entry
holiday_read ts = do
  date ← year_date_first ts
  ended date.1 (holiday date.0.0 date.0.1 date.0.2)

-- the supplement that the tokens after `supplement` say
unfoldable pub supplement_read : (decimals : ℕ) → List Token → Option Entry
supplement_read decimals ts = do
  number ← number_first 1 16 ts
  amount ← amount_first decimals number.1
  rest ← after_word (codes "max") amount.1
  most ← number_first 1 99 rest
  ended most.1 (supplement number.0 amount.0 most.0)

-- the covered amount: 0 if `covers` doesn't follow, and else the amount behind it, and the tokens after it
abbrev pub covers_after : (decimals : ℕ) → List Token → Option (List Token) → Option (ℕ × List Token)
covers_after decimals ts None = Some (0, ts)
covers_after decimals ts (Some rest) = amount_first decimals rest

-- the covered amount that stands first, or 0, and the tokens after it
unfoldable pub covers_first : (decimals : ℕ) → List Token → Option (ℕ × List Token)
covers_first decimals ts = covers_after decimals ts (after_word (codes "covers") ts)

-- the initial hire fee that the tokens after `initial` say
unfoldable pub initial_read : (decimals : ℕ) → List Token → Option Entry
initial_read decimals ts = do
  amount ← amount_first decimals ts
  covers ← covers_first decimals amount.1
  when ← when_read covers.1
  Some (initial amount.0 covers.0 when)

-- the amount and the measure of tokens `amount per measure unit` that stand first, and the tokens after them
unfoldable pub per_first : (decimals : ℕ) (unit : List ℕ) → List Token → Option ((ℕ × ℕ) × List Token)
per_first decimals unit ts = do
  amount ← amount_first decimals ts
  per ← after_word (codes "per") amount.1
  measure ← amount_first 1 per
  rest ← after_word unit measure.1
  Some ((amount.0, measure.0), rest)

-- the rate that the tokens after `rate` say
unfoldable pub rate_read : (decimals : ℕ) → List Token → Option Entry
rate_read decimals ts = do
  distance ← per_first decimals (codes "m") ts
  comma ← after_sign (codes ",") distance.1
  time ← per_first decimals (codes "s") comma
  when ← when_read time.1
  Some (rate distance.0.0 distance.0.1 time.0.0 time.0.1 when)

-- the minimum fare that the tokens after `minimum` say
unfoldable pub minimum_read : (decimals : ℕ) → List Token → Option Entry
minimum_read decimals ts = do
  amount ← amount_first decimals ts
  when ← when_read amount.1
  Some (minimum amount.0 when)

-- the entry of a kind that has no condition, by the line's first word
unfoldable pub plain_named : (decimals : ℕ) (name : List ℕ) → List Token → Option Entry
plain_named decimals name ts =
    if bytes_eq name (codes "step") then step_read decimals ts
    else (if bytes_eq name (codes "positions") then positions_read ts
    else (if bytes_eq name (codes "zones") then zones_read ts
    else (if bytes_eq name (codes "holiday") then holiday_read ts
    else (if bytes_eq name (codes "supplement") then supplement_read decimals ts
    else None))))

-- the entry of any kind, by the line's first word
unfoldable pub item_named : (decimals : ℕ) (name : List ℕ) → List Token → Option Entry
item_named decimals name ts =
    if bytes_eq name (codes "initial") then initial_read decimals ts
    else (if bytes_eq name (codes "rate") then rate_read decimals ts
    else (if bytes_eq name (codes "minimum") then minimum_read decimals ts
    else plain_named decimals name ts))

-- the entry that the tokens of a line say
unfoldable pub item_read : (decimals : ℕ) → List Token → Option Entry
item_read decimals ts = word_first ts >>= λ name. item_named decimals name.0 name.1

-- the decimals that the tokens of a line say
unfoldable pub decimals_read : List Token → Option ℕ
decimals_read ts = do
  rest ← after_word (codes "decimals") ts
  number ← number_first 0 3 rest
  ended number.1 number.0
