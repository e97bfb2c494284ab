-- For proofs: numbers and amounts at the front of a text, read in the stages of the code. IsNumberText and
-- IsAmountText, in Written of taxi_units, say which texts they are.
use Rattle.std.specs.Prelude.{[], ℕ, ◌==◌, ◌||◌, ◌∷◌, ◌≡◌, List, None, Option, Some, drop, if◌then◌else◌, length}
use Rattle.{std.specs.{Prelude.{nat_lt, take}, Str.Parse.{digits_value_after}}, taxi_units.specs.Reading.{word_at}}
use Rattle.{taxi_units.specs.Number.{digits_at_front}, receipt_text.specs.declared.amounts.Amount.{Amount}}
use Rattle.receipt_text.specs.Common.{◌>>=◌}

-- all bytes are digits if as many digits stand at the front as there are bytes
abbrev pub AreDigits : List ℕ → Type 0
AreDigits digits = digits_at_front digits ≡ length digits

-- digits behind those of the number `start` make this number, if it is below `limit`
abbrev pub value_below : (limit start : ℕ) → List ℕ → Option ℕ
value_below limit start digits =
    if nat_lt (digits_value_after 10 start digits) limit then Some (digits_value_after 10 start digits) else None

-- some digits, one at least, make this number, if it is below `limit`, and `rest` stands behind them
abbrev pub digits_below : (limit : ℕ) → (digits rest : List ℕ) → Option (ℕ × List ℕ)
digits_below limit digits rest =
    if length digits == 0 then None else (value_below limit 0 digits >>= (λ value. Some (value, rest)))

-- the digits at the front make this number, if it is below `limit`, and this text stands behind them
unfoldable pub number_below : (limit : ℕ) → List ℕ → Option (ℕ × List ℕ)
number_below limit text = digits_below limit (take (digits_at_front text) text) (drop (digits_at_front text) text)

-- `word` and behind it a number below `limit` stand at the front, and this text behind them
abbrev pub number_behind : (word : List ℕ) → (limit : ℕ) → List ℕ → Option (ℕ × List ℕ)
number_behind word limit text = word_at word text >>= number_below limit

-- one to three digits behind a point make this amount with `whole` before the point, if its units are below `limit`,
-- and `rest` stands behind them
abbrev pub parts_of : (limit whole : ℕ) → (digits rest : List ℕ) → Option (Amount × List ℕ)
parts_of limit whole digits rest =
    if (length digits == 0) || nat_lt 3 (length digits) then None
    else (value_below limit whole digits >>= (λ units. Some (record { units = units; decimals = length digits }, rest)))

-- the digits at the front stand behind a point and make this amount with `whole` before it, if its units are below
-- `limit`; this text stands behind them
abbrev pub amount_with_parts : (limit whole : ℕ) → List ℕ → Option (Amount × List ℕ)
amount_with_parts limit whole text =
    parts_of limit whole (take (digits_at_front text) text) (drop (digits_at_front text) text)

-- the text behind the digits of `whole` makes it this amount: one with decimals if a point is the first byte, and
-- one without if it isn't
abbrev pub amount_after : (limit whole : ℕ) → List ℕ → Option (Amount × List ℕ)
amount_after limit whole [] = Some (record { units = whole; decimals = 0 }, [])
amount_after limit whole (c ∷ cs) =
    if c == 46 then amount_with_parts limit whole cs
    else Some (record { units = whole; decimals = 0 }, c ∷ cs)

-- an amount of 0 to 3 decimals stands at the front, if its units are below `limit`, and this text behind it
unfoldable pub amount_below : (limit : ℕ) → List ℕ → Option (Amount × List ℕ)
amount_below limit text = number_below limit text >>= (λ whole. amount_after limit whole.0 whole.1)

-- `word` and behind it an amount of 0 to 3 decimals stand at the front, if its units are below `limit`, and this text
-- behind them
abbrev pub amount_behind : (word : List ℕ) → (limit : ℕ) → List ℕ → Option (Amount × List ℕ)
amount_behind word limit text = word_at word text >>= amount_below limit
