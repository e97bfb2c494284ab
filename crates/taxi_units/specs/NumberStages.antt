-- By law: a decimal, read in the stages of the code. The laws decimals_are_read_by_their_form and
-- numbers_are_read_by_their_digits say what the answers mean.
use Rattle.std.specs.{Char.{is_ascii_digit}, List.{prefix_len}, Prelude.{nat_lt, take}}
use Rattle.std.specs.Prelude.{[], ℕ, ◌+◌, ◌==◌, ◌^◌, ◌||◌, ◌∷◌, Err, List, Ok, Result, drop, if◌then◌else◌, length}
use Rattle.taxi_units.specs.{Common.{BadDigit, Empty, NumberFault, TooBig, TooManyDecimals}, Decimal.{units_of}}

-- the number of digits at the front of a text
abbrev pub digits_at_front : List ℕ → ℕ
digits_at_front text = prefix_len is_ascii_digit text

-- the answer to a text of good form, which is `whole`, or `whole`, a point and `parts`
abbrev pub units_read : ℕ → List ℕ → List ℕ → Result ℕ NumberFault
units_read decimals whole parts =
    if nat_lt decimals (length parts)
    then Err (TooManyDecimals (length whole + 1 + decimals))
    else (if nat_lt (10 ^ 12) (units_of decimals whole parts) then Err TooBig else Ok (units_of decimals whole parts))

-- the answer to a text of `whole`, a point and `parts`, if `parts` has `count` digits at its front
abbrev pub counted_parts_read : ℕ → List ℕ → List ℕ → ℕ → Result ℕ NumberFault
counted_parts_read decimals whole parts count =
    if nat_lt count (length parts) || (count == 0)
    then Err (BadDigit (length whole + 1 + count))
    else units_read decimals whole parts

-- the answer to a text of `whole`, a point and `parts`
abbrev pub parts_read : ℕ → List ℕ → List ℕ → Result ℕ NumberFault
parts_read decimals whole parts = counted_parts_read decimals whole parts (digits_at_front parts)

-- the answer to a text of the digits `whole` and then these bytes, of which the first is no digit
abbrev pub whole_read : ℕ → List ℕ → List ℕ → Result ℕ NumberFault
whole_read decimals whole [] = units_read decimals whole []
whole_read decimals whole (c ∷ parts) =
    if c == 46 then parts_read decimals whole parts else Err (BadDigit (length whole))

-- the answer to a text with `count` digits at its front
abbrev pub counted_read : ℕ → List ℕ → ℕ → Result ℕ NumberFault
counted_read decimals text count =
    if count == 0 then Err (BadDigit 0) else whole_read decimals (take count text) (drop count text)

-- the answer to any text, as an amount in units of the last of `decimals` decimals
abbrev pub decimal_read : ℕ → List ℕ → Result ℕ NumberFault
decimal_read decimals [] = Err Empty
decimal_read decimals (c ∷ cs) = counted_read decimals (c ∷ cs) (digits_at_front (c ∷ cs))
