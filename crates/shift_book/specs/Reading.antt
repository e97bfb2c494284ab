-- By law: the mark that a line says, if it is one, as the code reads it from the front of a text. The law
-- `drivers_are_their_words` says which words are drivers; which lines are marks says the law that BookReading names.
use Rattle.std.specs.{List.{prefix_len}, Prelude.{if◌then◌else◌, nat_le, nat_lt, take, true}, Str.Parse.{digits_value}}
use Rattle.std.specs.Prelude.{[], ℕ, ◌-◌, ◌==◌, ◌^◌, ◌||◌, ◌∷◌, List, None, Option, Some, codes, drop, false}
use Rattle.{taxi_units.specs.Reading.{word_at}, shift_book.specs.Marks.{Signing, numbers_of}}
use Rattle.shift_book.specs.Common.{◌>>=◌, Numbers, digits_at_front, is_identifier_character}

-- the value of digits is the number that they make, if it is below 2^128
abbrev pub value_below : List ℕ → Option ℕ
value_below digits = if nat_lt (digits_value 10 digits) (2 ^ 128) then Some (digits_value 10 digits) else None

-- the digits at the front of a text give the number below 2^128 that they make, and the text behind them; no digits
-- make 0
unfoldable pub digits_at : List ℕ → Option (ℕ × List ℕ)
digits_at text =
    value_below (take (digits_at_front text) text) >>= (λ value. Some (value, drop (digits_at_front text) text))

-- an amount at the front is a blank and the digits of a number, with the text behind them
unfoldable pub amount_at : List ℕ → Option (ℕ × List ℕ)
amount_at text = word_at (codes " ") text >>= digits_at

-- a count at the front is a blank and the digits of a number below 2^64, with the text behind them
unfoldable pub count_at : List ℕ → Option (ℕ × List ℕ)
count_at text = amount_at text >>= (λ found. if nat_le found.0 (2 ^ 64 - 1) then Some found else None)

-- the numbers at the front are six, each behind a blank
unfoldable pub numbers_at : List ℕ → Option Numbers
numbers_at text =
    count_at text >>= (λ one. amount_at one.1 >>= (λ two. amount_at two.1 >>= (λ three. count_at three.1
    >>= (λ four. amount_at four.1 >>= (λ five. amount_at five.1
    >>= (λ six. Some (numbers_of one.0 two.0 three.0 four.0 five.0 six.0)))))))

-- the first `count` characters are a driver, with the text behind them, if they are 1 to 16
abbrev pub counted_driver : ℕ → List ℕ → Option (List ℕ × List ℕ)
counted_driver count text =
    if (count == 0) || nat_lt 16 count then None else Some (take count text, drop count text)

-- the driver at the front is all characters of drivers there, with the text behind them
unfoldable pub driver_at : List ℕ → Option (List ℕ × List ℕ)
driver_at text = counted_driver (prefix_len is_identifier_character text) text

-- a driver that was read is the whole word if nothing is behind it
abbrev pub alone : List ℕ × List ℕ → Option (List ℕ)
alone (driver, []) = Some driver
alone (driver, c ∷ cs) = None

-- the driver of a word is the word, if it is one
unfoldable pub driver_of : List ℕ → Option (List ℕ)
driver_of word = driver_at word >>= alone

-- a text behind the word ON has the mark of its driver and six numbers
unfoldable pub on_at : List ℕ → Option Signing
on_at text =
    driver_at text >>= (λ driver. numbers_at driver.1
    >>= (λ numbers. Some (record { driver = driver.0; on = true; numbers = numbers })))

-- a text of the word OFF and six numbers has the mark that signs off with them
unfoldable pub off_at : List ℕ → Option Signing
off_at text =
    word_at (codes "OFF") text >>= (λ rest. numbers_at rest
    >>= (λ numbers. Some (record { driver = []; on = false; numbers = numbers })))

-- a mark signs on if the word ON was found, and off otherwise
abbrev pub mark_behind : Option (List ℕ) → List ℕ → Option Signing
mark_behind (Some rest) text = on_at rest
mark_behind None text = off_at text

-- the mark at the front of a text is the only one whose line may be there
unfoldable pub mark_at : List ℕ → Option Signing
mark_at text = mark_behind (word_at (codes "ON ") text) text
