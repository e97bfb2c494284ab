-- For proofs: the atoms of a condition, read at the front of a list of tokens. The law texts_are_parsed_as_they_read
-- says what the answers mean.
use Rattle.std.specs.{Prelude.{ℕ, List, None, Option, Some, codes, if◌then◌else◌}, Str.{bytes_eq}}
use Rattle.tariff_syntax.specs.Common.{◌>>=◌, Condition, after_distance, after_time, date, day, day_name, holiday}
use Rattle.tariff_syntax.specs.{Common.{position, time, zone}, Words.{after_sign, after_word, word_first}}
use Rattle.tariff_syntax.specs.{Figure.{amount_first, date_first, minute_first, number_first}, Token.{Token}}

-- the number of the weekday that a word names, 1 for Monday to 7 for Sunday
abbrev pub weekday_read : List ℕ → Option ℕ
weekday_read name =
    if bytes_eq name (day_name 1) then Some 1
    else (if bytes_eq name (day_name 2) then Some 2
    else (if bytes_eq name (day_name 3) then Some 3
    else (if bytes_eq name (day_name 4) then Some 4
    else (if bytes_eq name (day_name 5) then Some 5
    else (if bytes_eq name (day_name 6) then Some 6
    else (if bytes_eq name (day_name 7) then Some 7
    else None))))))

-- the weekday that stands first, and the tokens after it
unfoldable pub weekday_first : List Token → Option (ℕ × List Token)
weekday_first ts = do
  name ← word_first ts
  number ← weekday_read name.0
  Some (number, name.1)

-- the condition that the number of 1 to 9 standing first makes, and the tokens after it
unfoldable pub numbered_first : (ℕ → Condition) → List Token → Option (Condition × List Token)
numbered_first make ts = do
  number ← number_first 1 9 ts
  Some (make number.0, number.1)

-- the range of minutes that stands first, and the tokens after it
unfoldable pub time_first : List Token → Option (Condition × List Token)
time_first ts = do
  from ← minute_first ts
  rest ← after_sign (codes "..") from.1
  to ← minute_first rest
  Some (time from.0 to.0, to.1)

-- the range of weekdays from the first one to the one behind `..`, or that one day if no `..` follows
abbrev pub until_weekday : ℕ → List Token → Option (List Token) → Option (Condition × List Token)
until_weekday from ts None = Some (day from from, ts)
until_weekday from ts (Some rest) = do
  to ← weekday_first rest
  Some (day from to.0, to.1)

-- the weekday or the range of weekdays that stands first, and the tokens after it
unfoldable pub days_first : List Token → Option (Condition × List Token)
days_first ts = do
  from ← weekday_first ts
  until_weekday from.0 from.1 (after_sign (codes "..") from.1)

-- the range of dates that stands first, and the tokens after it
unfoldable pub dates_first : List Token → Option (Condition × List Token)
dates_first ts = do
  from ← date_first ts
  rest ← after_sign (codes "..") from.1
  to ← date_first rest
  Some (date from.0.0 from.0.1 to.0.0 to.0.1, to.1)

-- the condition of a measure, by the unit behind it, metres or else seconds, and the tokens after it
abbrev pub by_unit : ℕ → List Token → Option (List Token) → Option (Condition × List Token)
by_unit n ts (Some rest) = Some (after_distance n, rest)
by_unit n ts None = do
  rest ← after_word (codes "s") ts
  Some (after_time n, rest)

-- the condition of the measure and unit that stand first, and the tokens after them
unfoldable pub after_first : List Token → Option (Condition × List Token)
after_first ts = do
  measure ← amount_first 1 ts
  by_unit measure.0 measure.1 (after_word (codes "m") measure.1)

-- the atom that begins with a word, read from the tokens after that word
unfoldable pub atom_named : List ℕ → List Token → Option (Condition × List Token)
atom_named name ts =
    if bytes_eq name (codes "position") then numbered_first position ts
    else (if bytes_eq name (codes "zone") then numbered_first zone ts
    else (if bytes_eq name (codes "time") then time_first ts
    else (if bytes_eq name (codes "day") then days_first ts
    else (if bytes_eq name (codes "date") then dates_first ts
    else (if bytes_eq name (codes "holiday") then Some (holiday, ts)
    else (if bytes_eq name (codes "after") then after_first ts
    else None))))))
