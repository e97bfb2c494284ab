-- By law: how rules are read from the front of a text, in the stages of the code. The law
-- texts_say_rules_line_by_line says what the answers mean.
use Rattle.std.specs.Prelude.{[], ℕ, ℤ, ◌*◌, ◌+◌, ◌==◌, ◌∷◌, Err, List, None, Ok, Option, Result, Some, codes}
use Rattle.std.specs.Prelude.{if◌then◌else◌, length, nat_lt, neg_ℤ, pos}
use Rattle.{taxi_units.specs.{Number.{figure_at}, Reading.{word_at}}, interval_clock.specs.Offsets.{greatest_offset}}
use Rattle.offset_rules.specs.{Common.{◌>>=◌, BadLine, RuleFault, SameMonth, TooLong, day_names}, Rule.{Change, Rule}}
use Rattle.offset_rules.specs.Names.{month_names, number_names}

-- the offset in seconds at the front of a text, and the rest
unfoldable pub seconds_at : List ℕ → Option (ℤ × List ℕ)
seconds_at text = signed_at text (word_at (codes "-") text)
  where
    signed_at : List ℕ → Option (List ℕ) → Option (ℤ × List ℕ)
    signed_at text (Some digits) = figure_at 1 5 0 greatest_offset digits >>= (λ n. Some (neg_ℤ (pos n.0), n.1))
    signed_at text None = figure_at 1 5 0 greatest_offset text >>= (λ n. Some (pos n.0, n.1))

-- the number whose name was found and the rest, and if it wasn't found what the other names give
abbrev pub found_or : ℕ → Option (List ℕ) → Option (ℕ × List ℕ) → Option (ℕ × List ℕ)
found_or number (Some rest) others = Some (number, rest)
found_or number None others = others

-- the number of the first of some names that a text begins with, and the rest; the names are numbered from `number` on
abbrev pub numbered_at : (names : List (List ℕ)) → (number : ℕ) → (text : List ℕ) → Option (ℕ × List ℕ)
numbered_at [] number text = None
numbered_at (name ∷ names) number text = found_or number (word_at name text) (numbered_at names (number + 1) text)

-- the minute of the day of the hours and minutes at the front of a text, and the rest
unfoldable pub time_at : List ℕ → Option (ℕ × List ℕ)
time_at text = do
  hour ← figure_at 2 2 0 23 text
  minutes ← word_at (codes ":") hour.1
  minute ← figure_at 2 2 0 59 minutes
  Some (hour.0 * 60 + minute.0, minute.1)

-- the change at the front of a text, and the rest
unfoldable pub change_at : List ℕ → Option (Change × List ℕ)
change_at text = do
  number ← numbered_at number_names 1 text
  days ← word_at (codes " ") number.1
  weekday ← numbered_at day_names 1 days
  months ← word_at (codes " ") weekday.1
  month ← numbered_at month_names 1 months
  time ← word_at (codes " ") month.1
  minute ← time_at time
  Some (record { number = number.0; weekday = weekday.0; month = month.0; minute = minute.0 }, minute.1)

-- the value of a line of a name and a value at the front of a text, and the rest after its LF
unfoldable pub named_line_at : {A : Type 0} → (value_at : List ℕ → Option (A × List ℕ)) → (name text : List ℕ)
    → Option (A × List ℕ)
named_line_at value_at name text = do
  after ← word_at name text
  value ← value_at after
  rest ← word_at (codes "\n") value.1
  Some (value.0, rest)

-- reading goes on with what was found in a line, and names the line if nothing was found
abbrev pub or_bad : {A : Type 0} → (line : ℕ) → Option A → (A → Result Rule RuleFault) → Result Rule RuleFault
or_bad line (Some x) on = on x
or_bad line None on = Err (BadLine line)

-- the answer to four good lines and what stands after them
abbrev pub whole : Rule → (rest : List ℕ) → Result Rule RuleFault
whole rule [] = if rule.begin.month == rule.end.month then Err SameMonth else Ok rule
whole rule (c ∷ cs) = Err (BadLine 5)

-- the answer to a text that isn't too long, read line by line
unfoldable pub lines_read : List ℕ → Result Rule RuleFault
lines_read text =
    or_bad 1 (named_line_at seconds_at (codes "standard ") text) (λ standard.
    or_bad 2 (named_line_at seconds_at (codes "summer ") standard.1) (λ summer.
    or_bad 3 (named_line_at change_at (codes "begin ") summer.1) (λ begin.
    or_bad 4 (named_line_at change_at (codes "end ") begin.1) (λ end.
    whole (record { standard = standard.0; summer = summer.0; begin = begin.0; end = end.0 }) end.1))))

-- the answer to any text
unfoldable pub rules_read : List ℕ → Result Rule RuleFault
rules_read text = if nat_lt 4096 (length text) then Err TooLong else lines_read text
