-- Rules: the forms of the four lines of a text of rules.
use Rattle.std.specs.Prelude.{ℕ, ℤ, ◌*◌, ◌++◌, ◌+◌, ◌∷◌, ◌≡◌, List, codes, neg_ℤ, pos}
use Rattle.interval_clock.specs.Offsets.{greatest_offset}
use Rattle.offset_rules.specs.{Common.{IsFigure, day_names}, Names.{IsName, month_names, number_names}, Rule.{Change}}

-- a text says an offset in seconds if it is 1 to 5 digits of a number up to 50400, or a minus and then such digits
pub data IsSeconds : List ℕ → ℤ → Type 0 where
  ahead : (digits : List ℕ) (n : ℕ) → IsFigure 1 5 0 greatest_offset digits n → IsSeconds digits (pos n)
  behind : (digits : List ℕ) (n : ℕ) → IsFigure 1 5 0 greatest_offset digits n → IsSeconds (45 ∷ digits) (neg_ℤ (pos n))

-- a text says a minute of the day if it has the form HH:MM, with an hour up to 23 and a minute up to 59
pub record IsTime (text : List ℕ) (minute : ℕ) : Type 0 where
  pub hours : List ℕ
  pub minutes : List ℕ
  pub text_is : text ≡ hours ++ (codes ":" ++ minutes)
  pub hour : ℕ
  pub rest : ℕ
  pub hour_is : IsFigure 2 2 0 23 hours hour
  pub rest_is : IsFigure 2 2 0 59 minutes rest
  pub minute_is : minute ≡ hour * 60 + rest

-- a text says a change by the names of its number, its weekday and its month, and its time in UTC, with a blank between
-- each two of them
pub record IsChangeText (text : List ℕ) (change : Change) : Type 0 where
  pub number : List ℕ
  pub weekday : List ℕ
  pub month : List ℕ
  pub time : List ℕ
  pub text_is : text ≡ number ++ (codes " " ++ (weekday ++ (codes " " ++ (month ++ (codes " " ++ time)))))
  pub number_is : IsName number_names change.number number
  pub weekday_is : IsName day_names change.weekday weekday
  pub month_is : IsName month_names change.month month
  pub time_is : IsTime time change.minute

-- a line says a value if it is the name, which ends in a blank, and then a text of the value's form
pub record IsNamedLine {A : Type 0} (Form : List ℕ → A → Type 0) (name line : List ℕ) (value : A) : Type 0 where
  pub text : List ℕ
  pub line_is : line ≡ name ++ text
  pub text_is : Form text value
