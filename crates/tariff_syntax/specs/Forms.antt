-- Rules: the forms of figures and atoms.
use Rattle.std.specs.Prelude.{[], ℕ, ◌*◌, ◌++◌, ◌+◌, ◌∷◌, ◌≡◌, ◌≤◌, ◌⊎◌, List, Ok, codes}
use Rattle.taxi_units.specs.{Decimal.{IsReadAs}, Digits.{IsFigure}}
use Rattle.tariff_syntax.specs.Common.{AreDigitsOf, Condition, after_distance, after_time, and, date, day, day_name}
use Rattle.tariff_syntax.specs.{Common.{holiday, not, or, position, time, zone}, Token.{Token, figure, sign, word}}

-- a text is a number of a range if it is a figure of it of one or two digits
abbrev pub IsNumber : (least most : ℕ) → List ℕ → ℕ → Type 0
IsNumber least most text n = IsFigure 1 2 least most text n

-- a text is a pair of numbers if it is two digits with the first value, `between`, and two digits with the second
abbrev pub IsPair : (between : List ℕ) → List ℕ → ℕ → ℕ → Type 0
IsPair between text first second =
    (x : List ℕ) × (y : List ℕ) × (text ≡ x ++ (between ++ y)) × AreDigitsOf 2 2 x first × AreDigitsOf 2 2 y second

-- a text is a date of any year if it is the month and the date, of two digits each, with a `-` between them
abbrev pub IsDate : List ℕ → ℕ → ℕ → Type 0
IsDate text month number = IsPair (codes "-") text month number

-- a text is a date of a year if it is the year of four digits, a `-`, and a date of any year
abbrev pub IsYearDate : List ℕ → ℕ → ℕ → ℕ → Type 0
IsYearDate text year month number =
    (x : List ℕ) × (rest : List ℕ) × (text ≡ x ++ (codes "-" ++ rest)) × AreDigitsOf 4 4 x year
    × IsDate rest month number

-- a text is a minute of the day if it is hours up to 23 and minutes up to 59, of two digits each, with a `:` between
abbrev pub IsMinute : List ℕ → ℕ → Type 0
IsMinute text minute =
    (hours : ℕ) × (minutes : ℕ) × IsPair (codes ":") text hours minutes × (hours ≤ 23) × (minutes ≤ 59)
    × (minute ≡ 60 * hours + minutes)

-- a text is an amount of units if it is a decimal text of at most `decimals` decimals that has just as many units
abbrev pub IsAmount : (decimals : ℕ) → List ℕ → ℕ → Type 0
IsAmount decimals text n = IsReadAs decimals text (Ok n)

-- a word is a weekday of 1 to 7 if it is that day's short name
abbrev pub IsWeekday : List ℕ → ℕ → Type 0
IsWeekday name n = (1 ≤ n) × (n ≤ 7) × (name ≡ day_name n)

-- tokens are weekdays if they are one short name, or two with `..` between them
abbrev pub AreWeekdays : List Token → ℕ → ℕ → Type 0
AreWeekdays ts from to =
    ((name : List ℕ) × (ts ≡ word name ∷ []) × IsWeekday name from × (to ≡ from))
    ⊎ ((first : List ℕ) × (second : List ℕ) × (ts ≡ word first ∷ sign (codes "..") ∷ word second ∷ [])
    × IsWeekday first from × IsWeekday second to)

-- tokens are an atom if they are its word and what belongs to it: a number, a range of minutes, weekdays or dates,
-- nothing, or an amount and its unit
abbrev pub IsAtom : List Token → Condition → Type 0
IsAtom ts (position n) = (f : List ℕ) × (ts ≡ word (codes "position") ∷ figure f ∷ []) × IsNumber 1 9 f n
IsAtom ts (zone n) = (f : List ℕ) × (ts ≡ word (codes "zone") ∷ figure f ∷ []) × IsNumber 1 9 f n
IsAtom ts (time from to) =
    (f : List ℕ) × (g : List ℕ) × (ts ≡ word (codes "time") ∷ figure f ∷ sign (codes "..") ∷ figure g ∷ [])
    × IsMinute f from × IsMinute g to
IsAtom ts (day from to) = (days : List Token) × (ts ≡ word (codes "day") ∷ days) × AreWeekdays days from to
IsAtom ts (date from_month from_date to_month to_date) =
    (f : List ℕ) × (g : List ℕ) × (ts ≡ word (codes "date") ∷ figure f ∷ sign (codes "..") ∷ figure g ∷ [])
    × IsDate f from_month from_date × IsDate g to_month to_date
IsAtom ts holiday = ts ≡ word (codes "holiday") ∷ []
IsAtom ts (after_distance n) =
    (f : List ℕ) × (ts ≡ word (codes "after") ∷ figure f ∷ word (codes "m") ∷ []) × IsAmount 1 f n
IsAtom ts (after_time n) =
    (f : List ℕ) × (ts ≡ word (codes "after") ∷ figure f ∷ word (codes "s") ∷ []) × IsAmount 1 f n
IsAtom ts (and left right) = ⊥
IsAtom ts (or left right) = ⊥
IsAtom ts (not inner) = ⊥
