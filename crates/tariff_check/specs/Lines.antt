-- Rules: what may be wrong with a line, by the lines before it.
use Rattle.std.specs.{List.{count_by, list_any}, Prelude.{if◌then◌else◌, is_none, nat_le, nat_lt, not, true}}
use Rattle.std.specs.Prelude.{[], ℕ, ◌&&◌, ◌++◌, ◌==◌, ◌||◌, ◌∷◌, ◌≡◌, Bool, List, None, Option, Some, false}
use Rattle.tariff_check.specs.Common.{ChoiceKind, Condition, Entry, Line, holiday, is_date, positions, rate, step}
use Rattle.tariff_check.specs.{Common.{supplement, zones}, Kinds.{is_great, is_of, kind_of}, Parts.{when_part}}
use Rattle.tariff_tree.specs.Condition as tree

-- the atoms of a condition are its parts without `not`, `and` and `or`, in order
abbrev pub atoms_of : Condition → List Condition
atoms_of (tree.and left right) = atoms_of left ++ atoms_of right
atoms_of (tree.or left right) = atoms_of left ++ atoms_of right
atoms_of (tree.not inner) = atoms_of inner
atoms_of atom = atom ∷ []

-- the atoms of a condition that may be none are its own, and none for none
abbrev pub atoms_if : Option Condition → List Condition
atoms_if None = []
atoms_if (Some when) = atoms_of when

-- the atoms in a line are those of its condition
abbrev pub atoms_in : Entry → List Condition
atoms_in entry = atoms_if (when_part entry)

-- the test `excludes` is true if a tariff may have only one of two lines: two steps, two numbers of positions, two
-- of zones, two supplements of one number, or one holiday twice
abbrev pub excludes : Entry → Entry → Bool
excludes (step amount rounding) (step other also) = true
excludes (positions number) (positions other) = true
excludes (zones number) (zones other) = true
excludes (supplement number amount most) (supplement other amount₂ most₂) = number == other
excludes (holiday year month date) (holiday year₂ month₂ date₂) =
    (year == year₂) && ((month == month₂) && (date == date₂))
excludes entry other = false

-- the test `is_of_same` is true if a line is of a kind, which may be none
abbrev pub is_of_same : Option ChoiceKind → Entry → Bool
is_of_same None other = false
is_of_same (Some kind) other = is_of kind other

-- the test `is_alike` is true if two lines are of one kind, as two rates are, or both holidays
abbrev pub is_alike : Entry → Entry → Bool
is_alike (holiday year month date) (holiday year₂ month₂ date₂) = true
is_alike entry other = is_of_same (kind_of entry) other

-- a tariff may have at most 255 holidays, and 64 lines of each kind
abbrev pub most_alike : Entry → ℕ
most_alike (holiday year month date) = 255
most_alike entry = 64

-- the test `is_default_for` is true if the second line is the default for the first: it is of the same kind and has
-- no condition
abbrev pub is_default_for : Entry → Entry → Bool
is_default_for entry other = is_of_same (kind_of entry) other && is_none (when_part other)

-- the test `is_unknown` is true if an atom names a position or a zone above the highest
abbrev pub is_unknown : (highest_position highest_zone : ℕ) → Condition → Bool
is_unknown highest_position highest_zone (tree.position number) = nat_lt highest_position number
is_unknown highest_position highest_zone (tree.zone number) = nat_lt highest_zone number
is_unknown highest_position highest_zone atom = false

-- the test `is_undated` is true if an atom has a month and date that no leap year has
abbrev pub is_undated : Condition → Bool
is_undated (tree.date from_month from_date to_month to_date) =
    not (is_date 2000 from_month from_date && is_date 2000 to_month to_date)
is_undated atom = false

-- the test `is_after_nothing` is true if an atom is an `after` of 0
abbrev pub is_after_nothing : Condition → Bool
is_after_nothing (tree.after_distance decimetres) = decimetres == 0
is_after_nothing (tree.after_time tenths) = tenths == 0
is_after_nothing atom = false

-- the test `is_no_holiday` is true if a line is a holiday that is no date of the years 2000 to 2199
abbrev pub is_no_holiday : Entry → Bool
is_no_holiday (holiday year month date) = not (nat_le 2000 year && (nat_le year 2199 && is_date year month date))
is_no_holiday entry = false

-- the test `is_for_nothing` is true if a line is a rate with a measure of 0
abbrev pub is_for_nothing : Entry → Bool
is_for_nothing (rate a b c e when) = (b == 0) || (e == 0)
is_for_nothing entry = false

-- a test of a line sees what the line says and the lines before it
abbrev pub LineTest : Type 0
LineTest = List Line → Entry → Bool

-- a line is a duplicate if an earlier line excludes it
abbrev pub is_duplicate : LineTest
is_duplicate before entry = list_any (λ (l : Line). excludes entry l.entry) before

-- a line is one too many if the lines before it have as many of its kind as there may be
abbrev pub is_one_too_many : LineTest
is_one_too_many before entry = nat_le (most_alike entry) (count_by (λ (l : Line). is_alike entry l.entry) before)

-- a line names something unknown if its condition names a position or a zone above the highest
abbrev pub names_unknown : (highest_position highest_zone : ℕ) → LineTest
names_unknown highest_position highest_zone before entry =
    list_any (is_unknown highest_position highest_zone) (atoms_in entry)

-- a line is after its default if a line of its kind without a condition stands before it
abbrev pub is_after_default : LineTest
is_after_default before entry = list_any (λ (l : Line). is_default_for entry l.entry) before

-- a line has a bad date if it is a holiday out of range or its condition has a date that no leap year has
abbrev pub has_bad_date : LineTest
has_bad_date before entry = is_no_holiday entry || list_any is_undated (atoms_in entry)

-- a line has a great amount if one of its amounts is above its limit
abbrev pub has_great_amount : LineTest
has_great_amount before entry = is_great entry

-- a line has a measure of 0 if it is a rate for 0, or its condition has an `after` of 0
abbrev pub has_measure_zero : LineTest
has_measure_zero before entry = is_for_nothing entry || list_any is_after_nothing (atoms_in entry)

-- the first of some lines that passes a test, with other lines before them, is told by its number
abbrev pub first_after : LineTest → (before : List Line) → List Line → Option ℕ
first_after test before [] = None
first_after test before (l ∷ ls) = if test before l.entry then Some l.line else first_after test (before ++ l ∷ []) ls

-- the first of all lines that passes a test is told by its number
abbrev pub first_line : LineTest → List Line → Option ℕ
first_line test lines = first_after test [] lines

-- a test is passed nowhere if no line passes it with the lines before it
abbrev pub IsNowhere : LineTest → List Line → Type 0
IsNowhere test lines =
    (before after : List Line) (line : Line) → lines ≡ before ++ line ∷ after → test before line.entry ≡ false

-- a number is that of the first line that passes a test if a line has the number and passes, and no line before it
-- does
pub record IsFirstLine (test : LineTest) (lines : List Line) (number : ℕ) : Type 0 where
  pub before : List Line
  pub line : Line
  pub after : List Line
  pub split : lines ≡ before ++ line ∷ after
  pub number_is : line.line ≡ number
  pub is_so : test before line.entry ≡ true
  pub none_earlier : IsNowhere test before
