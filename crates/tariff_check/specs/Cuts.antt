-- Rules: the cuts of a tariff, which are the numbers with which its conditions compare.
use Rattle.std.specs.{BTreeSet.{insert_key}, List.{flat_map}, Ordering.{nat_cmp}, Prelude.{length}}
use Rattle.std.specs.Prelude.{[], ℕ, ◌++◌, ◌+◌, ◌<◌, ◌==◌, ◌||◌, ◌↔◌, ◌∷◌, Contains, List, get_or, if◌then◌else◌}
use Rattle.taxi_units.specs.Calendar.{date_place}
use Rattle.tariff_check.specs.{Common.{Condition, Dimension, Distance, Line, Minute, MonthDay, Time}, Lines.{atoms_in}}
use Rattle.tariff_tree.specs.Condition as tree

-- a range of days cuts where it begins in the year, and behind its end, but not at the year's begin and end
abbrev pub day_cut : ℕ → List ℕ
day_cut place = if (place == 0) || (place == 366) then [] else place ∷ []

-- a range of minutes that begins or ends at a minute cuts there, except at midnight
abbrev pub minute_cut : ℕ → List ℕ
minute_cut minute = if minute == 0 then [] else minute ∷ []

-- an atom cuts, if it is a range of dates, before its first day and after its last; if it is a range of minutes, at its
-- two ends; if it is a distance, at its decimetres; if it is a time, at its tenths of a second
abbrev pub atom_cuts : Dimension → Condition → List ℕ
atom_cuts MonthDay (tree.date from_month from_date to_month to_date) =
    day_cut (date_place from_month from_date) ++ day_cut (date_place to_month to_date + 1)
atom_cuts Minute (tree.time from to) = minute_cut from ++ minute_cut to
atom_cuts Distance (tree.after_distance decimetres) = decimetres ∷ []
atom_cuts Time (tree.after_time tenths) = tenths ∷ []
atom_cuts dimension atom = []

-- the cuts of lines are those of all atoms of their conditions, in the order of the text
abbrev pub all_cuts : Dimension → List Line → List ℕ
all_cuts dimension lines = flat_map (λ (l : Line). flat_map (atom_cuts dimension) (atoms_in l.entry)) lines

-- each of more numbers is put among numbers in order, at its place, and only once
abbrev pub with_each : (numbers more : List ℕ) → List ℕ
with_each numbers [] = numbers
with_each numbers (n ∷ ns) = with_each (insert_key nat_cmp numbers n) ns

-- the cuts of a dimension are the different ones of all atoms, in order
abbrev pub cuts_of : Dimension → List Line → List ℕ
cuts_of dimension lines = with_each [] (all_cuts dimension lines)

-- the number of cuts of a dimension is that of its different ones
abbrev pub count_of : Dimension → List Line → ℕ
count_of dimension lines = length (cuts_of dimension lines)

-- a dimension has at most 63 different cuts for days and for minutes, and at most 15 for distances and for times
abbrev pub most_cuts : Dimension → ℕ
most_cuts MonthDay = 63
most_cuts Minute = 63
most_cuts Distance = 15
most_cuts Time = 15

-- numbers rise if each is greater than those before it
abbrev pub IsRising : List ℕ → Type 0
IsRising xs = (i j : ℕ) → i < j → j < length xs → get_or xs i 0 < get_or xs j 0

-- a list is some numbers in order if it rises and has just the same numbers
pub record IsInOrder (numbers ordered : List ℕ) : Type 0 where
  pub rising : IsRising ordered
  pub same : (n : ℕ) → Contains numbers n ↔ Contains ordered n
