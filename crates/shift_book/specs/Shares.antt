-- Rules: what grew between the points of a book, and whose it is.
use Rattle.{std.specs.{BTreeMap.{is_at}, Option.{option_map}}, arrayvec.specs.ArrayVec.{ArrayVec}}
use Rattle.std.specs.{Cmp.Lexicographic.{slice_cmp}, List.Sorted.{IsStrictlySortedBy}, Map.{keys_of, lookup, values_of}}
use Rattle.std.specs.{List.{list_any, sum_by}, Ordering.{is_eq, nat_cmp}, declared.cmp.Ordering.{Ordering}}
use Rattle.std.specs.Prelude.{[], ℕ, ◌++◌, ◌+◌, ◌-◌, ◌∷◌, ◌≡◌, Bool, List, if◌then◌else◌, is_some, unwrap_or}
use Rattle.shift_book.specs.{Common.{Numbers, Shift}, Marks.{Signing, numbers_of}}

-- a column tells apart the six numbers of a point, or of growth
pub data Column : Type 0 where
  Number : Column
  Distance : Column
  HiredDistance : Column
  Hirings : Column
  Supplements : Column
  Fare : Column

-- the number of a point, or of growth, in a column is the one that the column names
abbrev pub at : Column → Numbers → ℕ
at Number n = n.number
at Distance n = n.distance_mm
at HiredDistance n = n.hired_mm
at Hirings n = n.hirings
at Supplements n = n.supplements
at Fare n = n.fare

-- growth of nothing has six zeros
abbrev pub nothing : Numbers
nothing = numbers_of 0 0 0 0 0 0

-- what has grown from one point to a later one is the difference of each of the six numbers
abbrev pub grown : (before after : Numbers) → Numbers
grown before after =
    numbers_of (after.number - before.number) (after.distance_mm - before.distance_mm)
    (after.hired_mm - before.hired_mm) (after.hirings - before.hirings)
    (after.supplements - before.supplements) (after.fare - before.fare)

-- two growths together are the sum of each of the six numbers
abbrev pub plus : Numbers → Numbers → Numbers
plus a b =
    numbers_of (a.number + b.number) (a.distance_mm + b.distance_mm) (a.hired_mm + b.hired_mm) (a.hirings + b.hirings)
    (a.supplements + b.supplements) (a.fare + b.fare)

-- the point behind a mark is the next mark, or the store as it is if no mark follows
abbrev pub next_point : (now : Numbers) → List Signing → Numbers
next_point now [] = now
next_point now (mark ∷ marks) = mark.numbers

-- a mark that signs on begins one shift, with the growth up to the next point, and one that signs off begins none
abbrev pub begun_by : Signing → (next : Numbers) → List Shift
begun_by mark next =
    if mark.on then record { driver = record { items = mark.driver }; growth = grown mark.numbers next } ∷ [] else []

-- the growth behind a mark while nobody was on is what has grown up to the next point if the mark signs off, and
-- nothing if it signs on
abbrev pub free_behind : Signing → (next : Numbers) → Numbers
free_behind mark next = if mark.on then nothing else grown mark.numbers next

-- the shifts of a book are those that its marks begin, in order
abbrev pub shifts_in : (now : Numbers) → List Signing → List Shift
shifts_in now [] = []
shifts_in now (mark ∷ marks) = begun_by mark (next_point now marks) ++ shifts_in now marks

-- the growth of a book while nobody was on is the sum of what has grown behind each mark that signs off
abbrev pub unsigned_in : (now : Numbers) → List Signing → Numbers
unsigned_in now [] = nothing
unsigned_in now (mark ∷ marks) = plus (free_behind mark (next_point now marks)) (unsigned_in now marks)

-- the growth of a book is what has grown from its first mark to the store as it is, which is nothing if the book has no
-- marks
abbrev pub growth_in : (now : Numbers) → List Signing → Numbers
growth_in now [] = nothing
growth_in now (mark ∷ marks) = grown mark.numbers now

-- a driver is known by the bytes of the name
abbrev pub Driver : Type 0
Driver = ArrayVec ℕ

-- drivers are compared by the bytes of their names
abbrev pub driver_cmp : Driver → Driver → Ordering
driver_cmp a b = slice_cmp nat_cmp a.items b.items

-- the test `is_of` is true if a shift is a driver's, by the same name
abbrev pub is_of : Driver → Shift → Bool
is_of driver shift = is_eq (driver_cmp shift.driver driver)

-- a shift gives its growth in a column to its own driver, and nothing to others
abbrev pub gives : Driver → Column → Shift → ℕ
gives driver column shift = if is_of driver shift then at column shift.growth else 0

-- the sum for a driver in a column is what the sums have for the driver there, and 0 if they don't have the driver
abbrev pub sum_for : Driver → Column → List (Driver × Numbers) → ℕ
sum_for driver column sums = unwrap_or (option_map (at column) (lookup (is_at (driver_cmp driver)) sums)) 0

-- sums are those of the drivers over some shifts: they have the drivers who have a shift and no others, each with the
-- sum over that driver's shifts, and all of them together have the growth of all shifts
pub record AreSums (sums : List (Driver × Numbers)) (shifts : List Shift) : Type 0 where
  pub drivers : (driver : Driver) → is_some (lookup (is_at (driver_cmp driver)) sums) ≡ list_any (is_of driver) shifts
  pub each : (driver : Driver) (column : Column) → sum_for driver column sums ≡ sum_by (gives driver column) shifts
  pub all : (column : Column) → sum_by (at column) (values_of sums)
      ≡ sum_by (λ shift. at column shift.growth) shifts

-- drivers are ordered if they are in the order of their bytes, each once
abbrev pub AreOrdered : List (Driver × Numbers) → Type 0
AreOrdered sums = IsStrictlySortedBy driver_cmp (keys_of sums)
