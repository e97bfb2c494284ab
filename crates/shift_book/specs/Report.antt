-- Rules: the report of a book, its lines, and what they share out.
use Rattle.std.specs.{List.{sum_by}, Map.{values_of}, Prelude.{[], ℕ, ◌++◌, ◌+◌, ◌∷◌, ◌≡◌, List, codes, decimal}}
use Rattle.{taxi_units.specs.Number.{money_text}, shift_book.specs.Marks.{Signing, number_text}}
use Rattle.shift_book.specs.{Common.{Numbers, Shift}, ShareStages.{with_shifts}}
use Rattle.shift_book.specs.Shares.{AreOrdered, AreSums, Column, Driver, at, growth_in, shifts_in, unsigned_in}

-- an amount in a line is written behind a blank
abbrev pub amount_text : (decimals units : ℕ) → List ℕ
amount_text decimals units = 32 ∷ money_text decimals units

-- growth is written as hirings, the distance and the distance when hired in metres with three decimals, fares and
-- supplements, each behind a blank, and an LF ends the line
abbrev pub growth_text : (decimals : ℕ) → Numbers → List ℕ
growth_text decimals n =
    number_text n.hirings ++ (amount_text 3 n.distance_mm ++ (amount_text 3 n.hired_mm
    ++ (amount_text decimals n.fare ++ (amount_text decimals n.supplements ++ 10 ∷ []))))

-- a shift is written as a line of its number, its driver and its growth
abbrev pub shift_line : (decimals number : ℕ) → Shift → List ℕ
shift_line decimals number shift =
    (codes "SHIFT " ++ (decimal number ++ (32 ∷ shift.driver.items))) ++ growth_text decimals shift.growth

-- shifts are written as a line each, with numbers that count up from `number`
abbrev pub shift_lines : (decimals number : ℕ) → List Shift → List ℕ
shift_lines decimals number [] = []
shift_lines decimals number (shift ∷ shifts) =
    shift_line decimals number shift ++ shift_lines decimals (number + 1) shifts

-- the sum of a driver is written as a line of the driver and the growth
abbrev pub driver_line : (decimals : ℕ) → Driver × Numbers → List ℕ
driver_line decimals sum = (codes "DRIVER " ++ sum.0.items) ++ growth_text decimals sum.1

-- the sums of drivers are written as a line each, in their order
abbrev pub driver_lines : (decimals : ℕ) → List (Driver × Numbers) → List ℕ
driver_lines decimals [] = []
driver_lines decimals (sum ∷ sums) = driver_line decimals sum ++ driver_lines decimals sums

-- the report of a book is the lines of its shifts, the lines of the drivers' sums in the order of the drivers, the line
-- of the growth while nobody was on, and the line of all growth. `with_shifts` adds up the sums shift by shift, and the
-- law reports_share_the_growth says that the text is the report
abbrev pub report_text : (decimals : ℕ) (now : Numbers) → List Signing → List ℕ
report_text decimals now marks =
    shift_lines decimals 1 (shifts_in now marks) ++ (driver_lines decimals (with_shifts [] (shifts_in now marks))
    ++ ((codes "UNSIGNED" ++ growth_text decimals (unsigned_in now marks))
    ++ (codes "GROWTH" ++ growth_text decimals (growth_in now marks))))

-- a text is the report of a book if it has a line for each shift, one for each driver, one for the growth while nobody
-- was on, and one for all growth. The shifts and the growth while nobody was on add up to all growth, and so do the
-- drivers' sums and that growth
pub record IsReport (decimals : ℕ) (now : Numbers) (marks : List Signing) (report : List ℕ) : Type 0 where
  pub sums : List (Driver × Numbers)
  pub text_is : report ≡ shift_lines decimals 1 (shifts_in now marks) ++ (driver_lines decimals sums
      ++ ((codes "UNSIGNED" ++ growth_text decimals (unsigned_in now marks))
      ++ (codes "GROWTH" ++ growth_text decimals (growth_in now marks))))
  pub ordered : AreOrdered sums
  pub are_sums : AreSums sums (shifts_in now marks)
  pub shifts_add_up : (column : Column) → sum_by (λ shift. at column shift.growth) (shifts_in now marks)
      + at column (unsigned_in now marks) ≡ at column (growth_in now marks)
  pub drivers_add_up : (column : Column) → sum_by (at column) (values_of sums)
      + at column (unsigned_in now marks) ≡ at column (growth_in now marks)
