-- Rules: the rows of the tables, as texts.
use Rattle.std.specs.{List.{flat_map, range_with_len}, Prelude.{map, nat_lt}}
use Rattle.std.specs.Prelude.{[], ℕ, ◌++◌, ◌+◌, ◌-◌, ◌∷◌, Bool, List, codes, decimal, get_or, if◌then◌else◌, length}
use Rattle.tariff_compile.specs.{Common.{CellLines, InitialNumbers, Weights, money_text}, Tables.{TableParts, no_lines}}

-- the row `MEASURE` says how many units of charge make the smallest unit of money
abbrev pub measure_row : (measure : ℕ) → List ℕ
measure_row measure = codes "MEASURE " ++ (decimal measure ++ codes "\n")

-- the row of a rate says its number, the weight of a pulse and the weight of a tick
abbrev pub rate_row : (number : ℕ) → Weights → List ℕ
rate_row number w =
    codes "RATE " ++
    (decimal number ++ (codes " " ++ (decimal w.per_pulse ++ (codes " " ++ (decimal w.per_tick ++ codes "\n")))))

-- the row of an initial hire fee says its number, its amount and its cover
abbrev pub initial_row : (decimals number : ℕ) → InitialNumbers → List ℕ
initial_row decimals number fee =
    codes "INITIAL " ++
    (decimal number ++
    (codes " " ++
    (money_text decimals fee.amount ++ (codes " " ++ (money_text decimals fee.covers ++ codes "\n")))))

-- the row of a minimum fare says its number and its amount
abbrev pub minimum_row : (decimals number amount : ℕ) → List ℕ
minimum_row decimals number amount =
    codes "MINIMUM " ++ (decimal number ++ (codes " " ++ (money_text decimals amount ++ codes "\n")))

-- the row of a cell ends with the number of its minimum fare, if the tariff has minimum fares
abbrev pub minimum_field : (minimums : Bool) (number : ℕ) → List ℕ
minimum_field minimums number = if minimums then codes " " ++ (decimal number ++ codes "\n") else codes "\n"

-- the row of a cell says its number, and the numbers of its rate, its initial hire fee and its minimum fare, from 1 on
abbrev pub cell_row : (minimums : Bool) (number : ℕ) → CellLines → List ℕ
cell_row minimums number lines =
    codes "CELL " ++
    (decimal number ++
    (codes " " ++
    (decimal (lines.rate + 1) ++
    (codes " " ++ (decimal (lines.initial + 1) ++ minimum_field minimums lines.minimum)))))

-- a section of rows is how many there are, and the row at each place in it, counted from 0
pub record Section : Type 0 where
  pub count : ℕ
  pub row : (place : ℕ) → List ℕ

-- the section of a list has a row for each of its elements, with its number, counted from 1
abbrev pub from_one : {A : Type 0} → (row : ℕ → A → List ℕ) → List A → (default : A) → Section
from_one row xs default = record { count = length xs; row = λ place. row (place + 1) (get_or xs place default) }

-- the test `has_minimums` is true if the tariff has minimum fares
abbrev pub has_minimums : TableParts → Bool
has_minimums tables = nat_lt 0 (length tables.minimums)

-- the section of cells has a row for each cell, with its number, counted from 0
abbrev pub cell_section : TableParts → Section
cell_section tables =
    record {
      count = length tables.cells;
      row = λ cell. cell_row (has_minimums tables) cell (get_or tables.cells cell no_lines);
    }

-- the sections of tables are the row `MEASURE`, then the rates, the initial hire fees and the minimum fares, then the
-- cells
abbrev pub sections : TableParts → List Section
sections tables =
    record { count = 1; row = λ place. measure_row tables.measure }
    ∷ from_one rate_row tables.weights (record { per_pulse = 0; per_tick = 0 })
    ∷ from_one (initial_row tables.decimals) tables.initials (record { amount = 0; covers = 0 })
    ∷ from_one (minimum_row tables.decimals) tables.minimums 0
    ∷ cell_section tables
    ∷ []

-- the number of rows of sections is how many each has, added up
abbrev pub count_of : List Section → ℕ
count_of [] = 0
count_of (section ∷ more) = section.count + count_of more

-- the row of sections at a place is found in the section that has the place; each section begins behind the one before
abbrev pub row_in : List Section → (place : ℕ) → List ℕ
row_in [] place = []
row_in (section ∷ more) place =
    if nat_lt place section.count then section.row place else row_in more (place - section.count)

-- the number of rows of tables is that of their sections
abbrev pub row_count : TableParts → ℕ
row_count tables = count_of (sections tables)

-- the row of tables at a place is the one of their sections
abbrev pub row_text : TableParts → (row : ℕ) → List ℕ
row_text tables row = row_in (sections tables) row

-- tables are written as all of their rows, in order
abbrev pub rows_text : TableParts → List ℕ
rows_text tables = flat_map (row_text tables) (range_with_len 0 (row_count tables))

-- all rows of sections are those of each section, one after another
abbrev pub rows_of : List Section → List (List ℕ)
rows_of [] = []
rows_of (section ∷ more) = map section.row (range_with_len 0 section.count) ++ rows_of more

-- all rows of tables are those of their sections
abbrev pub all_rows : TableParts → List (List ℕ)
all_rows tables = rows_of (sections tables)
