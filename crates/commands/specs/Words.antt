-- Rules: the words of a command.
use Rattle.std.specs.{Option.{option_map}, Prelude.{nat_le, nat_lt}, Str.Parse.{digits_value}}
use Rattle.std.specs.Prelude.{[], ℕ, ◌&&◌, ◌==◌, ◌^◌, ◌∷◌, List, None, Option, Some, codes, if◌then◌else◌, length}
use Rattle.{taxi_units.specs.{Number.{figure_in}, Words.{is_word}}, store_commands.specs.Years.{years_of}}
use Rattle.{drive_modes.specs.Constant.{greatest_constant, least_constant}, shift_book.specs.Reading.{driver_of}}
use Rattle.commands.specs.{Common.{digits_at_front}, declared.words.Row.TheVariants.{Shifts, Story, Tables, Totals}}
use Rattle.commands.specs.declared.words.Row.{Row}
use Rattle.commands.specs.declared.words.Row.TheVariants.{Bench, Check, Compare, Explain, Fare, Faults, Form, Gen}
use Rattle.commands.specs.declared.words.Row.TheVariants.{Lines, Mark, Near, Offsets, Port, Rates, Run, Seal, Sealed}

-- a word is a constant if it is a number of at most 6 digits and of 500 to 200,000, and else none; `figure_in` gives
-- the number of digits in a width and a range, as the law figures_are_read_by_their_digits of taxi_units says
abbrev pub constant_of : List ℕ → Option ℕ
constant_of word = figure_in 1 6 least_constant greatest_constant word

-- a number fits if it is below 2^64, and else there is none
abbrev pub fitting : ℕ → Option ℕ
fitting number = if nat_lt number (2 ^ 64) then Some number else None

-- a word is a seed if it has 1 to 20 digits and their number is below 2^64, and else none
unfoldable pub seed_of : List ℕ → Option ℕ
seed_of word =
    if (nat_le 1 (length word) && (nat_le (length word) 20 && digits_at_front word == length word))
    then fitting (digits_value 10 word) else None

-- a word is a number of trips if it is a number of at most 4 digits and of 1 to 1,000, and else none
abbrev pub trips_of : List ℕ → Option ℕ
trips_of word = figure_in 1 4 1 1000 word

-- a seed and a number of trips are the row `gen`
abbrev pub gen_of : Option ℕ → Option ℕ → Option Row
gen_of None trips = None
gen_of (Some seed) trips = option_map (Gen seed) trips

-- the row by which a driver signs on has the name of the driver
abbrev pub signs_on : List ℕ → Row
signs_on driver = Mark (Some (record { items = driver }))

-- the row of one word is `totals` or `sealed`
abbrev pub one_word : (command : List ℕ) → Option Row
one_word command =
    if is_word command (codes "totals") then Some Totals
    else (if is_word command (codes "sealed") then Some Sealed else None)

-- the row of two words is `check TARIFF`, `port REQUESTS`, `mark off`, `shifts BOOK`, `form TARIFF`, `faults TARIFF` or
-- `near TARIFF`
abbrev pub two_words : (command last : List ℕ) → Option Row
two_words command last =
    if is_word command (codes "check") then Some Check
    else (if is_word command (codes "port") then Some Port
    else (if (is_word command (codes "mark") && is_word last (codes "off")) then Some (Mark None)
    else (if is_word command (codes "shifts") then Some Shifts
    else (if is_word command (codes "form") then Some Form
    else (if is_word command (codes "faults") then Some Faults
    else (if is_word command (codes "near") then Some Near else None))))))

-- the row of three words is `tables TARIFF CONSTANT`, `seal TARIFF PARAMS`, `run TARIFF DRIVE`, `gen SEED N`, `mark on
-- DRIVER`, `lines TARIFF CONSTANT` or `rates TARIFF CONSTANT`; `driver_of` gives a word as a driver if it is 1 to 16 of
-- the characters A to Z, 0 to 9 and -, and nothing for another word
abbrev pub three_words : (command middle last : List ℕ) → Option Row
three_words command middle last =
    if is_word command (codes "tables") then option_map Tables (constant_of last)
    else (if is_word command (codes "seal") then Some Seal
    else (if is_word command (codes "run") then Some Run
    else (if is_word command (codes "gen") then gen_of (seed_of middle) (trips_of last)
    else (if (is_word command (codes "mark") && is_word middle (codes "on"))
    then option_map signs_on (driver_of last)
    else (if is_word command (codes "lines") then option_map Lines (constant_of last)
    else (if is_word command (codes "rates") then option_map Rates (constant_of last) else None))))))

-- the row of four words is `fare TARIFF DRIVE CONSTANT`, `bench TARIFF DRIVE READINGS`, `explain TARIFF DRIVE PARAMS`,
-- `story TARIFF DRIVE PARAMS`, `offsets RULES FROM TO` or `compare TARIFF OTHER CONSTANT`
abbrev pub four_words : (command third last : List ℕ) → Option Row
four_words command third last =
    if is_word command (codes "fare") then option_map Fare (constant_of last)
    else (if is_word command (codes "bench") then Some Bench
    else (if is_word command (codes "explain") then Some Explain
    else (if is_word command (codes "story") then Some Story
    else (if is_word command (codes "offsets") then option_map Offsets (years_of third last)
    else (if is_word command (codes "compare") then option_map Compare (constant_of last) else None)))))

-- words are the row of the command that they call, and no row if they are no command
abbrev pub row_of : List (List ℕ) → Option Row
row_of (command ∷ []) = one_word command
row_of (command ∷ last ∷ []) = two_words command last
row_of (command ∷ middle ∷ last ∷ []) = three_words command middle last
row_of (command ∷ file ∷ third ∷ last ∷ []) = four_words command third last
row_of words = None
