-- Rules: the years of which offsets are asked.
use Rattle.std.specs.Prelude.{ℕ, ◌&&◌, ◌+◌, List, None, Option, Some, if◌then◌else◌, nat_le}
use Rattle.taxi_units.specs.Number.{figure_in}

-- a word is a year if it is four digits, of 2000 to 2199. `figure_in` gives the number of digits in a width and a
-- range, as the law figures_are_read_by_their_digits of taxi_units says
abbrev pub year_of : List ℕ → Option ℕ
year_of word = figure_in 4 4 2000 2199 word

-- two years bound those that are asked for if these are at most fifteen, from the first to the last
abbrev pub years_in : Option ℕ → Option ℕ → Option (ℕ × ℕ)
years_in None last = None
years_in (Some from) None = None
years_in (Some from) (Some to) = if (nat_le from to && nat_le to (from + 14)) then Some (from, to) else None

-- two words are the first and the last year that are asked for if they are years, and bound at most fifteen
abbrev pub years_of : (first last : List ℕ) → Option (ℕ × ℕ)
years_of first last = years_in (year_of first) (year_of last)
