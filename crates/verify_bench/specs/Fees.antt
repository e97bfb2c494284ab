-- Rules: the fees of a hiring, with the numbers of their lines in the text.
use Rattle.std.specs.{Option.{unwrap_or}, Prelude.{ℕ, List, None, Option, Some, get_or}}
use Rattle.verify_bench.specs.Common.{Context, HiringFees, SoundTariff, at_hiring, fees_in_force, lines_of}
use Rattle.verify_bench.specs.Common.{place_in_force}

-- the line in a list of line numbers at a place, counted from 0, is the number there, and there is none without a place
abbrev pub line_at_place : (lines : List ℕ) → (place : Option ℕ) → Option ℕ
line_at_place lines None = None
line_at_place lines (Some place) = Some (get_or lines place 0)

-- the fees of a hiring in a context are those in force at it, with the line of the initial hire fee that holds first
-- there, and with that of the minimum fare, if one holds
abbrev pub fees_of_hiring : SoundTariff → Context → HiringFees
fees_of_hiring tariff x = record {
  amounts = fees_in_force tariff x;
  initial_line = get_or (lines_of tariff.initials) (unwrap_or (place_in_force tariff.initials (at_hiring x)) 0) 0;
  minimum_line = line_at_place (lines_of tariff.minimums) (place_in_force tariff.minimums (at_hiring x));
}
