-- Rules: the cross-over speeds of a tariff's rates, a line each.
use Rattle.std.specs.Prelude.{[], ℕ, ◌*◌, ◌++◌, ◌+◌, ◌/◌, ◌==◌, ◌∷◌, List, None, Option, Some, codes, decimal}
use Rattle.std.specs.Prelude.{if◌then◌else◌}
use Rattle.verify_bench.specs.Common.{RateNumbers, SoundTariff, values_of}

-- the cross-over speed of a rate is the speed at which its distance and its time cost the same, in whole metres an
-- hour; a rate whose distance costs nothing has none
abbrev pub cross_over_of : RateNumbers → Option ℕ
cross_over_of r = if r.a == 0 then None else Some (3600 * r.c * r.b / (r.a * r.e))

-- a speed is written as its number with ` m/h` behind it, or as `none`
abbrev pub speed_text : Option ℕ → List ℕ
speed_text None = codes "none"
speed_text (Some speed) = decimal speed ++ codes " m/h"

-- the line of a rate has the number of the rate and its cross-over speed
abbrev pub cross_over_line : (number : ℕ) → RateNumbers → List ℕ
cross_over_line number r =
    codes "CROSSOVER " ++ (decimal number ++ (codes " " ++ (speed_text (cross_over_of r) ++ codes "\n")))

-- rates have a line each, in their order, and are numbered from the given number on
unfoldable pub cross_over_lines : (number : ℕ) → List RateNumbers → List ℕ
cross_over_lines number [] = []
cross_over_lines number (r ∷ rates) = cross_over_line number r ++ cross_over_lines (number + 1) rates

-- a tariff gives a line of cross-over speed for each of its rates, numbered from 1
abbrev pub cross_overs_text : SoundTariff → List ℕ
cross_overs_text tariff = cross_over_lines 1 (values_of tariff.rates)
