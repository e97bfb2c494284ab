-- Rules: the command `rates TARIFF CONSTANT`.
use Rattle.std.specs.Prelude.{[], ℕ, ◌++◌, ◌+◌, ◌∷◌, Err, List, None, Ok, Option, Result, Some, codes, decimal, map}
use Rattle.{taxi_units.specs.Number.{money_text}, tariff_check.specs.SoundTariff.{Choice, SoundTariff, values_of}}
use Rattle.{verify_bench.specs.CrossOvers.{cross_over_of}, call_ends.specs.declared.tariff.Refusal.{Refusal}}
use Rattle.call_ends.specs.{Answer.{Answer, shows}, Course.{Command}, Tariffs.{bad_tariff}, TextCommands.{word_command}}
use Rattle.rate_commands.specs.Common.{RateNumbers, Tree, sound_of, tariff_in}
use Rattle.rate_commands.specs.Fineness.{excess_of, fine_above, fine_below, pulses_at_cross_over, weights_under}

-- a number that may be none is written as `none` if it is
abbrev pub or_none : (text : ℕ → List ℕ) → Option ℕ → List ℕ
or_none text None = codes "none"
or_none text (Some number) = text number

-- the parts of a rate's line are the number of the rate and that of its line in the text, its cross-over speed in whole
-- metres an hour, the pulses of an interval at that speed with three decimals, and its excess in percent with one
unfoldable pub place_text : (number line : ℕ) → List ℕ
place_text number line = codes "RATE " ++ (decimal number ++ (codes " LINE " ++ decimal line))

unfoldable pub speed_text : Option ℕ → List ℕ
speed_text speed = codes " CROSSOVER " ++ or_none decimal speed

unfoldable pub pulses_text : Option ℕ → List ℕ
pulses_text pulses = codes " PULSES " ++ or_none (money_text 3) pulses

unfoldable pub excess_text : ℕ → List ℕ
excess_text excess = codes " EXCESS " ++ (money_text 1 excess ++ codes "\n")

-- the line of a rate, if k pulses make a kilometre, has these parts
unfoldable pub rate_line : (k number line : ℕ) → RateNumbers → List ℕ
rate_line k number line r =
    place_text number line ++ (speed_text (cross_over_of r)
    ++ (pulses_text (pulses_at_cross_over (weights_under k r)) ++ excess_text (excess_of (weights_under k r))))

-- a rate of a sound tariff is told with the number of its line
abbrev pub told_rates : List (Choice RateNumbers) → List (ℕ × RateNumbers)
told_rates rates = map (λ (c : Choice RateNumbers). (c.line, c.value)) rates

-- rates have a line each, in their order, and are numbered from the given number on
unfoldable pub rate_lines : (k number : ℕ) → List (ℕ × RateNumbers) → List ℕ
rate_lines k number [] = []
rate_lines k number (r ∷ rates) = rate_line k number r.0 r.1 ++ rate_lines k (number + 1) rates

-- the line of fine constants has the nearest one below a constant and the nearest above it; either may be that constant
unfoldable pub fine_line : (k : ℕ) → List RateNumbers → List ℕ
fine_line k rates =
    codes "FINE " ++ (or_none decimal (fine_below rates k) ++ (codes " " ++ (or_none decimal (fine_above rates k)
    ++ codes "\n")))

-- the rates of a tariff have their lines, and behind these is the line of fine constants
abbrev pub rates_text : (k : ℕ) → SoundTariff → List ℕ
rates_text k t = rate_lines k 1 (told_rates t.rates) ++ fine_line k (values_of t.rates)

-- the answer to a sound tariff shows the lines of its rates; to another text, it says why it has none
abbrev pub rates_answer : (k : ℕ) → Result Tree Refusal → Answer
rates_answer k (Err why) = bad_tariff why
rates_answer k (Ok t) = shows (rates_text k (sound_of t))

-- the command `rates` reads its tariff and prints the text, in a step for each piece and one for the last line
abbrev pub rates_command : (k : ℕ) → Command
rates_command k = word_command (λ text. rates_answer k (tariff_in text))
