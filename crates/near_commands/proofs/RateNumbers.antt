-- The rates of lines, with the numbers of these.
use Rattle.{std.specs.List.{cons_option}, near_commands.specs.NearTariff.{numbered_rates, numbers_of}}
use Rattle.std.{specs.Option.{option_map}, proofs.Common.{[], ◌∷◌, ◌≡◌, List, None, Option, Some, ap, map, refl}}
use Rattle.near_commands.specs.Common.{Line, RateNumbers, choice_in, choices, rate_part, rates_of, values_of, when_part}

-- without the numbers they are the rates
pub numbers_are_rates : (ls : List Line) → numbers_of (numbered_rates ls) ≡ rates_of ls
numbers_are_rates [] = refl
numbers_are_rates (l ∷ ls) = by (rate_part l.entry) (numbers_are_rates ls)
  where
    by : (o : Option RateNumbers) → numbers_of (numbered_rates ls) ≡ rates_of ls
        → numbers_of (cons_option (option_map (λ (r : RateNumbers). record { line = l.line; rate = r }) o)
        (numbered_rates ls))
        ≡ values_of (cons_option (option_map (λ (value : RateNumbers). record {
          value = value;
          when = when_part l.entry;
          line = l.line;
        }) o) (choices rate_part ls))
    by None rest = rest
    by (Some r) rest = ap (λ (rs : List RateNumbers). r ∷ rs) rest
