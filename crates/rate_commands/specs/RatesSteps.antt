-- For proofs: the rates that the program has of a tariff. Rates says what is printed of them.
use Rattle.{std.specs.Prelude.{ℕ, List, map}, tariff_check.specs.declared.choice.Choice.{Choice}}
use Rattle.rate_commands.specs.Common.{RateNumbers}

-- a rate of the program is told with the number of its line
abbrev pub own_rates : List (Choice RateNumbers) → List (ℕ × RateNumbers)
own_rates rates = map (λ (c : Choice RateNumbers). (c.line, c.value)) rates
