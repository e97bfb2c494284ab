use Rattle.std.{specs.Prelude.{find}, proofs.Common.{[], ◌∷◌, ◌≡◌, ◌≤◌, drop}}
use Rattle.near_commands.specs.{NearTariff.{exponent_of, fit, numbers_of}, Nearest.{measures_at}}
use Rattle.near_commands.proofs.rates.fitting.Given as goal

-- none of the exponents before fits
abbrev pub invariant-loop-less : goal.invariant-loop-less
invariant-loop-less l =
    find (λ j. fit (measures_at j) (numbers_of l.rates)) (drop l.less (7 ∷ 6 ∷ 5 ∷ 4 ∷ 3 ∷ 2 ∷ []))
    ≡ exponent_of (numbers_of l.rates)
