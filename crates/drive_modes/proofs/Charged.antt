-- What intervals are charged lies between what their distance and their time alone come to, and both together.
use Rattle.std.proofs.{Common.{[], ℕ, ◌*◌, ◌+◌, ◌∷◌, ◌≡◌, ◌≤◌, List, ap, arith}, lemmas.List.Sums.{sum_by-cons}}
use Rattle.drive_modes.specs.{Charge.{charge_of}, Speeds.{charge_as_one, charged, distance_alone, time_alone}}
use Rattle.drive_modes.{specs.Common.{Double, Mode, Single, Weights}, proofs.Crossover.{charge-greater}}

-- an interval more adds its charge
pub charged_cons : (mode : Mode) (w : Weights) (p : ℕ) (pulses : List ℕ)
    → charged mode w (p ∷ pulses) ≡ charge_of mode w p + charged mode w pulses
charged_cons mode w p pulses = sum_by-cons (charge_of mode w) p pulses

-- to the distance alone it adds what its pulses cost
pub distance_cons : (w : Weights) (p : ℕ) (pulses : List ℕ)
    → distance_alone w (p ∷ pulses) ≡ p * w.per_pulse + distance_alone w pulses
distance_cons w p pulses =
    let cost = ap (λ (s : ℕ). s * w.per_pulse) (sum_by-cons (λ (x : ℕ). x) p pulses) in
    omega (arith, cost)

-- and to the time alone what an interval costs
pub time_cons : (w : Weights) (p : ℕ) (pulses : List ℕ) → time_alone w (p ∷ pulses) ≡ w.per_tick + time_alone w pulses
time_cons w p pulses = omega arith

pub distance_least : (w : Weights) (pulses : List ℕ) → distance_alone w pulses ≤ charged Single w pulses
distance_least w [] = omega arith
distance_least w (p ∷ pulses) =
    let rest = distance_least w pulses in
    omega (arith, rest, charge-greater w p, charged_cons Single w p pulses, distance_cons w p pulses)

pub time_least : (w : Weights) (pulses : List ℕ) → time_alone w pulses ≤ charged Single w pulses
time_least w [] = omega arith
time_least w (p ∷ pulses) =
    let rest = time_least w pulses in
    omega (arith, rest, charge-greater w p, charged_cons Single w p pulses, time_cons w p pulses)

pub as_one_least : (w : Weights) (pulses : List ℕ) → charge_as_one w pulses ≤ charged Single w pulses
as_one_least w pulses = omega (arith, distance_least w pulses, time_least w pulses)

pub both_most : (w : Weights) (pulses : List ℕ)
    → charged Single w pulses ≤ distance_alone w pulses + time_alone w pulses
both_most w [] = omega arith
both_most w (p ∷ pulses) =
    let rest = both_most w pulses in
    omega (
      arith,
      rest,
      charge-greater w p,
      charged_cons Single w p pulses,
      distance_cons w p pulses,
      time_cons w p pulses,
    )

-- mode D charges both
pub both_double : (w : Weights) (pulses : List ℕ)
    → charged Double w pulses ≡ distance_alone w pulses + time_alone w pulses
both_double w [] = omega arith
both_double w (p ∷ pulses) =
    let rest = both_double w pulses in
    omega (arith, rest, charged_cons Double w p pulses, distance_cons w p pulses, time_cons w p pulses)
