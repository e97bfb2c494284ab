-- Rules: trips as stretches, each under one rate and at one even speed.
use Rattle.std.specs.{List.{All, flat_map, Sorted.{IsPermutation}}, Prelude.{ℕ, ◌*◌, ◌+◌, ◌/◌, List, length, map}}
use Rattle.drive_modes.specs.Charge.{charge_of}
use Rattle.drive_modes.specs.{Common.{Mode, Weights}, Speeds.{IsEvenSpeed, charge_as_one, charged, coarseness}}

-- an interval of a trip has its pulses, and the weights of the rate that was in force
pub record Interval : Type 0 where
  pub weights : Weights
  pub pulses : ℕ

-- an interval is charged by its own weights
abbrev pub interval_charge : Mode → Interval → ℕ
interval_charge mode i = charge_of mode i.weights i.pulses

-- a stretch has the weights of one rate, and the pulses of each of its intervals; at an even speed each has `low`
-- pulses or one more
pub record Stretch : Type 0 where
  pub weights : Weights
  pub low : ℕ
  pub pulses : List ℕ

-- the intervals in a stretch have its weights, and the pulses in their order
abbrev pub intervals_in : Stretch → List Interval
intervals_in s = map (λ p. record { weights = s.weights; pulses = p }) s.pulses

-- intervals are those of stretches if they are the intervals of all of them, in any order: rates may take turns
abbrev pub AreOfStretches : List Stretch → List Interval → Type 0
AreOfStretches stretches intervals = IsPermutation (flat_map intervals_in stretches) intervals

-- each of the stretches is at its even speed
abbrev pub AreEvenSpeeds : List Stretch → Type 0
AreEvenSpeeds stretches = All (λ s. IsEvenSpeed s.low s.pulses) stretches

-- a stretch is charged the sum of the charges of its intervals
abbrev pub stretch_charge : Mode → Stretch → ℕ
stretch_charge mode s = charged mode s.weights s.pulses

-- the least that a stretch is charged in mode S is what its intervals cost as one
abbrev pub least_charge : Stretch → ℕ
least_charge s = charge_as_one s.weights s.pulses

-- the most at an even speed is that and, for each interval, the coarseness over the weight of a pulse
abbrev pub most_charge : Stretch → ℕ
most_charge s = least_charge s + length s.pulses * coarseness s.weights / s.weights.per_pulse
