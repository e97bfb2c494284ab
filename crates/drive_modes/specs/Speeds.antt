-- Rules: what measuring intervals cost under one rate, and even speeds.
use Rattle.{std.specs.List.{All, sum_by}, drive_modes.specs.{Charge.{charge_of}, Common.{Mode, Weights}, Speed.{Rate}}}
use Rattle.std.specs.Prelude.{ℕ, ◌%◌, ◌*◌, ◌++◌, ◌+◌, ◌-◌, ◌/◌, ◌≡◌, ◌⊎◌, List, length, max, replicate, sum}

-- intervals are given by their pulses, in order; their charge is the sum of the charge of each
abbrev pub charged : Mode → Weights → List ℕ → ℕ
charged mode w pulses = sum_by (charge_of mode w) pulses

-- the distance alone costs as much as all pulses
abbrev pub distance_alone : Weights → List ℕ → ℕ
distance_alone w pulses = sum pulses * w.per_pulse

-- the time alone costs as much as all intervals
abbrev pub time_alone : Weights → List ℕ → ℕ
time_alone w pulses = length pulses * w.per_tick

-- charged as one interval, they cost the greater of both, whichever interval had which pulses
abbrev pub charge_as_one : Weights → List ℕ → ℕ
charge_as_one w pulses = max (distance_alone w pulses) (time_alone w pulses)

-- the speed is even if each interval has n pulses or n + 1
abbrev pub IsEvenSpeed : (n : ℕ) → List ℕ → Type 0
IsEvenSpeed n pulses = All (λ p. (p ≡ n) ⊎ (p ≡ n + 1)) pulses

-- how coarse weights are: the rest of an interval's weight above whole pulses, times what that rest lacks to one more
-- pulse
abbrev pub coarseness : Weights → ℕ
coarseness w = w.per_tick % w.per_pulse * (w.per_pulse - w.per_tick % w.per_pulse)

-- the weights of a rate itself, with k pulses to a kilometre, need no common measure: p pulses cost as much as an
-- interval if p * (10,000 a e) is c b k
abbrev pub own_weights : Rate → (k : ℕ) → Weights
own_weights rate k = record { per_pulse = 10000 * rate.a * rate.e; per_tick = rate.c * rate.b * k }

-- at the cross-over speed there are as many intervals as a pulse weighs, and as many pulses as an interval weighs; at
-- an even speed, each interval has the most whole pulses that cost no more than it, or one more
abbrev pub at_cross_over : Weights → List ℕ
at_cross_over w = replicate (w.per_pulse - w.per_tick % w.per_pulse) (w.per_tick / w.per_pulse)
    ++ replicate (w.per_tick % w.per_pulse) (w.per_tick / w.per_pulse + 1)
