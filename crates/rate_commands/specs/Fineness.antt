-- Rules: how fine a constant is for the rates of a tariff in mode S.
use Rattle.std.specs.{List.{list_all, range_with_len}, Prelude.{find, if◌then◌else◌, map, min, nat_le, true}}
use Rattle.std.specs.Prelude.{ℕ, ◌%◌, ◌*◌, ◌+◌, ◌-◌, ◌/◌, ◌<◌, ◌==◌, ◌≡◌, ◌≤◌, ◌⊎◌, Bool, List, None, Option, Some}
use Rattle.drive_modes.specs.{Speed.{Rate}, Speeds.{IsEvenSpeed, charge_as_one, charged, coarseness, own_weights}}
use Rattle.drive_modes.specs.declared.charges.Mode.TheVariants.{Single}
use Rattle.rate_commands.specs.Common.{RateNumbers, Weights, greatest_constant, least_constant}

-- a rate of a tariff has the same amounts for the same distance and time
abbrev pub rate_of : RateNumbers → Rate
rate_of r = record { a = r.a; b = r.b; c = r.c; e = r.e }

-- the own weights of a rate, if k pulses make a kilometre, need no common measure
abbrev pub weights_under : (k : ℕ) → RateNumbers → Weights
weights_under k r = own_weights (rate_of r) k

-- at the cross-over speed an interval has as many pulses as cost what it costs, counted in thousandths and rounded
-- down; a rate whose distance costs nothing has no such speed
abbrev pub pulses_at_cross_over : Weights → Option ℕ
pulses_at_cross_over w = if w.per_pulse == 0 then None else Some (1000 * w.per_tick / w.per_pulse)

-- a quotient is rounded up if one more is taken for a remainder
abbrev pub rounded_up : (number divisor : ℕ) → ℕ
rounded_up number divisor = number / divisor + min 1 (number % divisor)

-- the excess of weights is their coarseness as a share of their product, in tenths of a percent and rounded up; it is 0
-- if pulses or intervals cost nothing, since the coarseness is
unfoldable pub excess_of : Weights → ℕ
excess_of w = rounded_up (1000 * coarseness w) (w.per_pulse * w.per_tick)

-- weights stay within an excess if mode S charges no even speed more than the excess above what its intervals cost as
-- one
abbrev pub StaysWithin : (excess : ℕ) → Weights → Type 0
StaysWithin excess w =
    (n : ℕ) (pulses : List ℕ) → IsEvenSpeed n pulses
    → 1000 * charged Single w pulses ≤ (1000 + excess) * charge_as_one w pulses

-- the test `is_fine` is true of a constant if the excess of each rate is at most 10 percent
abbrev pub is_fine : List RateNumbers → (k : ℕ) → Bool
is_fine rates k = list_all (λ (r : RateNumbers). nat_le (excess_of (weights_under k r)) 100) rates

-- the constants from one on down to the least, and up to the greatest
abbrev pub constants_down : (k : ℕ) → List ℕ
constants_down k = map (λ n. k - n) (range_with_len 0 (k + 1 - least_constant))

abbrev pub constants_up : (k : ℕ) → List ℕ
constants_up k = map (λ n. k + n) (range_with_len 0 (greatest_constant + 1 - k))

-- the fine constants next to one are the first that is fine from it down, and from it up, if there is one
abbrev pub fine_below : List RateNumbers → (k : ℕ) → Option ℕ
fine_below rates k = find (is_fine rates) (constants_down k)

abbrev pub fine_above : List RateNumbers → (k : ℕ) → Option ℕ
fine_above rates k = find (is_fine rates) (constants_up k)

-- a fine constant is the nearest below another, or that one itself, if none that is between them is fine
pub record IsNearestBelow (rates : List RateNumbers) (k d : ℕ) : Type 0 where
  pub from : least_constant ≤ d
  pub to : d ≤ k
  pub fine : is_fine rates d ≡ true
  pub nearest : (other : ℕ) → d < other → other ≤ k → is_fine rates other ≡ true → ⊥

-- it is the nearest above another, or that one itself, likewise
pub record IsNearestAbove (rates : List RateNumbers) (k e : ℕ) : Type 0 where
  pub from : k ≤ e
  pub to : e ≤ greatest_constant
  pub fine : is_fine rates e ≡ true
  pub nearest : (other : ℕ) → k ≤ other → other < e → is_fine rates other ≡ true → ⊥
