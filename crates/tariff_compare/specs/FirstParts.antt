-- Rules: which part differs first between two tariffs: of their frames, and of what is in force in a context.
use Rattle.std.specs.Prelude.{ℕ, ⊤, ◌*◌, ◌+◌, ◌<◌, ◌≡◌}
use Rattle.tariff_compare.specs.Common.{ChoiceKind, Decimals, Difference, In, Initial, MeterContext, Minimum, Positions}
use Rattle.tariff_compare.specs.Common.{Rate, Rounded, Step, Supplement, Tree, Zones, display_step, positions_of}
use Rattle.tariff_compare.specs.{Common.{supplement_of, zones_of}, Kinds.{InForce}}

-- the parts of a frame in their order: decimals, display step, rounding, positions, zones, and the supplements by
-- number; what is of a context is no part of it
abbrev pub frame_place : Difference → ℕ
frame_place Decimals = 0
frame_place Step = 1
frame_place Rounded = 2
frame_place Positions = 3
frame_place Zones = 4
frame_place (Supplement number) = 5 + number
frame_place (In kind m) = 0

-- when two tariffs are the same in each part of their frames
abbrev pub IsSameIn : (t u : Tree) → Difference → Type 0
IsSameIn t u Decimals = t.decimals ≡ u.decimals
IsSameIn t u Step = (display_step t).0 ≡ (display_step u).0
IsSameIn t u Rounded = (display_step t).1 ≡ (display_step u).1
IsSameIn t u Positions = positions_of t.lines ≡ positions_of u.lines
IsSameIn t u Zones = zones_of t.lines ≡ zones_of u.lines
IsSameIn t u (Supplement number) = supplement_of t.lines number ≡ supplement_of u.lines number
IsSameIn t u (In kind m) = ⊤

-- a part of the frame differs first if two tariffs aren't the same in it, and are in each part before it
pub record IsFirstOfFrame (t u : Tree) (part : Difference) : Type 0 where
  pub there : ¬ IsSameIn t u part
  pub first : (earlier : Difference) → frame_place earlier < frame_place part → IsSameIn t u earlier

-- the kinds in the order in which they are compared: initial hire fee, minimum fare, rate
abbrev pub kind_place : ChoiceKind → ℕ
kind_place Initial = 0
kind_place Minimum = 1
kind_place Rate = 2

-- a rate is asked for in each context; an initial hire fee and a minimum fare only at a hiring, before the first tick
-- and pulse of the trip
abbrev pub IsAskedFor : ChoiceKind → MeterContext → Type 0
IsAskedFor Rate m = ⊤
IsAskedFor Initial m = (m.ticks ≡ 0) × (m.pulses ≡ 0)
IsAskedFor Minimum m = (m.ticks ≡ 0) × (m.pulses ≡ 0)

-- what is in force here and there is the same in a kind if both rates cost the same, a per b as much as a' per b' for
-- distance and for time; or both fees have one amount and one cover; or both minimum fares have one amount
abbrev pub IsSameBy : ChoiceKind → (one other : InForce) → Type 0
IsSameBy Rate one other =
    (one.rate.a * other.rate.b ≡ other.rate.a * one.rate.b) × (one.rate.c * other.rate.e ≡ other.rate.c * one.rate.e)
IsSameBy Initial one other =
    (one.hiring.amount ≡ other.hiring.amount) × (one.hiring.covers ≡ other.hiring.covers)
IsSameBy Minimum one other = one.hiring.minimum ≡ other.hiring.minimum

-- a kind differs first in a context if it is asked for there and isn't the same, and each kind before it that is asked
-- for is
pub record IsFirstKind (m : MeterContext) (one other : InForce) (kind : ChoiceKind) : Type 0 where
  pub asked : IsAskedFor kind m
  pub there : ¬ IsSameBy kind one other
  pub first : (earlier : ChoiceKind) → kind_place earlier < kind_place kind → IsAskedFor earlier m
      → IsSameBy earlier one other
