-- For proofs: how far the bench has carried out a drive. TripExplanations says what the whole drive comes to.
use Rattle.std.specs.Prelude.{◌++◌, ◌≡◌, List, map}
use Rattle.verify_bench.specs.{Bench.{BenchStands}, TripExplanations.{Explanation, explanation_of, explanations_from}}
use Rattle.verify_bench.specs.Common.{BenchMeter, Context, Event, Expected, Explained, Meter, Setting}
use Rattle.verify_bench.specs.ExpectedReceipts.{hirings_from}

-- a meter of the bench is amid a drive if what was found, with the explanations behind it to which the events left come
-- from the state for which the meter stands, is all to which the drive comes
pub record IsAmidDrive (s : Setting) (all : List Explanation) (left : List Event) (meter : BenchMeter)
    (found : List Explained) : Type 0 where
  pub m : Meter
  pub hired : Context
  pub stands : BenchStands s hired meter m
  pub split : map explanation_of found ++ explanations_from s left m hired ≡ all

-- events were carried out between two meters of the bench if in each drive that goes on with these events the first
-- is amid it before them, and the second behind them
abbrev pub Carries : Setting → List Event → (old new : BenchMeter) → (before after : List Explained) → Type 0
Carries s events old new before after =
    (all : List Explanation) (left : List Event)
    → IsAmidDrive s all (events ++ left) old before → IsAmidDrive s all left new after

-- a meter of the bench is amid what a drive should come to if the hirings that were found, with those behind them to
-- which the events left come from the state for which the meter stands, are all of them
pub record IsAmidExpected (s : Setting) (all : List Expected) (left : List Event) (meter : BenchMeter)
    (found : List Expected) : Type 0 where
  pub m : Meter
  pub hired : Context
  pub stands : BenchStands s hired meter m
  pub split : found ++ hirings_from s left m ≡ all
