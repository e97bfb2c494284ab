-- Rules: the permissible errors, and the verdict on a reading. The law verdicts_name_the_first_fault says that
-- `verdict_of`, of VerdictStages, gives it.
use Rattle.std.specs.{Int.{abs_diff}, Prelude.{ℕ, ◌*◌, ◌≤◌, ◌⊎◌}}
use Rattle.verify_bench.specs.Common.{Expected, Reading, Verdict}
use Rattle.verify_bench.specs.declared.judging.Verdict.TheVariants as verdicts
pub use Rattle.verify_bench.specs.VerdictStages.{verdict_of}

-- a reading is within its permissible error if it is off by at most one part in `parts` of what is expected, or by
-- at most the least error
abbrev pub IsWithin : (parts least expected read : ℕ) → Type 0
IsWithin parts least expected read = (parts * abs_diff expected read ≤ expected) ⊎ (abs_diff expected read ≤ least)

-- a fare passes if it is off by at most a thousandth, or by at most a display step
abbrev pub FarePasses : Expected → Reading → (step : ℕ) → Type 0
FarePasses expected reading step = IsWithin 1000 step expected.fare reading.fare

-- a distance passes if it is off by at most a five-hundredth, or by at most 4,000 mm
abbrev pub DistancePasses : Expected → Reading → Type 0
DistancePasses expected reading = IsWithin 500 4000 expected.hired_mm reading.distance_mm

-- a time passes if it is off by at most a thousandth, or by at most 2 tenths of a second
abbrev pub TimePasses : Expected → Reading → Type 0
TimePasses expected reading = IsWithin 1000 2 expected.ticks reading.tenths

-- a verdict on a reading names the first of fare, distance and time that doesn't pass, and is a pass if all three do
abbrev pub IsVerdict : Expected → Reading → (step : ℕ) → Verdict → Type 0
IsVerdict expected reading step verdicts.Pass =
    FarePasses expected reading step × DistancePasses expected reading × TimePasses expected reading
IsVerdict expected reading step verdicts.Fare = ¬ (FarePasses expected reading step)
IsVerdict expected reading step verdicts.Distance =
    FarePasses expected reading step × ¬ (DistancePasses expected reading)
IsVerdict expected reading step verdicts.Time =
    FarePasses expected reading step × DistancePasses expected reading × ¬ (TimePasses expected reading)
