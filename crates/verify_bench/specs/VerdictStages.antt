-- By law: the verdict on a reading, as three tests give it. Verdicts says what it means, by the law
-- `verdicts_name_the_first_fault`.
use Rattle.std.specs.{Int.{abs_diff}, Prelude.{ℕ, ◌*◌, Bool, false, true}}
use Rattle.{taxi_units.specs.Test.{Test, at_most, either}, verify_bench.specs.Common.{Expected, Reading, Verdict}}
use Rattle.verify_bench.specs.declared.judging.Verdict.TheVariants as verdicts

-- a reading is found within its permissible error by comparing its error with the two limits
abbrev pub within_test : (parts least expected read : ℕ) → Test
within_test parts least expected read =
    either (at_most (parts * abs_diff expected read) expected) (at_most (abs_diff expected read) least)

-- the verdict follows from whether fare, distance and time pass, of which the first that does not is named
abbrev pub verdict_by : (fare distance time : Bool) → Verdict
verdict_by false distance time = verdicts.Fare
verdict_by true false time = verdicts.Distance
verdict_by true true false = verdicts.Time
verdict_by true true true = verdicts.Pass

-- the verdict on a reading follows from the tests of its fare, its distance and its time
abbrev pub verdict_of : Expected → Reading → (step : ℕ) → Verdict
verdict_of expected reading step = verdict_by
    (within_test 1000 step expected.fare reading.fare).passes
    (within_test 500 4000 expected.hired_mm reading.distance_mm).passes
    (within_test 1000 2 expected.ticks reading.tenths).passes
