-- By law: whether every row of a report passes, as a test of place after place. PassedReports says in which reports it
-- does, by the law `readings_pass_where_each_row_does`.
use Rattle.std.specs.Prelude.{ℕ, ◌&&◌, Bool, List, None, Option, Some, false, length, max, slice_get, suc, true, zero}
use Rattle.verify_bench.specs.{Common.{Expected, Reading, Verdict}, VerdictStages.{verdict_of}}
use Rattle.verify_bench.specs.declared.judging.Verdict.TheVariants as verdicts

-- a verdict is a pass if it is none of the three faults
abbrev pub is_pass : Verdict → Bool
is_pass verdicts.Pass = true
is_pass verdicts.Fare = false
is_pass verdicts.Distance = false
is_pass verdicts.Time = false

-- a place passes if it has both a receipt and a reading, and the verdict is a pass
abbrev pub does_place_pass : (step : ℕ) → Option Expected → Option Reading → Bool
does_place_pass step None reading = false
does_place_pass step (Some expected) None = false
does_place_pass step (Some expected) (Some reading) = is_pass (verdict_of expected reading step)

-- the first places of two lists pass if each of them does
unfoldable pub do_places_pass : (step : ℕ) → List Expected → List Reading → (places : ℕ) → Bool
do_places_pass step expected readings zero = true
do_places_pass step expected readings (suc places) =
    does_place_pass step (slice_get expected places) (slice_get readings places)
    && do_places_pass step expected readings places

-- two lists pass if all places of the longer one do
abbrev pub do_all_pass : (step : ℕ) → List Expected → List Reading → Bool
do_all_pass step expected readings = do_places_pass step expected readings (max (length expected) (length readings))
