-- Rules: in which reports every row passes. The law readings_pass_where_each_row_does says that `do_all_pass`, of
-- PassingStages, is true exactly if each row does.
use Rattle.std.specs.Prelude.{ℕ, ◌<◌, ◌≡◌, List, codes, length, max, slice_get}
use Rattle.verify_bench.specs.{Common.{Expected, Reading}, Report.{finding}}
pub use Rattle.verify_bench.specs.PassingStages.{do_all_pass}

-- each row of a report passes if the report has `PASS` at each place of the longer one of its two lists
abbrev pub EachRowPasses : (step : ℕ) → List Expected → List Reading → Type 0
EachRowPasses step expected readings = (place : ℕ) → place < max (length expected) (length readings)
    → finding step (slice_get expected place) (slice_get readings place) ≡ codes "PASS"
