-- For proofs: how many steps are left to a look-up that halves what it looks through. The law each_step_halves says how
-- it goes on.
use Rattle.std.specs.Prelude.{ℕ, ◌+◌, ◌<◌, ◌^◌, ◌≤◌}

-- a look-up with `spent` steps taken ends by `bound` steps if those left are enough to halve a stretch of that width
-- down to nothing
pub record EndsWithin (spent bound width : ℕ) : Type 0 where
  pub rounds : ℕ
  pub room : spent + rounds ≤ bound
  pub fits : width < 2 ^ rounds
