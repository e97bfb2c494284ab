-- The days that are kept.
use Rattle.std.proofs.Common.{[], ℕ, ◌+◌, ◌≡◌, arith, refl, suc}
use Rattle.tariff_compare.specs.{Common.{TableParts}, Grids.{day_at, day_in, days_until, with_day}}

pub days_none : (one other : TableParts) → days_until one other 0 ≡ []
unfolding days_until
days_none one other = refl

pub next_day : (one other : TableParts) (n : ℕ)
    → days_until one other (suc n) ≡ with_day (days_until one other n) (day_in one other (day_at n))
unfolding days_until
next_day one other n = refl

-- one place more
pub days_more : (one other : TableParts) (n : ℕ)
    → days_until one other (n + 1) ≡ with_day (days_until one other n) (day_in one other (day_at n))
days_more one other n =
    let next : n + 1 ≡ suc n = omega arith in
    rw next (next_day one other n)
