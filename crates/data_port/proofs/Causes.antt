-- What a call says of a count of faults if it failed, and if it didn't.
use Rattle.std.proofs.Common.{ℕ, ◌+◌, ◌<◌, ◌≡◌, ◌≤◌, Err, Ok, Result, arith, false, is_err, refl, true}
use Rattle.outside.specs.Faults.{HasCause}

-- a call that didn't fail left the count
pub left_if_not : {A E : Type 0} {before now : ℕ} (r : Result A E) → is_err r ≡ false → HasCause before now r
    → now ≡ before
left_if_not (Ok value) fine cause = cause.kept refl
left_if_not (Err fault) fine cause = absurd (let bad : true ≡ false = fine in cc)

-- one step more, of some that aren't all yet
pub steps_within : (old before now index all : ℕ) → index < all → before ≤ old + index → now ≤ before + 1
    → now ≤ old + all
steps_within old before now index all more so_far one = omega (arith, more, so_far, one)
