-- The local day and minute of a second of a meter.
use Rattle.std.proofs.Common.{[], ℕ, ℤ, ◌+ℤ◌, ◌+◌, ◌-◌, ◌∷◌, ◌≡◌, ◌≤ℤ◌, ◌≤◌, All, Bool, List, arith, false}
use Rattle.std.proofs.Common.{if◌then◌else◌, nat_le, neg_ℤ, negsuc, pos, refl, subst, suc, sym, true, unsigned_abs}
use Rattle.std.proofs.lemmas.{Int.{ints}, List.Elements.{All-from_get_or, All-head, All-tail}}
use Rattle.{taxi_units.specs.Time.{first_second}, interval_clock.specs.Offsets.{IsOffset, offset_at, offset_from}}
use Rattle.same_tariffs.specs.Common.{IsOffsetList, IsSecond, day_of, local_second}

chosen : (b : Bool) (one other : ℤ) → IsOffset one → IsOffset other → IsOffset (if b then one else other)
chosen true one other is also = is
chosen false one other is also = also

in-force : (before : ℤ) (pairs : List (ℕ × ℤ)) (second : ℕ) → IsOffset before → All (λ (pair : ℕ × ℤ). IsOffset pair.1)
    pairs → IsOffset (offset_from before pairs second)
in-force before [] second is each = is
in-force before (pair ∷ pairs) second is each =
    in-force (if nat_le pair.0 second then pair.1 else before) pairs second
    (chosen (nat_le pair.0 second) pair.1 before (All-head (λ (p : ℕ × ℤ). IsOffset p.1) pair pairs each) is)
    (All-tail (λ (p : ℕ × ℤ). IsOffset p.1) pair pairs each)

-- the offset of a second is in range
pub offset-in : (pairs : List (ℕ × ℤ)) (second : ℕ) → IsOffsetList pairs → IsOffset (offset_at pairs second)
offset-in pairs second list =
    in-force (pos 0) pairs second (omega (arith, ints), omega (arith, ints))
    (All-from_get_or (λ (p : ℕ × ℤ). IsOffset p.1) pairs (0, pos 0) (λ i below. (list.in_range i below).1))

later : (second : ℕ) (offset : ℤ) → first_second ≤ second → neg_ℤ (pos 50400) ≤ℤ offset → (n : ℕ)
    × (pos second +ℤ offset ≡ pos n)
later second (pos a) from least = (second + a, omega (arith, ints))
later second (negsuc a) from least = (second - suc a, omega (arith, ints))

-- the local day of a second of a meter is no earlier than 1970
pub day-from : (pairs : List (ℕ × ℤ)) (second : ℕ) → IsOffsetList pairs → IsSecond second
    → day_of (local_second pairs second) ≡ pos (unsigned_abs (day_of (local_second pairs second)))
day-from pairs second list is =
    let found = later second (offset_at pairs second) is.0 (offset-in pairs second list).0 in
    subst (λ (z : ℤ). day_of z ≡ pos (unsigned_abs (day_of z))) (sym found.1) refl
