-- What is in its range fits the bytes that a table has for it, and what fits is read again.
use Rattle.std.specs.{Int.{w32, Signed.{le_z_yes}}, List.{sum_by}}
use Rattle.std.proofs.Common.{[], ℕ, ℤ, ◌*◌, ◌+◌, ◌-◌, ◌<◌, ◌^◌, ◌∙◌, ◌≡◌, ◌≤ℤ◌, ◌≤◌, All, FitsSigned, List, T}
use Rattle.std.proofs.Common.{add-le-add, ap, append-nil, arith, flat_map, int_le, le_of_eq, le_of_suc-le-suc, le_refl}
use Rattle.std.proofs.Common.{le_trans, length, lit<, lt_of_le_of_lt, ltb, mul-le-mul_left, neg_ℤ, not-suc-le-zero, pos}
use Rattle.std.proofs.{Common.{refl, suc, sym, zero, zero-le}, lemmas.{Int.{ints}, List.Sums.{get_or-le-sum_by}}}
use Rattle.slot_bodies.specs.Codec.{Codec, row_long, row_size}

-- a number of at most another is below a bound that is above the other
pub below_of_most : {n most bound : ℕ} → n ≤ most → T (ltb most bound) → n < bound
below_of_most few above = lt_of_le_of_lt few (lit< above)

-- a number of at most so many times another is below a bound that is above as many times the most that the other can be
pub below_of_times : (times : ℕ) {n other most bound : ℕ} → n ≤ times * other → other ≤ most
    → T (ltb (times * most) bound) → n < bound
below_of_times times few other_few above = below_of_most (le_trans few (mul-le-mul_left times other_few)) above

-- the parts of a sum are each below what the sum is below
pub parts_below : {A : Type 0} (part : A → ℕ) (row : List A) {other all bound : ℕ} → sum_by part row + other ≡ all
    → all < bound → All (λ a. part a < bound) row × (other < bound)
parts_below part row sum below =
    (λ k d within. omega (arith, get_or-le-sum_by part row k d within, sum, below), omega (arith, sum, below))

-- a signed number in a range fits four bytes if the ends of the range do
pub fits_of_range : {n first last : ℤ} → (first ≤ℤ n) × (n ≤ℤ last) → T (int_le (neg_ℤ (pos (2 ^ 31))) first)
    → T (int_le last (pos (2 ^ 31 - 1))) → FitsSigned w32 n
fits_of_range {n = n} {first = first} {last = last} within first_fits last_fits =
    let first_is : neg_ℤ (pos (2 ^ 31)) ≤ℤ first = le_z_yes first_fits in
    let last_is : last ≤ℤ pos (2 ^ 31 - 1) = le_z_yes last_fits in
    record { sfits = grind (arith, ints, within.0, within.1, first_is, last_is) }

-- more values take at least as many bytes
row_size-le : (few most size : ℕ) → few ≤ most → row_size few size ≤ row_size most size
row_size-le zero most size less = zero-le
row_size-le (suc few) zero size less = absurd (not-suc-le-zero less)
row_size-le (suc few) (suc most) size less =
    add-le-add (le_refl size) (row_size-le few most size (le_of_suc-le-suc less))

-- a row of at most so many values takes at most the bytes of so many
pub row_fits : {A : Type 0} (codec : Codec A) (row : List A) {most : ℕ} → length row ≤ most → All codec.Fits row
    → length (flat_map codec.spell row) ≤ row_size most codec.size
row_fits codec row {most = most} few fits =
    le_trans (le_of_eq (row_long codec row fits)) (row_size-le (length row) most codec.size few)

-- a value that fits is read again from its bytes alone
pub alone_again : {A : Type 0} (codec : Codec A) (a : A) → codec.Fits a → codec.read (codec.spell a) 0 ≡ a
alone_again codec a fits =
    ap (λ (l : List ℕ). codec.read l 0) (sym (append-nil (codec.spell a))) ∙ codec.again a [] [] 0 fits refl
