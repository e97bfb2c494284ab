-- How long texts of numbers and amounts are.
use Rattle.std.{specs.Fmt.{decimal}, proofs.lemmas.Fmt.{decimal_is_IsNumeral_wide, length-decimal-le_wide}}
use Rattle.std.proofs.Common.{ℕ, ◌%◌, ◌*◌, ◌+◌, ◌-◌, ◌/◌, ◌<◌, ◌^◌, ◌∙◌, ◌∷◌, ◌≡◌, ◌≤◌, ap, arith, length}
use Rattle.{std.proofs.Common.{length-append, max, suc, sym, zero}, taxi_units.specs.Number.{money_text, padded_text}}
use Rattle.std.proofs.{Math.Nat.{div-lt_iff_lt-mul, mod-lt, one-le-pow, pow-le-pow_right}, lemmas.Nat.{pow-add}}
use Rattle.taxi_units.proofs.Written.{length_of_padded}

-- a number below a power of ten has no more digits than that has zeros
pub numbers_are_short : (places value : ℕ) → 0 < places → places ≤ 64 → value < 10 ^ places
    → (0 < length (decimal value)) × (length (decimal value) ≤ places)
numbers_are_short places value some few small =
    let most : 10 ^ places ≤ 10 ^ 64 = pow-le-pow_right (omega arith) few in
    ((decimal_is_IsNumeral_wide value (omega arith)).0.0, length-decimal-le_wide places value some small (omega arith))

-- zeros in front fill the width
pub padded_numbers_fill_the_width : (width value : ℕ)
    → length (padded_text width value) ≡ max width (length (decimal value))
padded_numbers_fill_the_width width value = omega (arith, length_of_padded width value)

-- an amount has a point more
pub amounts_are_short : (decimals places units : ℕ) → decimals < places → places ≤ 64 → units < 10 ^ places
    → (0 < length (money_text decimals units)) × (length (money_text decimals units) ≤ places + 1)
amounts_are_short zero places units more few small = let short =
    numbers_are_short places units more few small in omega arith
amounts_are_short (suc d) places units more few small =
    let one = 10 ^ suc d in
    let above = places - suc d in
    let some : 0 < one = one-le-pow (suc d) 10 (omega arith) in
    let split : above + suc d ≡ places = omega arith in
    let product : 10 ^ places ≡ 10 ^ above * one = ap (λ (n : ℕ). 10 ^ n) (sym split) ∙ pow-add 10 above (suc d) in
    let whole_small : units / one < 10 ^ above = (div-lt_iff_lt-mul some).1 (omega arith) in
    let whole = numbers_are_short above (units / one) (omega arith) (omega arith) whole_small in
    let part_small : units % one < one = mod-lt units some in
    let part = numbers_are_short (suc d) (units % one) (omega arith) (omega arith) part_small in
    omega (
      arith,
      length-append (decimal (units / one)) (46 ∷ padded_text (suc d) (units % one)),
      whole,
      part,
      length_of_padded (suc d) (units % one),
    )

-- a number of 128 bits fits into 39 bytes
pub numbers_fit : (value : ℕ) → value < 2 ^ 128 → length (decimal value) ≤ 39
numbers_fit value small = (numbers_are_short 39 value (omega arith) (omega arith) (omega arith)).1

-- an amount of 128 bits fits into 40 bytes
pub amounts_fit : (decimals units : ℕ) → decimals ≤ 3 → units < 2 ^ 128 → length (money_text decimals units) ≤ 40
amounts_fit decimals units few small = (amounts_are_short decimals 39 units (omega arith) (omega arith) (omega arith)).1
