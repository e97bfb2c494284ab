-- What is written as an amount is read as that amount.
use Rattle.std.{specs.Char.{digit_value}, proofs.lemmas.{Fmt.{decimal_is_IsNumeral_wide}, Nat.{div-add-mod'}}}
use Rattle.{std.specs.Fmt.{decimal}, taxi_units.specs.Number.{decimal_read, money_text, padded_text, units_of}}
use Rattle.std.{specs.Str.Parse.{IsNumeral, digits_value, digits_value_after}, proofs.Common.{length, refl, suc, zero}}
use Rattle.std.proofs.Common.{[], ℕ, ◌%◌, ◌*◌, ◌++◌, ◌+◌, ◌-◌, ◌/◌, ◌<◌, ◌^◌, ◌∙◌, ◌∷◌, ◌≡◌, ◌≤◌, List, Ok, ap, arith}
use Rattle.std.proofs.Math.Nat.{add-mul, div-le_self, mod-lt, mul_assoc, mul_comm, one-le-pow, pow-suc}
use Rattle.taxi_units.proofs.Digits.{value_append}
use Rattle.taxi_units.proofs.{Form.{read_form, units_good, with_point}, Written.{digits_of_padded, padded_fills}}

shifted : (n v p w : ℕ) → (n * 10 + v) * p + w ≡ n * (p * 10) + ((0 * 10 + v) * p + w)
shifted n v p w =
    let apart : (n * 10 + v) * p ≡ n * 10 * p + v * p = add-mul (n * 10) v p in
    let turned : n * 10 * p ≡ n * (p * 10) = mul_assoc n 10 p ∙ ap (λ (q : ℕ). n * q) (mul_comm 10 p) in
    let none : (0 * 10 + v) * p ≡ v * p = ap (λ (q : ℕ). q * p) (omega arith) in
    omega (arith, apart, turned, none)

-- a number and the digits after it
pub value_after : (n : ℕ) (digits : List ℕ)
    → digits_value_after 10 n digits ≡ n * 10 ^ length digits + digits_value 10 digits
value_after n [] = omega arith
value_after n (c ∷ cs) =
    rw (value_after (n * 10 + digit_value c) cs, value_after (0 * 10 + digit_value c) cs, pow-suc 10 (length cs))
    (shifted n (digit_value c) (10 ^ length cs) (digits_value 10 cs))

-- the units of digits that fill the decimals
pub units_of_parts : (decimals : ℕ) (whole parts : List ℕ) → length parts ≡ decimals
    → units_of decimals whole parts ≡ digits_value 10 whole * 10 ^ decimals + digits_value 10 parts
units_of_parts decimals whole parts e =
    let none : decimals - length parts ≡ 0 = omega arith in
    let value = value_append 0 whole parts ∙ value_after (digits_value 10 whole) parts in
    rw (none, value, e) (omega arith)

read_whole : (n : ℕ) (text : List ℕ) → IsNumeral 10 text → digits_value 10 text ≡ n → n ≤ 10 ^ 12
    → decimal_read 0 text ≡ Ok n
read_whole n text digits value small =
    let units : units_of 0 text [] ≡ n = units_of_parts 0 text [] refl ∙ omega arith in
    read_form 0 text text [] (digits, refl) ∙ (units_good 0 text [] (omega arith) (omega arith) ∙ ap Ok units)

read_parts : (decimals n : ℕ) (whole parts : List ℕ) → IsNumeral 10 whole → IsNumeral 10 parts → length parts ≡ decimals
    → digits_value 10 whole * 10 ^ decimals + digits_value 10 parts ≡ n → n ≤ 10 ^ 12
    → decimal_read decimals (whole ++ 46 ∷ parts) ≡ Ok n
read_parts decimals n whole parts hw hp e value small =
    let units : units_of decimals whole parts ≡ n = units_of_parts decimals whole parts e ∙ value in
    read_form decimals (whole ++ 46 ∷ parts) whole parts (with_point whole parts hw hp)
    ∙ (units_good decimals whole parts (omega arith) (omega arith) ∙ ap Ok units)

pub amounts_read_back : (decimals units : ℕ) → units ≤ 10 ^ 12
    → decimal_read decimals (money_text decimals units) ≡ Ok units
amounts_read_back zero units small =
    let digits = decimal_is_IsNumeral_wide units (omega arith) in
    read_whole units (decimal units) digits.0 digits.1 small
amounts_read_back (suc more) units small =
    let one = 10 ^ suc more in
    let some : 0 < one = one-le-pow (suc more) 10 (omega arith) in
    let whole : units / one ≤ units = div-le_self units one in
    let part : units % one < one = mod-lt units some in
    let part_small : units % one ≤ units = omega (arith, div-add-mod' units one) in
    let above = decimal_is_IsNumeral_wide (units / one) (omega arith) in
    let below = digits_of_padded (suc more) (units % one) (omega arith) in
    let fills = padded_fills (suc more) (units % one) (omega arith) part (omega arith) in
    let value : digits_value 10 (decimal (units / one)) * one + digits_value 10 (padded_text (suc more) (units % one))
    ≡ units = rw (above.1, below.1) (div-add-mod' units one) in
    read_parts (suc more) units (decimal (units / one))
    (padded_text (suc more) (units % one)) above.0 below.0 fills value small
