-- Numbers that are written digit by digit.
use Rattle.std.{specs.Fmt.{decimal}, proofs.lemmas.{Bool.{cases_lt}, Grind.{replicate_next}, List.{length-replicate}}}
use Rattle.std.{specs.Str.Parse.{AllDigits, IsNumeral, digits_value}, proofs.Math.Nat.{one-le-pow, pow-le-pow_right}}
use Rattle.std.proofs.Common.{[], ℕ, ◌%◌, ◌++◌, ◌+◌, ◌-◌, ◌/◌, ◌<◌, ◌^◌, ◌∙◌, ◌∷◌, ◌≡◌, ◌≤◌, ◌⊎◌, List, ap}
use Rattle.std.proofs.Common.{append_assoc, arith, inl, inr, length, length-append, max, refl, replicate, suc, zero}
use Rattle.std.proofs.lemmas.Fmt.{decimal_digit, decimal_is_IsNumeral_wide, decimal_step_wide, length-decimal-le_wide}
use Rattle.taxi_units.specs.Number.{padded_text}

pub decimal_of_one : (n : ℕ) → n < 10 → decimal n ≡ (48 + n) ∷ []
decimal_of_one n h = decimal_digit n h

pub decimal_of_more : (n : ℕ) → 10 ≤ n → n < 2 ^ 128 → decimal n ≡ decimal (n / 10) ++ ((48 + n % 10) ∷ [])
decimal_of_more n h k = decimal_step_wide n h (omega arith)

pub length_of_more : (n : ℕ) → 10 ≤ n → n < 2 ^ 128 → length (decimal n) ≡ length (decimal (n / 10)) + 1
length_of_more n h k = ap length (decimal_of_more n h k) ∙ length-append (decimal (n / 10)) ((48 + n % 10) ∷ [])

pub append_of_more : (xs : List ℕ) (n : ℕ) → 10 ≤ n → n < 2 ^ 128
    → (xs ++ decimal (n / 10)) ++ ((48 + n % 10) ∷ []) ≡ xs ++ decimal n
append_of_more xs n h k = rw (decimal_of_more n h k, append_assoc) refl

pub decimal_short : (n : ℕ) → n < 2 ^ 128 → length (decimal n) ≤ 39
decimal_short n h = length-decimal-le_wide 39 n (omega arith) (omega arith) (omega arith)

pub decimal_some : (n : ℕ) → n < 2 ^ 128 → 0 < length (decimal n)
decimal_some n h = (decimal_is_IsNumeral_wide n (omega arith)).0.0

pub padded_of_none : (width n : ℕ) → width < 2 → n < 2 ^ 128 → padded_text width n ≡ decimal n
padded_of_none width n h k =
    let none : width - length (decimal n) ≡ 0 = omega (arith, decimal_some n k) in
    rw none refl

one_zero_less : (k : ℕ) → 0 < k → replicate {A = ℕ} k 48 ≡ replicate (k - 1) 48 ++ 48 ∷ []
one_zero_less zero some = absurd (omega arith)
one_zero_less (suc k) some =
    let more : suc k ≡ k + 1 = omega arith in
    let less : suc k - 1 ≡ k = omega arith in
    rw less (ap (λ (n : ℕ). replicate {A = ℕ} n 48) more ∙ replicate_next k 48)

padded_by : (width n : ℕ) → 2 ≤ width → n < 2 ^ 128 → (n < 10) ⊎ (10 ≤ n)
    → padded_text width n ≡ padded_text (width - 1) (n / 10) ++ ((48 + n % 10) ∷ [])
padded_by width n h k (inl few) =
    let none : n / 10 ≡ 0 = omega arith in
    let last : n % 10 ≡ n = omega arith in
    rw (none, last, decimal_digit n few, decimal_digit 0 (omega arith))
    (ap (λ (xs : List ℕ). xs ++ (48 + n) ∷ []) (one_zero_less (width - 1) (omega arith)))
padded_by width n h k (inr more) =
    let step = decimal_of_more n more k in
    let long = length_of_more n more k in
    let zeros : width - length (decimal n) ≡ width - 1 - length (decimal (n / 10)) = omega arith in
    rw (zeros, step, append_assoc) refl

pub padded_of_more : (width n : ℕ) → 2 ≤ width → n < 2 ^ 128
    → padded_text width n ≡ padded_text (width - 1) (n / 10) ++ ((48 + n % 10) ∷ [])
padded_of_more width n h k = padded_by width n h k (cases_lt n 10)

pub length_padded_of_more : (width n : ℕ) → 2 ≤ width → n < 2 ^ 128
    → length (padded_text width n) ≡ length (padded_text (width - 1) (n / 10)) + 1
length_padded_of_more width n h k =
    ap length (padded_of_more width n h k) ∙ length-append (padded_text (width - 1) (n / 10)) ((48 + n % 10) ∷ [])

pub append_padded_of_more : (xs : List ℕ) (width n : ℕ) → 2 ≤ width → n < 2 ^ 128
    → (xs ++ padded_text (width - 1) (n / 10)) ++ ((48 + n % 10) ∷ []) ≡ xs ++ padded_text width n
append_padded_of_more xs width n h k = rw (append_assoc, padded_of_more width n h k) refl

pub padded_short : (width n : ℕ) → n < 2 ^ 64 → length (padded_text width n) ≤ max width 20
padded_short width n h =
    let digits : length (decimal n) ≤ 20 = length-decimal-le_wide 20 n (omega arith) (omega arith) (omega arith) in
    omega (
      arith,
      length-append (replicate (width - length (decimal n)) 48) (decimal n),
      length-replicate {A = ℕ} (width - length (decimal n)) 48,
    )

pub powers_of_ten : (decimals : ℕ) → decimals ≤ 3 → (0 < 10 ^ decimals) × (10 ^ decimals ≤ 1000)
powers_of_ten decimals few = (one-le-pow decimals 10 (omega arith), pow-le-pow_right (omega arith) few)

zeros_digits : (k : ℕ) (digits : List ℕ) → AllDigits 10 digits → AllDigits 10 (replicate k 48 ++ digits)
zeros_digits zero digits all = all
zeros_digits (suc k) digits all = (omega arith, zeros_digits k digits all)

zeros_value : (k : ℕ) (digits : List ℕ) → digits_value 10 (replicate k 48 ++ digits) ≡ digits_value 10 digits
zeros_value zero digits = refl
zeros_value (suc k) digits = zeros_value k digits

-- zeros in front change no value
pub digits_of_padded : (width n : ℕ) → n < 2 ^ 128
    → IsNumeral 10 (padded_text width n) × (digits_value 10 (padded_text width n) ≡ n)
digits_of_padded width n h =
    let digits = decimal_is_IsNumeral_wide n (omega arith) in
    let zeros = width - length (decimal n) in
    let some : 0 < length (padded_text width n) =
    omega (arith, length-append (replicate zeros 48) (decimal n), decimal_some n h) in
    ((some, zeros_digits zeros (decimal n) digits.0.1), zeros_value zeros (decimal n) ∙ digits.1)

pub length_of_padded : (width n : ℕ) → length (padded_text width n) ≡ width - length (decimal n) + length (decimal n)
length_of_padded width n = omega (
  arith,
  length-append (replicate (width - length (decimal n)) 48) (decimal n),
  length-replicate {A = ℕ} (width - length (decimal n)) 48,
)

pub padded_within : (k width n : ℕ) → 0 < k → width ≤ k → n < 10 ^ k → n < 2 ^ 128 → length (padded_text width n) ≤ k
padded_within k width n some narrow small h =
    omega (arith, length_of_padded width n, length-decimal-le_wide k n some small (omega arith))

pub padded_fills : (width n : ℕ) → 0 < width → n < 10 ^ width → n < 2 ^ 128 → length (padded_text width n) ≡ width
padded_fills width n some small h =
    omega (arith, length_of_padded width n, length-decimal-le_wide width n some small (omega arith))

-- the parts of an amount are short enough for a draft
pub ruleset amounts_are_short = (decimal_short, padded_short, powers_of_ten)

-- a number is its one digit, or the digits of a tenth of it and its last digit
pub ruleset number_digit_by_digit = (decimal_of_one, length_of_more, append_of_more)

-- a padded number is the number, or a tenth of it in a narrower width and its last digit
pub ruleset padded_digit_by_digit = (padded_of_none, length_padded_of_more, append_padded_of_more)
