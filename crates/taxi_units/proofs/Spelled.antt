-- The texts of numbers and amounts are the only ones with their digits.
use Rattle.std.specs.{Char.{digit_value}, Fmt.{decimal}, Str.Parse.{AllDigits, digits_value}}
use Rattle.std.proofs.Common.{[], ℕ, ◌%◌, ◌*◌, ◌++◌, ◌+◌, ◌/◌, ◌<◌, ◌^◌, ◌↔◌, ◌∙◌, ◌∷◌, ◌≡◌, ◌≢◌, ◌≤◌, List, ap, arith}
use Rattle.std.proofs.{Common.{get_or, inl, inr, length, refl, subst, suc, sym, zero}, lemmas.Bool.Decides.{nat_tests}}
use Rattle.std.proofs.Math.Nat.{div-le_self, mod-lt, mul-le-mul_right, one-le-pow, pow-le-pow_right}
use Rattle.std.proofs.lemmas.{Bool.{cases_lt}, Fmt.{decimal_by_steps_wide, decimal_digit, decimal_is_IsNumeral_wide}}
use Rattle.std.proofs.lemmas.{Int.Digits.{digits_value-lt}, Nat.{div-add-mod', div-mul-add, mod-mul-add}}
use Rattle.taxi_units.specs.{Decimal.{IsDecimal}, Written.{HasNoZeroInFront, IsAmountText, IsNumberText, IsPaddedText}}
use Rattle.taxi_units.{specs.Number.{money_text, padded_text, units_of}, proofs.Amounts.{units_of_parts, value_after}}
use Rattle.taxi_units.proofs.{Digits.{digit_value_is}, Written.{digits_of_padded, length_of_padded, padded_fills}}
use Rattle.taxi_units.proofs.{Form.{with_point}, Front.{test_of_digit}}

-- digits and a digit before them
value_cons : (c : ℕ) (cs : List ℕ) → digits_value 10 (c ∷ cs) ≡ digit_value c * 10 ^ length cs + digits_value 10 cs
value_cons c cs =
    let first : 0 * 10 + digit_value c ≡ digit_value c = omega arith in
    rw first (value_after (digit_value c) cs)

digit_is : (c : ℕ) → digit_value c < 10 → c ≡ 48 + digit_value c
digit_is c h =
    let value = digit_value_is c (test_of_digit c h) in
    let test = test_of_digit c h in
    grind (arith, nat_tests)

-- a first digit and what it leaves are found from their sum
parted : (a v b w p : ℕ) → v < p → w < p → a * p + v ≡ b * p + w → (a ≡ b) × (v ≡ w)
parted a v b w p hv hw e =
    let first : a ≡ b = sym (div-mul-add a p v hv) ∙ (ap (λ (n : ℕ). n / p) e ∙ div-mul-add b p w hw) in
    let rest : a * p + v ≡ a * p + w = e ∙ sym (ap (λ (n : ℕ). n * p + w) first) in
    (first, omega arith)

-- digits of one length and one value are the same
pub same_digits : (xs ys : List ℕ) → AllDigits 10 xs → AllDigits 10 ys → length xs ≡ length ys
    → digits_value 10 xs ≡ digits_value 10 ys → xs ≡ ys
same_digits [] [] hx hy long value = refl
same_digits [] (y ∷ ys) hx hy long value = absurd (omega arith)
same_digits (x ∷ xs) [] hx hy long value = absurd (omega arith)
same_digits (x ∷ xs) (y ∷ ys) hx hy long value =
    let length_is : length xs ≡ length ys = omega arith in
    let below : digits_value 10 ys < 10 ^ length xs = rw length_is (digits_value-lt 10 ys hy.1) in
    let second : digits_value 10 (y ∷ ys) ≡ digit_value y * 10 ^ length xs + digits_value 10 ys =
    rw length_is (value_cons y ys) in
    let sums = sym (value_cons x xs) ∙ (value ∙ second) in
    let parts = parted (digit_value x) (digits_value 10 xs) (digit_value y) (digits_value 10 ys) (10 ^ length xs)
    (digits_value-lt 10 xs hx.1) below sums in
    let first : x ≡ y = digit_is x hx.0 ∙ (ap (λ (n : ℕ). 48 + n) parts.0 ∙ sym (digit_is y hy.0)) in
    let rest : xs ≡ ys = same_digits xs ys hx.1 hy.1 length_is parts.1 in
    cc

-- a first digit that isn't zero makes a number as long
value_least : (c : ℕ) (cs : List ℕ) → digit_value c < 10 → c ≢ 48 → 10 ^ length cs ≤ digits_value 10 (c ∷ cs)
value_least c cs digit not_zero =
    let first : 1 ≤ digit_value c = omega (arith, digit_is c digit) in
    omega (arith, value_cons c cs, mul-le-mul_right (10 ^ length cs) first)

-- of two texts of a number, none is longer
no_longer : (value : ℕ) (xs ys : List ℕ) → IsNumberText value xs → IsNumberText value ys → length xs ≤ length ys
no_longer value [] ys h k = omega arith
no_longer value (x ∷ xs) ys h k =
    elim (cases_lt (length ys) (length (x ∷ xs))) [
      | inl shorter ↦
          let some : 0 < length ys = k.digits.0 in
          let not_zero : x ≢ 48 = λ e. omega (arith, h.front e) in
          let least = value_least x xs h.digits.1.0 not_zero in
          let more : 10 ^ length ys ≤ 10 ^ length xs = pow-le-pow_right (omega arith) (omega arith) in
          absurd (omega (arith, least, more, digits_value-lt 10 ys k.digits.1, h.value_is, k.value_is))
      | inr upto ↦ upto
    ]

-- so a number has one
one_text : (value : ℕ) (xs ys : List ℕ) → IsNumberText value xs → IsNumberText value ys → xs ≡ ys
one_text value xs ys h k =
    same_digits xs ys h.digits.1 k.digits.1 (omega (arith, no_longer value xs ys h k, no_longer value ys xs k h))
    (h.value_is ∙ sym k.value_is)

abbrev ZeroFirst : ℕ → List ℕ → Type 0
ZeroFirst n digits = (0 < length digits) × (get_or digits 0 0 ≡ 48 → n ≡ 0)

zero_first_more : (n last : ℕ) (digits : List ℕ) → 10 ≤ n → ZeroFirst (n / 10) digits
    → ZeroFirst n (digits ++ last ∷ [])
zero_first_more n last [] more h = absurd (omega (arith, h.0))
zero_first_more n last (d ∷ ds) more h = (omega arith, λ e. absurd (omega (arith, h.1 e)))

-- only zero begins with a zero
zero_first : (n : ℕ) → n < 10 ^ 64 → ZeroFirst n (decimal n)
zero_first n small = decimal_by_steps_wide ZeroFirst (λ m few. (omega arith, λ e. omega arith))
    (λ m digits more h. zero_first_more m (48 + m % 10) digits more h) n small

-- the text of a number
pub decimal_is_text : (value : ℕ) → value < 2 ^ 128 → IsNumberText value (decimal value)
decimal_is_text value small =
    let digits = decimal_is_IsNumeral_wide value (omega arith) in
    record {
      digits = digits.0;
      value_is = digits.1;
      front = λ e.
          let zero_is : value ≡ 0 = (zero_first value (omega arith)).1 e in
          ap (λ (n : ℕ). length (decimal n)) zero_is ∙ ap length (decimal_digit 0 (omega arith));
    }

pub numbers_are_written_by_their_digits : (value : ℕ) (text : List ℕ) → value < 2 ^ 128 → (decimal value ≡ text)
    ↔ IsNumberText value text
numbers_are_written_by_their_digits value text small = (
  λ e. subst (IsNumberText value) e (decimal_is_text value small),
  λ h. one_text value (decimal value) text (decimal_is_text value small) h,
)

-- the same with zeros in front
padded_is_text : (width value : ℕ) → value < 2 ^ 128 → IsPaddedText width value (padded_text width value)
padded_is_text width value small =
    let digits = digits_of_padded width value small in
    record { digits = digits.0; value_is = digits.1; length_is = omega (arith, length_of_padded width value) }

pub padded_numbers_are_written_by_their_digits : (width value : ℕ) (text : List ℕ) → value < 2 ^ 128
    → (padded_text width value ≡ text) ↔ IsPaddedText width value text
padded_numbers_are_written_by_their_digits width value text small =
    let written = padded_is_text width value small in (
      λ e. subst (IsPaddedText width value) e written,
      λ h. same_digits (padded_text width value) text written.digits.1 h.digits.1 (written.length_is ∙ sym h.length_is)
          (written.value_is ∙ sym h.value_is),
    )

-- the text of an amount
amount_is_text : (decimals units : ℕ) → units < 2 ^ 128 → IsAmountText decimals units (money_text decimals units)
amount_is_text zero units small =
    let text = decimal_is_text units small in
    record {
      whole = decimal units;
      parts = [];
      form = (text.digits, refl);
      front = text.front;
      exactly = refl;
      value_is = units_of_parts 0 (decimal units) [] refl ∙ omega (arith, text.value_is);
    }
amount_is_text (suc more) units small =
    let one = 10 ^ suc more in
    let some : 0 < one = one-le-pow (suc more) 10 (omega arith) in
    let part : units % one < one = mod-lt units some in
    let above = decimal_is_text (units / one) (omega (arith, div-le_self units one)) in
    let part_small : units % one < 2 ^ 128 = omega (arith, div-add-mod' units one) in
    let below = digits_of_padded (suc more) (units % one) part_small in
    let fills = padded_fills (suc more) (units % one) (omega arith) part part_small in
    let value : digits_value 10 (decimal (units / one)) * one + digits_value 10 (padded_text (suc more) (units % one))
    ≡ units = rw (above.value_is, below.1) (div-add-mod' units one) in
    record {
      whole = decimal (units / one);
      parts = padded_text (suc more) (units % one);
      form = with_point (decimal (units / one)) (padded_text (suc more) (units % one)) above.digits below.0;
      front = above.front;
      exactly = fills;
      value_is = units_of_parts (suc more) (decimal (units / one)) (padded_text (suc more) (units % one)) fills ∙ value;
    }

-- is the only one
amount_only : (decimals units : ℕ) (text whole parts : List ℕ) → units < 2 ^ 128 → IsDecimal text whole parts
    → HasNoZeroInFront whole → length parts ≡ decimals → units_of decimals whole parts ≡ units
    → money_text decimals units ≡ text
amount_only zero units text whole [] small form front exactly value =
    let units_are : digits_value 10 whole ≡ units = omega (arith, units_of_parts 0 whole [] refl, value) in
    one_text units (decimal units) whole (decimal_is_text units small)
    (record { digits = form.0; value_is = units_are; front = front }) ∙ sym form.1
amount_only zero units text whole (p ∷ ps) small form front exactly value = absurd (omega arith)
amount_only (suc more) units text whole [] small form front exactly value = absurd (omega arith)
amount_only (suc more) units text whole (p ∷ ps) small form front exactly value =
    let one = 10 ^ suc more in
    let below : digits_value 10 (p ∷ ps) < one = rw exactly at (digits_value-lt 10 (p ∷ ps) form.1) in
    let sums : digits_value 10 whole * one + digits_value 10 (p ∷ ps) ≡ units =
    sym (units_of_parts (suc more) whole (p ∷ ps) exactly) ∙ value in
    let above_is : units / one ≡ digits_value 10 whole =
    ap (λ (n : ℕ). n / one) (sym sums) ∙ div-mul-add (digits_value 10 whole) one (digits_value 10 (p ∷ ps)) below in
    let part_is : units % one ≡ digits_value 10 (p ∷ ps) =
    ap (λ (n : ℕ). n % one) (sym sums) ∙ mod-mul-add (digits_value 10 whole) one (digits_value 10 (p ∷ ps)) below in
    let part_small : units % one < 2 ^ 128 = omega (arith, div-add-mod' units one) in
    let part : units % one < one = rw part_is below in
    let first : decimal (units / one) ≡ whole = one_text (units / one) (decimal (units / one)) whole
    (decimal_is_text (units / one) (omega (arith, div-le_self units one)))
    (record { digits = form.0; value_is = sym above_is; front = front }) in
    let digits = digits_of_padded (suc more) (units % one) part_small in
    let fills = padded_fills (suc more) (units % one) (omega arith) part part_small in
    let second : padded_text (suc more) (units % one) ≡ p ∷ ps = same_digits (padded_text (suc more) (units % one))
    (p ∷ ps) digits.0.1 form.1 (fills ∙ sym exactly) (digits.1 ∙ part_is) in
    rw (first, second) (sym form.2)

pub amounts_are_written_by_their_digits : (decimals units : ℕ) (text : List ℕ) → units < 2 ^ 128
    → (money_text decimals units ≡ text) ↔ IsAmountText decimals units text
amounts_are_written_by_their_digits decimals units text small = (
  λ e. subst (IsAmountText decimals units) e (amount_is_text decimals units small),
  λ h. amount_only decimals units text h.whole h.parts small h.form h.front h.exactly h.value_is,
)
