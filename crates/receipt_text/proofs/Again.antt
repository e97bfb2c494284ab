-- What is written of a number, an amount or a word is read again.
use Rattle.std.specs.{Char.{digit_value}, Str.Parse.{AllDigits, IsNumeral, digits_value, digits_value_after}}
use Rattle.{std.specs.Fmt.{decimal}, taxi_units.{specs.Decimal.{IsDecimal}, proofs.Laws.{words_are_read_by_their_text}}}
use Rattle.std.proofs.Common.{[], ℕ, ◌*◌, ◌++◌, ◌+◌, ◌-◌, ◌<◌, ◌^◌, ◌∙◌, ◌∷◌, ◌≡◌, ◌≢◌, ◌≤◌, List, Option, Some, ap}
use Rattle.std.proofs.Common.{append_assoc, arith, eqb, false, length, length-append, refl, subst, suc, sym, zero}
use Rattle.std.proofs.{Math.Seq.{drop-append_seam, take-append_seam}, lemmas.Bool.{le-ltb, lt-ltb, ne_eqb}}
use Rattle.{taxi_units.specs.Number.{NoDigitFirst, digits_at_front, units_of}, receipt_text.proofs.Digits.{value_grows}}
use Rattle.taxi_units.{specs.Reading.{word_at}, proofs.Laws.{amounts_are_written_by_their_digits, digits_are_counted}}
use Rattle.taxi_units.proofs.Laws.{numbers_are_written_by_their_digits, padded_numbers_are_written_by_their_digits}
use Rattle.receipt_text.specs.Common.{◌>>=◌, money_text, padded_text}
use Rattle.receipt_text.specs.Figures.{amount_after, amount_below, amount_with_parts, number_below, value_below}

-- reading on from what was found
pub on : {A B : Type 0} {m : Option A} {x : A} {y : Option B} (f : A → Option B) → m ≡ Some x → f x ≡ y → (m >>= f) ≡ y
on f e h = ap (λ found. found >>= f) e ∙ h

pub word_again : (word rest : List ℕ) → word_at word (word ++ rest) ≡ Some rest
word_again word rest = (words_are_read_by_their_text word (word ++ rest) rest).1 refl

-- digits, and something else after them
pub count_front : (digits rest : List ℕ) (c : ℕ) → AllDigits 10 digits → 10 ≤ digit_value c
    → digits_at_front (digits ++ c ∷ rest) ≡ length digits
count_front digits rest c all stops =
    (digits_are_counted (digits ++ c ∷ rest) (length digits)).1 (
      omega (arith, length-append digits (c ∷ rest)),
      subst (AllDigits 10) (sym (take-append_seam digits (c ∷ rest))) all,
      subst NoDigitFirst (sym (drop-append_seam digits (c ∷ rest))) stops,
    )

value_again : (limit start : ℕ) (digits : List ℕ) → digits_value_after 10 start digits < limit
    → value_below limit start digits ≡ Some (digits_value_after 10 start digits)
value_again limit start digits small = rw (lt-ltb (digits_value_after 10 start digits) limit small) refl

-- digits that make a number below the limit
pub digits_again : (limit : ℕ) (digits rest : List ℕ) (c : ℕ) → IsNumeral 10 digits → digits_value 10 digits < limit
    → 10 ≤ digit_value c → number_below limit (digits ++ c ∷ rest) ≡ Some (digits_value 10 digits, c ∷ rest)
unfolding number_below
digits_again limit digits rest c numeral small stops =
    let some : eqb (length digits) 0 ≡ false = ne_eqb _ _ (λ e. omega (arith, numeral.0)) in
    rw (
      count_front digits rest c numeral.1 stops,
      take-append_seam digits (c ∷ rest),
      drop-append_seam digits (c ∷ rest),
      some,
      value_again limit 0 digits small,
    ) refl

pub number_again : (limit value : ℕ) (rest : List ℕ) (c : ℕ) → value < limit → limit ≤ 10 ^ 24 → 10 ≤ digit_value c
    → number_below limit (decimal value ++ c ∷ rest) ≡ Some (value, c ∷ rest)
number_again limit value rest c small most stops =
    let text = (numbers_are_written_by_their_digits value (decimal value) (omega arith)).0 refl in
    digits_again limit (decimal value) rest c text.digits (omega (arith, text.value_is)) stops
    ∙ ap (λ (n : ℕ). Some (n, c ∷ rest)) text.value_is

pub padded_again : (limit width value : ℕ) (rest : List ℕ) (c : ℕ) → value < limit → limit ≤ 10 ^ 24
    → 10 ≤ digit_value c → number_below limit (padded_text width value ++ c ∷ rest) ≡ Some (value, c ∷ rest)
padded_again limit width value rest c small most stops =
    let text =
    (padded_numbers_are_written_by_their_digits width value (padded_text width value) (omega arith)).0 refl in
    digits_again limit (padded_text width value) rest c text.digits (omega (arith, text.value_is)) stops
    ∙ ap (λ (n : ℕ). Some (n, c ∷ rest)) text.value_is

value_append : (n : ℕ) (xs ys : List ℕ)
    → digits_value_after 10 n (xs ++ ys) ≡ digits_value_after 10 (digits_value_after 10 n xs) ys
value_append n [] ys = refl
value_append n (x ∷ xs) ys = value_append (n * 10 + digit_value x) xs ys

-- the units of digits that fill the decimals
units_filled : (decimals : ℕ) (whole parts : List ℕ) → length parts ≡ decimals
    → units_of decimals whole parts ≡ digits_value_after 10 (digits_value 10 whole) parts
units_filled decimals whole parts e =
    let none : decimals - length parts ≡ 0 = omega arith in
    rw none (omega (arith, value_append 0 whole parts))

whole_again : (limit units : ℕ) (rest : List ℕ) (c : ℕ) → units < limit → limit ≤ 10 ^ 24 → 10 ≤ digit_value c → c ≢ 46
    → amount_below limit (decimal units ++ c ∷ rest) ≡ Some (record { units = units; decimals = 0 }, c ∷ rest)
unfolding amount_below
whole_again limit units rest c small most stops no_point =
    on (λ (whole : ℕ × List ℕ). amount_after limit whole.0 whole.1) (number_again limit units rest c small most stops)
    (rw (ne_eqb c 46 no_point) refl)

parts_again : (limit whole : ℕ) (parts rest : List ℕ) (c : ℕ) → IsNumeral 10 parts → length parts ≤ 3
    → digits_value_after 10 whole parts < limit → 10 ≤ digit_value c → amount_with_parts limit whole (parts ++ c ∷ rest)
    ≡ Some (record { units = digits_value_after 10 whole parts; decimals = length parts }, c ∷ rest)
parts_again limit whole parts rest c numeral few small stops =
    let some : eqb (length parts) 0 ≡ false = ne_eqb _ _ (λ e. omega (arith, numeral.0)) in
    rw (
      count_front parts rest c numeral.1 stops,
      take-append_seam parts (c ∷ rest),
      drop-append_seam parts (c ∷ rest),
      some,
      le-ltb 3 (length parts) few,
      value_again limit whole parts small,
    ) refl

pointed_again : (limit : ℕ) (whole parts rest : List ℕ) (c : ℕ) → IsNumeral 10 whole → IsNumeral 10 parts
    → length parts ≤ 3 → digits_value_after 10 (digits_value 10 whole) parts < limit → 10 ≤ digit_value c
    → amount_below limit (whole ++ 46 ∷ (parts ++ c ∷ rest))
    ≡ Some (record { units = digits_value_after 10 (digits_value 10 whole) parts; decimals = length parts }, c ∷ rest)
unfolding amount_below
pointed_again limit whole parts rest c hw hp few small stops =
    let below : digits_value 10 whole < limit = omega (arith, value_grows (digits_value 10 whole) parts) in
    on (λ (found : ℕ × List ℕ). amount_after limit found.0 found.1) (digits_again limit whole (parts ++ c ∷ rest) 46 hw
    below (omega arith)) (parts_again limit (digits_value 10 whole) parts rest c hp few small stops)

amount_by : (limit decimals units : ℕ) (text whole parts rest : List ℕ) (c : ℕ) → IsDecimal text whole parts
    → length parts ≡ decimals → units_of decimals whole parts ≡ units → decimals ≤ 3 → units < limit → limit ≤ 10 ^ 24
    → 10 ≤ digit_value c → c ≢ 46 → money_text decimals units ≡ text
    → amount_below limit (text ++ c ∷ rest) ≡ Some (record { units = units; decimals = decimals }, c ∷ rest)
amount_by limit zero units text whole parts rest c form exactly value few small most stops no_point e =
    subst (λ (t : List ℕ). amount_below limit (t ++ c ∷ rest) ≡ Some (record { units = units; decimals = 0 }, c ∷ rest))
    e (whole_again limit units rest c small most stops no_point)
amount_by limit (suc d) units text whole [] rest c form exactly value few small most stops no_point e =
    absurd (omega arith)
amount_by limit (suc d) units text whole (p ∷ ps) rest c form exactly value few small most stops no_point e =
    let value_is : digits_value_after 10 (digits_value 10 whole) (p ∷ ps) ≡ units =
    sym (units_filled (suc d) whole (p ∷ ps) exactly) ∙ value in
    let read = pointed_again limit whole (p ∷ ps) rest c form.0 (omega arith, form.1) (omega arith)
    (omega (arith, value_is)) stops in
    let text_is : text ++ c ∷ rest ≡ whole ++ 46 ∷ ((p ∷ ps) ++ c ∷ rest) =
    ap (λ (t : List ℕ). t ++ c ∷ rest) form.2 ∙ append_assoc whole (46 ∷ p ∷ ps) (c ∷ rest) in
    ap (amount_below limit) text_is ∙ (read ∙ rw (value_is, exactly) refl)

-- an amount, and something else than a point after it
pub amount_again : (limit decimals units : ℕ) (rest : List ℕ) (c : ℕ) → decimals ≤ 3 → units < limit → limit ≤ 10 ^ 24
    → 10 ≤ digit_value c → c ≢ 46 → amount_below limit (money_text decimals units ++ c ∷ rest)
    ≡ Some (record { units = units; decimals = decimals }, c ∷ rest)
amount_again limit decimals units rest c few small most stops no_point =
    let text = (amounts_are_written_by_their_digits decimals units (money_text decimals units) (omega arith)).0 refl in
    amount_by limit decimals units (money_text decimals units) text.whole text.parts rest c text.form text.exactly
    text.value_is few small most stops no_point refl
