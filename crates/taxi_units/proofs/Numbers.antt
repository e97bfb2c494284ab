-- Numbers at the front of a text are read by their digits.
use Rattle.std.{specs.Fmt.{decimal}, proofs.lemmas.Fmt.{decimal_is_IsNumeral_wide, length-decimal-le_wide}}
use Rattle.std.{specs.Str.Parse.{AllDigits, digits_value}, proofs.Math.Seq.{drop-append_seam, take-append_seam}}
use Rattle.std.proofs.Common.{[], ℕ, ◌++◌, ◌+◌, ◌<◌, ◌^◌, ◌↔◌, ◌∙◌, ◌∷◌, ◌≡◌, ◌≤◌, ◌⊎◌, Bool, List, None, Option, Some}
use Rattle.std.proofs.Common.{ap, arith, cond, eqb, false, inl, inr, length, length-append, refl, subst, sym, true}
use Rattle.std.proofs.lemmas.{Bool.{cases_lt, eq-eqb, eqb-true, le-ltb, lt-ltb, ne_eqb}, Int.Digits.{digits_value-lt}}
use Rattle.taxi_units.{specs.{Digits.{AreDigitsOf}, Reading.{◌>>=◌}}, proofs.Written.{digits_of_padded, padded_within}}
use Rattle.taxi_units.specs.Number.{IsNumberAt, IsNumberOfWidth, NoDigitFirst, digits_number, number_at}
use Rattle.taxi_units.{specs.Number.{number_of_width, padded_text, where_wide}, proofs.Front.{count_front, front}}

number_front : (digits rest : List ℕ) → AllDigits 10 digits → NoDigitFirst rest
    → number_at (digits ++ rest) ≡ digits_number digits rest
unfolding number_at
number_front digits rest all stops =
    rw (count_front digits rest all stops, take-append_seam digits rest, drop-append_seam digits rest) refl

few_digits : (digits rest : List ℕ) → 0 < length digits → length digits ≤ 12
    → digits_number digits rest ≡ Some (digits_value 10 digits, rest)
few_digits digits rest some few =
    let not_none : eqb (length digits) 0 ≡ false = ne_eqb _ _ (λ e. omega arith) in
    rw (not_none, le-ltb 12 (length digits) few) refl

many_digits : (digits rest : List ℕ) → 12 < length digits → digits_number digits rest ≡ None
many_digits digits rest many =
    let not_none : eqb (length digits) 0 ≡ false = ne_eqb _ _ (λ e. omega arith) in
    rw (not_none, lt-ltb 12 (length digits) many) refl

number_complete : (text rest : List ℕ) (value : ℕ) → IsNumberAt text value rest → number_at text ≡ Some (value, rest)
number_complete text rest value h = ap number_at h.1 ∙ (number_front h.0 rest h.2.numeral.1 h.3
    ∙ (few_digits h.0 rest h.2.numeral.0 h.2.few ∙ ap (λ (n : ℕ). Some (n, rest)) h.2.value))

same_found : (a b : ℕ × List ℕ) → Some a ≡ Some b → (a.0 ≡ b.0) × (a.1 ≡ b.1)
same_found a b e =
    let same : a ≡ b = cc in
    (ap (λ (p : ℕ × List ℕ). p.0) same, ap (λ (p : ℕ × List ℕ). p.1) same)

number_sound : (digits rest after : List ℕ) (value : ℕ) → AllDigits 10 digits → NoDigitFirst rest → (12 < length digits)
    ⊎ (length digits ≤ 12) → digits_number digits rest ≡ Some (value, after) → IsNumberAt (digits ++ rest) value after
number_sound [] rest after value all stops size e = absurd cc
number_sound (c ∷ cs) rest after value all stops (inl many) e =
    let none = many_digits (c ∷ cs) rest many in
    absurd cc
number_sound (c ∷ cs) rest after value all stops (inr few) e =
    let found = few_digits (c ∷ cs) rest (omega arith) few in
    let same = same_found (digits_value 10 (c ∷ cs), rest) (value, after) (sym found ∙ e) in
    let digits : AreDigitsOf 1 12 (c ∷ cs) value =
    record { numeral = (omega arith, all); some = omega arith; few = few; value = same.0 } in
    (c ∷ cs, ap (λ (xs : List ℕ). (c ∷ cs) ++ xs) same.1, digits, subst NoDigitFirst same.1 stops)

pub numbers_are_read_by_their_digits : (text rest : List ℕ) (value : ℕ) → (number_at text ≡ Some (value, rest))
    ↔ IsNumberAt text value rest
numbers_are_read_by_their_digits text rest value =
    let f = front text in (
      (λ e. subst (λ (t : List ℕ). IsNumberAt t value rest) (sym f.text_is)
          (number_sound f.digits f.rest rest value f.all f.stops (cases_lt _ _)
          (sym (number_front f.digits f.rest f.all f.stops) ∙ (ap number_at (sym f.text_is) ∙ e)))),
      number_complete text rest value,
    )

-- what a number and the bytes in front of its rest tell of its digits
wide_digits : (width : ℕ) (text rest : List ℕ) (value : ℕ) → number_at text ≡ Some (value, rest)
    → length text ≡ width + length rest → IsNumberOfWidth width text value rest
wide_digits width text rest value e wide =
    let is = (numbers_are_read_by_their_digits text rest value).0 e in
    let long : length is.0 ≡ width = omega (arith, length-append is.0 rest, ap length is.1) in
    let digits : AreDigitsOf width width is.0 value =
    record { numeral = is.2.numeral; some = omega (arith, long); few = omega (arith, long); value = is.2.value } in
    (is.0, is.1, digits, is.3)

-- a number of a width is below that power of ten
pub wide_is_small : (text rest : List ℕ) (value width : ℕ) → number_at text ≡ Some (value, rest)
    → length text ≡ width + length rest → value < 10 ^ width
wide_is_small text rest value width e wide =
    let is = wide_digits width text rest value e wide in
    let small : digits_value 10 is.0 < 10 ^ length is.0 = digits_value-lt 10 is.0 is.2.numeral.1 in
    let long : length is.0 ≡ width = omega (arith, is.2.some, is.2.few) in
    subst (λ (n : ℕ). value < 10 ^ n) long (subst (λ (n : ℕ). n < 10 ^ length is.0) is.2.value small)

wide_found : (b : Bool) (width : ℕ) (text : List ℕ) (found x : ℕ × List ℕ)
    → (b ≡ true → length text ≡ width + length found.1) → number_at text ≡ Some found
    → cond b (Some found) None ≡ Some x → IsNumberOfWidth width text x.0 x.1
wide_found true width text found x wide read e =
    let same = same_found found x e in
    subst (λ (r : List ℕ). IsNumberOfWidth width text x.0 r) same.1 (subst
    (λ (n : ℕ). IsNumberOfWidth width text n found.1) same.0 (wide_digits width text found.1 found.0 read (wide refl)))
wide_found false width text found x wide read e = absurd cc

wide_sound : (width : ℕ) (text rest : List ℕ) (value : ℕ) (found : Option (ℕ × List ℕ)) → number_at text ≡ found
    → (found >>= where_wide width text) ≡ Some (value, rest) → IsNumberOfWidth width text value rest
wide_sound width text rest value (Some x) read e =
    wide_found (eqb (length text) (width + length x.1)) width text x (value, rest) (eqb-true _ _) read e
wide_sound width text rest value None read e = absurd cc

wide_complete : (width : ℕ) (text rest : List ℕ) (value : ℕ) → width ≤ 12 → IsNumberOfWidth width text value rest
    → number_of_width width text ≡ Some (value, rest)
unfolding number_of_width
wide_complete width text rest value few h =
    let digits : AreDigitsOf 1 12 h.0 value =
    record { numeral = h.2.numeral; some = h.2.numeral.0; few = omega (arith, h.2.few, few); value = h.2.value } in
    let read = number_complete text rest value (h.0, h.1, digits, h.3) in
    let wide : length text ≡ width + length rest =
    omega (arith, length-append h.0 rest, ap length h.1, h.2.some, h.2.few) in
    rw (read, eq-eqb _ _ wide) refl

pub wide_numbers_are_read_by_their_digits : (width : ℕ) (text rest : List ℕ) (value : ℕ) → width ≤ 12
    → (number_of_width width text ≡ Some (value, rest)) ↔ IsNumberOfWidth width text value rest
unfolding number_of_width
wide_numbers_are_read_by_their_digits width text rest value few =
    (wide_sound width text rest value (number_at text) refl, wide_complete width text rest value few)

pub numbers_read_back : (value : ℕ) (rest : List ℕ) → value < 10 ^ 12 → NoDigitFirst rest
    → number_at (decimal value ++ rest) ≡ Some (value, rest)
numbers_read_back value rest small stops =
    let fits : value < 10 ^ 64 = omega arith in
    let d = decimal_is_IsNumeral_wide value fits in
    let digits : AreDigitsOf 1 12 (decimal value) value = record {
      numeral = d.0;
      some = d.0.0;
      few = length-decimal-le_wide 12 value (omega arith) small fits;
      value = d.1;
    } in
    number_complete (decimal value ++ rest) rest value (decimal value, refl, digits, stops)

pub padded_numbers_read_back : (width value : ℕ) (rest : List ℕ) → width ≤ 12 → value < 10 ^ 12 → NoDigitFirst rest
    → number_at (padded_text width value ++ rest) ≡ Some (value, rest)
padded_numbers_read_back width value rest narrow small stops =
    let d = digits_of_padded width value (omega arith) in
    let digits : AreDigitsOf 1 12 (padded_text width value) value = record {
      numeral = d.0;
      some = d.0.0;
      few = padded_within 12 width value (omega arith) narrow small (omega arith);
      value = d.1;
    } in
    number_complete (padded_text width value ++ rest) rest value (padded_text width value, refl, digits, stops)
