-- A text, parted where its first digits end.
use Rattle.std.{specs.Char.{digit_value, is_ascii_digit}, proofs.lemmas.Bool.{cases_lt, ne_eqb, Decides.{nat_tests}}}
use Rattle.{std.specs.Str.Parse.{AllDigits}, taxi_units.specs.{Common.{BadDigit}, Number.{parts_read, whole_read}}}
use Rattle.std.proofs.Common.{[], ℕ, ◌++◌, ◌<◌, ◌↔◌, ◌∙◌, ◌∷◌, ◌≡◌, ◌≢◌, ◌≤◌, ◌⊎◌, Err, List, ap, arith, drop, eqb}
use Rattle.std.proofs.Common.{false, inl, inr, length, length-append, refl, subst, sym, take, true}
use Rattle.std.proofs.{Math.Seq.{drop-append_seam, take-append_seam}, lemmas.List.{length-take-le, take-append-drop}}
use Rattle.taxi_units.specs.Number.{HasDigitsInFront, NoDigitFirst, counted_parts_read, decimal_read, digits_at_front}

pub record Front (text : List ℕ) : Type 0 where
  pub digits : List ℕ
  pub rest : List ℕ
  pub text_is : text ≡ digits ++ rest
  pub all : AllDigits 10 digits
  pub stops : NoDigitFirst rest

pub test_of_digit : (c : ℕ) → digit_value c < 10 → is_ascii_digit c ≡ true
test_of_digit c h = grind (arith, nat_tests)

pub test_of_other : (c : ℕ) → 10 ≤ digit_value c → is_ascii_digit c ≡ false
test_of_other c h = grind (arith, nat_tests)

front_more : (c : ℕ) (cs : List ℕ) → (digit_value c < 10) ⊎ (10 ≤ digit_value c) → Front cs → Front (c ∷ cs)
front_more c cs (inl digit) f = record {
  digits = c ∷ f.digits;
  rest = f.rest;
  text_is = ap (λ (xs : List ℕ). c ∷ xs) f.text_is;
  all = (digit, f.all);
  stops = f.stops;
}
front_more c cs (inr other) f = record { digits = []; rest = c ∷ cs; text_is = refl; all = tt; stops = other }

pub front : (text : List ℕ) → Front text
front [] = record { digits = []; rest = []; text_is = refl; all = tt; stops = tt }
front (c ∷ cs) = front_more c cs (cases_lt (digit_value c) 10) (front cs)

count_none : (rest : List ℕ) → NoDigitFirst rest → digits_at_front rest ≡ 0
count_none [] h = refl
count_none (c ∷ cs) h = rw (test_of_other c h) refl

pub count_front : (digits rest : List ℕ) → AllDigits 10 digits → NoDigitFirst rest
    → digits_at_front (digits ++ rest) ≡ length digits
count_front [] rest all stops = count_none rest stops
count_front (c ∷ cs) rest all stops = rw (test_of_digit c all.0) (omega (arith, count_front cs rest all.1 stops))

-- a text has as many digits in front as are counted, and no other number of them
has_first : (digits rest : List ℕ) → AllDigits 10 digits → NoDigitFirst rest
    → HasDigitsInFront (digits ++ rest) (digits_at_front (digits ++ rest))
has_first digits rest all stops =
    let count = count_front digits rest all stops in
    let taken : take (digits_at_front (digits ++ rest)) (digits ++ rest) ≡ digits =
    rw count (take-append_seam digits rest) in
    let dropped : drop (digits_at_front (digits ++ rest)) (digits ++ rest) ≡ rest =
    rw count (drop-append_seam digits rest) in (
      omega (arith, count, length-append digits rest),
      subst (AllDigits 10) (sym taken) all,
      subst NoDigitFirst (sym dropped) stops,
    )

has_digits : (text : List ℕ) (f : Front text) → HasDigitsInFront text (digits_at_front text)
has_digits text f = subst (λ (xs : List ℕ). HasDigitsInFront xs (digits_at_front xs)) (sym f.text_is)
    (has_first f.digits f.rest f.all f.stops)

pub digits_are_counted : (text : List ℕ) (count : ℕ) → (digits_at_front text ≡ count) ↔ HasDigitsInFront text count
digits_are_counted text count = (
  λ e. subst (HasDigitsInFront text) e (has_digits text (front text)),
  λ h. ap digits_at_front (sym (take-append-drop count text))
      ∙ (count_front (take count text) (drop count text) h.1 h.2 ∙ length-take-le count text h.0),
)

-- the reader, at a text that is parted so
pub read_front : (decimals c : ℕ) (cs rest : List ℕ) → AllDigits 10 (c ∷ cs) → NoDigitFirst rest
    → decimal_read decimals ((c ∷ cs) ++ rest) ≡ whole_read decimals (c ∷ cs) rest
read_front decimals c cs rest all stops =
    let count : digits_at_front (c ∷ (cs ++ rest)) ≡ length (c ∷ cs) = count_front (c ∷ cs) rest all stops in
    let some : eqb (length (c ∷ cs)) 0 ≡ false = ne_eqb _ _ (λ e. omega arith) in
    rw (count, some, take-append_seam (c ∷ cs) rest, drop-append_seam (c ∷ cs) rest) refl

pub read_none : (decimals c : ℕ) (cs : List ℕ) → 10 ≤ digit_value c → decimal_read decimals (c ∷ cs) ≡ Err (BadDigit 0)
read_none decimals c cs other = rw (count_none (c ∷ cs) other) refl

pub read_other : (decimals c : ℕ) (whole cs : List ℕ) → c ≢ 46
    → whole_read decimals whole (c ∷ cs) ≡ Err (BadDigit (length whole))
read_other decimals c whole cs h = rw (ne_eqb c 46 h) refl

-- what stands after the point, parted so
pub parts_front : (decimals : ℕ) (whole digits rest : List ℕ) → AllDigits 10 digits → NoDigitFirst rest
    → parts_read decimals whole (digits ++ rest) ≡ counted_parts_read decimals whole (digits ++ rest) (length digits)
parts_front decimals whole digits rest all stops =
    ap (counted_parts_read decimals whole (digits ++ rest)) (count_front digits rest all stops)
