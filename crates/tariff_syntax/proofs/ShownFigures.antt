-- The figures that are printed, and what they say.
use Rattle.{std.specs.{Char.{is_ascii_digit}, Fmt.{decimal}}, tariff_syntax.proofs.Shows.{Goes, IsFigureText}}
use Rattle.std.{specs.Str.Parse.{AllDigits, IsNumeral, digits_value}, proofs.lemmas.Fmt.{decimal_is_IsNumeral_wide}}
use Rattle.std.proofs.Common.{[], ℕ, ◌%◌, ◌*◌, ◌++◌, ◌+◌, ◌/◌, ◌<◌, ◌^◌, ◌∷◌, ◌≡◌, ◌≤◌, List, Ok, ap, append_assoc}
use Rattle.std.proofs.{Common.{arith, codes, length, refl, subst, suc, true, zero}, lemmas.Int.Digits.{digits_value-lt}}
use Rattle.std.proofs.{Math.Nat.{div-le_self, mod-le}, lemmas.{Bool.Decides.{nat_tests}, Str.Parse.{digit_from_value}}}
use Rattle.taxi_units.proofs.Laws.{amounts_read_back, decimals_are_read_by_their_form, numbers_are_written_as_figures}
use Rattle.taxi_units.proofs.Laws.{padded_numbers_are_written_as_figures, padded_numbers_are_written_by_their_digits}
use Rattle.tariff_syntax.specs.{Common.{AreDigitsOf, money_text, padded_text}, Token.{begins_with_digit, goes_on}}
use Rattle.tariff_syntax.specs.Forms.{IsAmount, IsDate, IsMinute, IsNumber, IsPair, IsYearDate}

digit_is : (c : ℕ) → 48 ≤ c → c ≤ 57 → is_ascii_digit c ≡ true
digit_is c a b = grind (arith, nat_tests)

digit_goes : (c : ℕ) (rest : List ℕ) → is_ascii_digit c ≡ true → goes_on c rest ≡ true
digit_goes c rest e = rw e refl

digits_go : (xs rest : List ℕ) → AllDigits 10 xs → Goes xs rest
digits_go [] rest h = tt
digits_go (x ∷ xs) rest h =
    let range = digit_from_value x h.0 in
    (digit_goes x (xs ++ rest) (digit_is x (omega (arith, range)) (omega (arith, range))), digits_go xs rest h.1)

digits_begin : (xs ys : List ℕ) → IsNumeral 10 xs → begins_with_digit (xs ++ ys) ≡ true
digits_begin [] ys h = absurd (omega (arith, h.0))
digits_begin (x ∷ xs) ys h = let range = digit_from_value x h.1.0 in
    digit_is x (omega (arith, range)) (omega (arith, range))

goes_append : (xs ys rest : List ℕ) → Goes xs (ys ++ rest) → Goes ys rest → Goes (xs ++ ys) rest
goes_append [] ys rest h g = g
goes_append (x ∷ xs) ys rest h g = (rw (append_assoc xs ys rest) h.0, goes_append xs ys rest h.1 g)

none : (xs : List ℕ) → xs ++ [] ≡ xs
none [] = refl
none (x ∷ xs) = ap (λ (ys : List ℕ). x ∷ ys) (none xs)

numeral_text : (xs : List ℕ) → IsNumeral 10 xs → IsFigureText xs
numeral_text xs h = record {
  digit = subst (λ (ys : List ℕ). begins_with_digit ys ≡ true) (none xs) (digits_begin xs [] h);
  goes = λ rest. digits_go xs rest h.1;
}

begins_append : (ys rest : List ℕ) → begins_with_digit ys ≡ true → begins_with_digit (ys ++ rest) ≡ true
begins_append [] rest e = absurd cc
begins_append (y ∷ ys) rest e = e

-- two figures with a byte between them that figures go on over
joined_text : (xs ys : List ℕ) (c : ℕ) → IsNumeral 10 xs → IsFigureText ys
    → ((rest : List ℕ) → begins_with_digit rest ≡ true → goes_on c rest ≡ true) → IsFigureText (xs ++ c ∷ ys)
joined_text xs ys c h g on = record {
  digit = digits_begin xs (c ∷ ys) h;
  goes = λ rest. goes_append xs (c ∷ ys) rest (digits_go xs ((c ∷ ys) ++ rest) h.1)
      (on (ys ++ rest) (begins_append ys rest g.digit), g.goes rest);
}

numeral_of : (n : ℕ) → n ≤ 10 ^ 12 → IsNumeral 10 (decimal n)
numeral_of n h = (decimal_is_IsNumeral_wide n (omega arith)).0

digits_of_padded : (width n : ℕ) → n < 2 ^ 128
    → IsNumeral 10 (padded_text width n) × (digits_value 10 (padded_text width n) ≡ n)
digits_of_padded width n h =
    let written = (padded_numbers_are_written_by_their_digits width n (padded_text width n) h).0 refl in
    (written.digits, written.value_is)

padded_numeral : (width n : ℕ) → n ≤ 10 ^ 12 → IsNumeral 10 (padded_text width n)
padded_numeral width n h = (digits_of_padded width n (omega arith)).0

pub decimal_text : (n : ℕ) → n ≤ 10 ^ 12 → IsFigureText (decimal n)
decimal_text n h = numeral_text (decimal n) (numeral_of n h)

pub money_is_text : (d n : ℕ) → n ≤ 10 ^ 12 → IsFigureText (money_text d n)
money_is_text zero n h = decimal_text n h
money_is_text (suc d) n h =
    let less : n / 10 ^ suc d ≤ n = div-le_self n (10 ^ suc d) in
    let part : n % 10 ^ suc d ≤ n = mod-le n (10 ^ suc d) in
    joined_text (decimal (n / 10 ^ suc d)) (padded_text (suc d) (n % 10 ^ suc d)) 46
    (numeral_of (n / 10 ^ suc d) (omega arith)) (numeral_text (padded_text (suc d) (n % 10 ^ suc d))
    (padded_numeral (suc d) (n % 10 ^ suc d) (omega arith))) (λ rest e. rw e refl)

-- an amount is at most 10^12
pub amount_small : (d : ℕ) (f : List ℕ) (n : ℕ) → IsAmount d f n → n ≤ 10 ^ 12
amount_small d f n h = h.5

pub amount_again : (d n : ℕ) → n ≤ 10 ^ 12 → IsAmount d (money_text d n) n
amount_again d n h = (decimals_are_read_by_their_form d (money_text d n) (Ok n)).0 (amounts_read_back d n h)

pub number_says : (least most n : ℕ) → most ≤ 99 → least ≤ n → n ≤ most → IsNumber least most (decimal n) n
number_says least most n few low high =
    numbers_are_written_as_figures 2 least most n (omega arith) (omega arith) (omega arith) low high

of_two_digits : (x : List ℕ) (n : ℕ) → AreDigitsOf 1 2 x n → n ≤ 99
of_two_digits [] n h = absurd (omega (arith, h.some))
of_two_digits (a ∷ []) n h =
    let small : digits_value 10 (a ∷ []) < 10 = digits_value-lt 10 (a ∷ []) h.numeral.1 in omega (arith, h.value)
of_two_digits (a ∷ b ∷ []) n h =
    let small : digits_value 10 (a ∷ b ∷ []) < 100 = digits_value-lt 10 (a ∷ b ∷ []) h.numeral.1 in
    omega (arith, h.value)
of_two_digits (a ∷ b ∷ c ∷ x) n h = absurd (omega (arith, h.few))

pub number_small : (least most : ℕ) (f : List ℕ) (n : ℕ) → IsNumber least most f n → n ≤ 99
number_small least most f n h = of_two_digits f n h.written

pub number_again : (least most : ℕ) (f : List ℕ) (n : ℕ) → IsNumber least most f n → IsNumber least most (decimal n) n
number_again least most f n h =
    let says = number_says n n n (number_small least most f n h) (omega arith) (omega arith) in
    record { written = says.written; above = h.above; below = h.below }

digits_again : (width n : ℕ) → 0 < width → n < 10 ^ width → width ≤ 12 → AreDigitsOf width width (padded_text width n) n
digits_again width n some small narrow =
    (padded_numbers_are_written_as_figures width n n n some narrow small (omega arith) (omega arith)).written

pub digits_small : (width : ℕ) (x : List ℕ) (n : ℕ) → AreDigitsOf width width x n → n < 10 ^ width
digits_small width x n h =
    let small : digits_value 10 x < 10 ^ length x = digits_value-lt 10 x h.numeral.1 in
    let long : length x ≡ width = omega (arith, h.some, h.few) in
    subst (λ (k : ℕ). n < 10 ^ k) long (subst (λ (k : ℕ). k < 10 ^ length x) h.value small)

-- two numbers of two digits with a byte between them
abbrev pub pair_figure : (c first second : ℕ) → List ℕ
pair_figure c first second = padded_text 2 first ++ c ∷ padded_text 2 second

pair_text : (c first second : ℕ) → first < 100 → second < 100 → ((rest : List ℕ) → begins_with_digit rest ≡ true
    → goes_on c rest ≡ true) → IsFigureText (pair_figure c first second)
pair_text c first second a b on = joined_text (padded_text 2 first) (padded_text 2 second) c (padded_numeral 2 first
    (omega arith)) (numeral_text (padded_text 2 second) (padded_numeral 2 second (omega arith))) on

pair_says : (c first second : ℕ) → first < 100 → second < 100
    → IsPair (c ∷ []) (pair_figure c first second) first second
pair_says c first second a b = (
  padded_text 2 first,
  padded_text 2 second,
  refl,
  digits_again 2 first (omega arith) (omega arith) (omega arith),
  digits_again 2 second (omega arith) (omega arith) (omega arith),
)

pair_small : (between f : List ℕ) (first second : ℕ) → IsPair between f first second → (first < 100) × (second < 100)
pair_small between f first second h =
    let a = digits_small 2 h.0 first h.3 in
    let b = digits_small 2 h.1 second h.4 in
    (omega arith, omega arith)

-- a date of any year
pub date_shown : (f : List ℕ) (month number : ℕ) → IsDate f month number
    → IsFigureText (pair_figure 45 month number) × IsDate (pair_figure 45 month number) month number
date_shown f month number h =
    let small = pair_small (codes "-") f month number h in
    (pair_text 45 month number small.0 small.1 (λ rest e. refl), pair_says 45 month number small.0 small.1)

-- a minute of the day
pub minute_shown : (f : List ℕ) (minute : ℕ) → IsMinute f minute → IsFigureText
    (pair_figure 58 (minute / 60) (minute % 60)) × IsMinute (pair_figure 58 (minute / 60) (minute % 60)) minute
minute_shown f minute h =
    let hours : minute / 60 ≤ 23 = omega (arith, h.3, h.4, h.5) in
    let minutes : minute % 60 ≤ 59 = omega arith in
    let all : minute ≡ 60 * (minute / 60) + minute % 60 = omega arith in (
      pair_text 58 (minute / 60) (minute % 60) (omega arith) (omega arith) (λ rest e. refl),
      (
        minute / 60,
        minute % 60,
        pair_says 58 (minute / 60) (minute % 60) (omega arith) (omega arith),
        hours,
        minutes,
        all,
      ),
    )

-- a date with its year
abbrev pub year_figure : (year month number : ℕ) → List ℕ
year_figure year month number = padded_text 4 year ++ 45 ∷ pair_figure 45 month number

pub year_shown : (f : List ℕ) (year month number : ℕ) → IsYearDate f year month number
    → IsFigureText (year_figure year month number) × IsYearDate (year_figure year month number) year month number
year_shown f year month number h =
    let small = digits_small 4 h.0 year h.3 in
    let date = date_shown h.1 month number h.4 in (
      joined_text (padded_text 4 year) (pair_figure 45 month number) 45 (padded_numeral 4 year (omega arith)) date.0
          (λ rest e. refl),
      (
        padded_text 4 year,
        pair_figure 45 month number,
        refl,
        digits_again 4 year (omega arith) small (omega arith),
        date.1,
      ),
    )
