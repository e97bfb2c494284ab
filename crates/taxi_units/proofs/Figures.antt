-- Numbers of a width and a range are read by their digits.
use Rattle.{std.specs.Fmt.{decimal}, taxi_units.proofs.Lengths.{numbers_are_short, padded_numbers_fill_the_width}}
use Rattle.std.proofs.Common.{[], ℕ, ◌++◌, ◌+◌, ◌<◌, ◌^◌, ◌↔◌, ◌∙◌, ◌∷◌, ◌≡◌, ◌≤◌, List, None, Option, Some, ap, arith}
use Rattle.std.proofs.{Common.{length, length-append, refl, subst, sym, true}, lemmas.Fmt.{decimal_is_IsNumeral_wide}}
use Rattle.std.proofs.{Math.Nat.{pow-le-pow_right}, lemmas.{List.{append-nil}, Option.{cond_some}}}
use Rattle.taxi_units.{specs.{Digits.{AreDigitsOf, IsFigure}, Reading.{◌>>=◌}}, proofs.Written.{digits_of_padded}}
use Rattle.taxi_units.specs.Number.{IsFigureAt, figure_at, figure_in, number_at, padded_text, where_alone, where_fits}
use Rattle.taxi_units.{specs.Test.{◌&◌, Test, at_most, same, within}, proofs.Numbers.{numbers_are_read_by_their_digits}}

-- if reading goes on to a value, something was found first
read_on : {A B : Type 0} (found : Option A) (on : A → Option B) (y : B) → found >>= on ≡ Some y
    → (x : A) × (found ≡ Some x) × (on x ≡ Some y)
read_on (Some x) on y e = (x, refl, e)
read_on None on y e = absurd cc

none_left : (xs : List ℕ) → length xs ≡ 0 → xs ≡ []
none_left [] e = refl
none_left (x ∷ xs) e = absurd (omega arith)

module _ (fewest most low high : ℕ) where
  -- a number that was found has so many digits, and is in the range
  abbrev fit_test : List ℕ → ℕ × List ℕ → Test
  fit_test text x =
      at_most (length x.1 + fewest) (length text) & (at_most (length text) (length x.1 + most) & within low x.0 high)

  figure_is : (text : List ℕ) (x : ℕ × List ℕ) → figure_at fewest most low high text ≡ Some x
      → IsFigureAt fewest most low high text x.0 x.1
  unfolding figure_at
  figure_is text x e =
      let found = read_on (number_at text) (where_fits fewest most low high text) x e in
      let y = found.0 in
      let through = cond_some (fit_test text y).passes y x found.2 in
      let within = (fit_test text y).decides.0 through.0 in
      let is = (numbers_are_read_by_their_digits text y.1 y.0).0 found.1 in
      let long : length text ≡ length is.0 + length y.1 = ap length is.1 ∙ length-append is.0 y.1 in
      let figure : IsFigure fewest most low high is.0 y.0 = record {
        written = record {
          numeral = is.2.numeral;
          some = omega (arith, within, long);
          few = omega (arith, within, long);
          value = is.2.value;
        };
        above = within.1.1.0;
        below = within.1.1.1;
      } in
      let there : IsFigureAt fewest most low high text y.0 y.1 = (is.0, is.1, figure, is.3) in
      subst (λ (z : ℕ × List ℕ). IsFigureAt fewest most low high text z.0 z.1) through.1 there

  figure_from : (text rest : List ℕ) (value : ℕ) → most ≤ 12 → IsFigureAt fewest most low high text value rest
      → figure_at fewest most low high text ≡ Some (value, rest)
  unfolding figure_at
  figure_from text rest value narrow is =
      let digits : AreDigitsOf 1 12 is.0 value = record {
        numeral = is.2.written.numeral;
        some = is.2.written.numeral.0;
        few = omega (arith, is.2.written.few, narrow);
        value = is.2.written.value;
      } in
      let read : number_at text ≡ Some (value, rest) =
      (numbers_are_read_by_their_digits text rest value).1 (is.0, is.1, digits, is.3) in
      let long : length text ≡ length is.0 + length rest = ap length is.1 ∙ length-append is.0 rest in
      let within : (fit_test text (value, rest)).passes ≡ true = (fit_test text (value, rest)).decides.1
      (omega (arith, is.2.written.some, long), (omega (arith, is.2.written.few, long), (is.2.above, is.2.below))) in
      rw (read, within) refl

  pub figures_in_front_are_read_by_their_digits : (text rest : List ℕ) (value : ℕ) → most ≤ 12
      → (figure_at fewest most low high text ≡ Some (value, rest)) ↔ IsFigureAt fewest most low high text value rest
  figures_in_front_are_read_by_their_digits text rest value narrow =
      (figure_is text (value, rest), figure_from text rest value narrow)

  whole_is : (text : List ℕ) (value : ℕ) → figure_in fewest most low high text ≡ Some value
      → IsFigure fewest most low high text value
  unfolding figure_in
  whole_is text value e =
      let found = read_on (figure_at fewest most low high text) where_alone value e in
      let y = found.0 in
      let through = cond_some (same (length y.1) 0).passes y.0 value found.2 in
      let is = figure_is text y found.1 in
      let none : y.1 ≡ [] = none_left y.1 ((same (length y.1) 0).decides.0 through.0) in
      let whole : text ≡ is.0 = is.1 ∙ (ap (λ (rest : List ℕ). is.0 ++ rest) none ∙ append-nil is.0) in
      subst (IsFigure fewest most low high text) through.1
      (subst (λ (digits : List ℕ). IsFigure fewest most low high digits y.0) (sym whole) is.2)

  whole_from : (text : List ℕ) (value : ℕ) → most ≤ 12 → IsFigure fewest most low high text value
      → figure_in fewest most low high text ≡ Some value
  unfolding figure_in
  whole_from text value narrow is =
      let read = figure_from text [] value narrow (text, sym (append-nil text), is, tt) in
      rw read refl

  pub figures_are_read_by_their_digits : (text : List ℕ) (value : ℕ) → most ≤ 12
      → (figure_in fewest most low high text ≡ Some value) ↔ IsFigure fewest most low high text value
  figures_are_read_by_their_digits text value narrow = (whole_is text value, whole_from text value narrow)

-- ---- written

pub numbers_are_written_as_figures : (most low high n : ℕ) → 0 < most → most ≤ 12 → n < 10 ^ most → low ≤ n
    → n ≤ high → IsFigure 1 most low high (decimal n) n
numbers_are_written_as_figures most low high n some few small above below =
    let top : 10 ^ most ≤ 10 ^ 12 = pow-le-pow_right (omega arith) few in
    let digits = decimal_is_IsNumeral_wide n (omega arith) in
    let long = numbers_are_short most n some (omega (arith, few)) small in
    record {
      written = record { numeral = digits.0; some = digits.0.0; few = long.1; value = digits.1 };
      above = above;
      below = below;
    }

pub padded_numbers_are_written_as_figures : (width low high n : ℕ) → 0 < width → width ≤ 12 → n < 10 ^ width → low ≤ n
    → n ≤ high → IsFigure width width low high (padded_text width n) n
padded_numbers_are_written_as_figures width low high n some few small above below =
    let top : 10 ^ width ≤ 10 ^ 12 = pow-le-pow_right (omega arith) few in
    let digits = digits_of_padded width n (omega arith) in
    let long = numbers_are_short width n some (omega (arith, few)) small in
    let wide : length (padded_text width n) ≡ width = omega (arith, padded_numbers_fill_the_width width n, long.1) in
    record {
      written = record { numeral = digits.0; some = omega (arith, wide); few = omega (arith, wide); value = digits.1 };
      above = above;
      below = below;
    }
