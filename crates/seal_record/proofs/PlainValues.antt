-- The values of a plain text of parameters are read as they are.
use Rattle.{std.specs.Fmt.{decimal}, taxi_units.proofs.Laws.{words_are_read_by_their_text}}
use Rattle.std.proofs.Common.{[], ℕ, ℤ, ◌++◌, ◌<◌, ◌^◌, ◌∙◌, ◌∷◌, ◌≡◌, ◌≤◌, List, None, Option, Some, ap, arith, length}
use Rattle.std.proofs.{Common.{negsuc, pos, refl, suc, sym, true}, lemmas.{Int.{ints}, List.{append-nil}}}
use Rattle.{taxi_units.specs.Number.{NoDigitFirst, number_at, number_of_width}, interval_clock.specs.Offsets.{IsSecond}}
use Rattle.taxi_units.{specs.Reading.{word_at}, proofs.Laws.{numbers_read_back, padded_numbers_are_written_as_figures}}
use Rattle.taxi_units.proofs.Laws.{figures_are_read_by_their_digits, numbers_are_short, numbers_are_written_as_figures}
use Rattle.taxi_units.proofs.Laws.{padded_numbers_fill_the_width, wide_numbers_are_read_by_their_digits}
use Rattle.interval_clock.{specs.Calendar.{IsDate, date_after}, proofs.Laws.{IsDateOf-date_after, one_day_number}}
use Rattle.seal_record.specs.Common.{Double, IsOffset, Mode, Single, at_most, date_test, number_in, padded_text}
use Rattle.seal_record.specs.PlainText.{date_text, mode_text, offset_text}
use Rattle.seal_record.specs.Values.{mode_read, offset_read, pair_read, secured_read}
use Rattle.seal_record.proofs.DayBounds.{date_bound, year_in_range}

-- a number alone
number_alone : (n : ℕ) → n < 10 ^ 12 → number_at (decimal n) ≡ Some (n, [])
number_alone n small = ap number_at (sym (append-nil (decimal n))) ∙ numbers_read_back n [] small tt

pub number_again : (low high n : ℕ) → low ≤ n → n ≤ high → high < 10 ^ 12 → number_in low high (decimal n) ≡ Some n
number_again low high n above below small =
    (figures_are_read_by_their_digits 1 12 low high (decimal n) n (omega arith)).1
    (numbers_are_written_as_figures 12 low high n (omega arith) (omega arith) (omega (arith, below, small)) above below)

pub mode_again : (mode : Mode) → mode_read (mode_text mode) ≡ Some mode
unfolding mode_read
mode_again Single = refl
mode_again Double = refl

-- a minus is no number
no_number : (rest : List ℕ) → number_at (45 ∷ rest) ≡ None
unfolding number_at
no_number rest = refl

nothing_there : (x : ℕ × List ℕ) → Some x ≡ None → ⊥
nothing_there x e = cc

no_minus_by : (text : List ℕ) (x : ℕ × List ℕ) (found : Option (List ℕ)) → number_at text ≡ Some x
    → word_at (45 ∷ []) text ≡ found → found ≡ None
no_minus_by text x None read is = refl
no_minus_by text x (Some rest) read is =
    let after : text ≡ 45 ∷ rest = (words_are_read_by_their_text (45 ∷ []) text rest).0 is in
    absurd (nothing_there x (sym read ∙ (ap number_at after ∙ no_number rest)))

pub no_minus : (text : List ℕ) (x : ℕ × List ℕ) → number_at text ≡ Some x → word_at (45 ∷ []) text ≡ None
no_minus text x read = no_minus_by text x (word_at (45 ∷ []) text) read refl

pub offset_again : (offset : ℤ) → IsOffset offset → offset_read (offset_text offset) ≡ Some offset
unfolding offset_read
offset_again (pos n) is =
    let below : n ≤ 50400 = grind (arith, ints, is.1) in
    rw (
      no_minus (decimal n) (n, []) (number_alone n (omega (arith, below))),
      number_again 0 50400 n (omega arith) below (omega arith),
    ) refl
offset_again (negsuc n) is =
    let below : suc n ≤ 50400 = grind (arith, ints, is.0) in
    rw (
      (words_are_read_by_their_text (45 ∷ []) (45 ∷ decimal (suc n)) (decimal (suc n))).1 refl,
      number_again 0 50400 (suc n) (omega arith) below (omega arith),
    ) refl

pub pair_again : (pair : ℕ × ℤ) → IsSecond pair.0 → IsOffset pair.1
    → pair_read (decimal pair.0 ++ 32 ∷ offset_text pair.1) ≡ Some pair
unfolding pair_read
pair_again pair second offset =
    rw (
      numbers_read_back pair.0 (32 ∷ offset_text pair.1) (omega (arith, second.1)) (omega arith),
      (words_are_read_by_their_text (32 ∷ []) (32 ∷ offset_text pair.1) (offset_text pair.1)).1 refl,
      offset_again pair.1 offset,
    ) refl

-- a number that is padded to a width has that many digits
pub length-padded_text : (width n : ℕ) → 0 < width → width ≤ 12 → n < 10 ^ width → length (padded_text width n) ≡ width
length-padded_text width n some narrow small = omega (
  arith,
  padded_numbers_fill_the_width width n,
  (numbers_are_short width n some (omega (arith, narrow)) small).1,
)

digits_again : (width n : ℕ) (rest : List ℕ) → 0 < width → width ≤ 12 → n < 10 ^ width → n < 10 ^ 12 → NoDigitFirst rest
    → number_of_width width (padded_text width n ++ rest) ≡ Some (n, rest)
digits_again width n rest some narrow small fits stops =
    let is = padded_numbers_are_written_as_figures width n n n some narrow small (omega arith) (omega arith) in
    (wide_numbers_are_read_by_their_digits width (padded_text width n ++ rest) rest n narrow).1
    (padded_text width n, refl, is.written, stops)

digits_alone : (width n : ℕ) → 0 < width → width ≤ 12 → n < 10 ^ width → n < 10 ^ 12
    → number_of_width width (padded_text width n) ≡ Some (n, [])
digits_alone width n some narrow small fits = ap (number_of_width width) (sym (append-nil (padded_text width n)))
    ∙ digits_again width n [] some narrow small fits tt

-- a date
pub minus_again : (rest : List ℕ) → word_at (45 ∷ []) (45 ∷ rest) ≡ Some rest
minus_again rest = (words_are_read_by_their_text (45 ∷ []) (45 ∷ rest) rest).1 refl

pub date_again : (n : ℕ) → 10957 ≤ n → n ≤ 84005 → secured_read (date_text (date_after n)) ≡ Some (pos n)
unfolding secured_read
date_again n from to =
    let d = date_after n in
    let is = IsDateOf-date_after n in
    let year = year_in_range n d.year d.month d.date is from to in
    let there : IsDate d.year d.month d.date = (is.month_in, is.date_in.0, is.date_in.1) in
    let small = date_bound d.year d.month d.date there in
    let same = one_day_number (pos n) d.year d.month d.date (omega (arith, year.0)) is in
    rw (
      digits_again 4 d.year (45 ∷ (padded_text 2 d.month ++ 45 ∷ padded_text 2 d.date)) (omega arith) (omega arith)
          (omega (arith, year.1)) (omega (arith, year.1)) (omega arith),
      minus_again (padded_text 2 d.month ++ 45 ∷ padded_text 2 d.date),
      digits_again 2 d.month (45 ∷ padded_text 2 d.date) (omega arith) (omega arith) (omega (arith, small.0))
          (omega (arith, small.0)) (omega arith),
      minus_again (padded_text 2 d.date),
      digits_alone 2 d.date (omega arith) (omega arith) (omega (arith, small.1)) (omega (arith, small.1)),
      (at_most 2000 d.year).decides.1 year.0,
      (at_most d.year 2199).decides.1 year.1,
      (date_test d.year d.month d.date).decides.1 there,
    ) (ap (λ (x : ℤ). Some x) (sym same))
