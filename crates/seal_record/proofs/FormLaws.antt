-- Values are read by their forms.
use Rattle.std.{specs.{Prelude.{codes}, Str.{bytes_eq}}, proofs.lemmas.{List.{append-nil}, Slice.Eq.{bytes_eq-Decides}}}
use Rattle.std.proofs.Common.{[], ℕ, ℤ, ◌++◌, ◌↔◌, ◌∙◌, ◌∷◌, ◌≡◌, ◌≤◌, Bool, Decides, List, None, Option, Some, ap}
use Rattle.std.proofs.Common.{arith, false, if◌then◌else◌, length, neg_ℤ, pos, refl, subst, sym, true}
use Rattle.taxi_units.specs.{Digits.{AreDigitsOf}, Number.{NoDigitFirst, number_at, number_of_width}, Reading.{word_at}}
use Rattle.taxi_units.proofs.Laws.{numbers_are_read_by_their_digits, wide_numbers_are_read_by_their_digits}
use Rattle.taxi_units.proofs.Laws.{words_are_read_by_their_text}
use Rattle.{interval_clock.proofs.Laws.{is_date_of_number, one_day_number}, seal_record.specs.Common.{number_in}}
use Rattle.seal_record.specs.Common.{Double, IsDateOf, IsNumberIn, Mode, Single, at_most, date_test, day_number_of}
use Rattle.seal_record.specs.Forms.{IsDateText, IsModeText, IsOffsetText, IsPairText, IsOffsetText.{ahead, behind}}
use Rattle.seal_record.{specs.Forms.IsModeText.{double_said, single_said}, proofs.PlainValues.{minus_again, no_minus}}
use Rattle.seal_record.specs.Values.{mode_read, offset_read, pair_read, secured_read, secured_test, where_date}
use Rattle.seal_record.proofs.{ParamRanges.{let_through, read_on}, TextLaws.{empty_of, numbers_in_ranges}}

-- ---- modes

mode_by : (s d : Bool) (text : List ℕ) (mode : Mode) → Decides s (text ≡ codes "single")
    → Decides d (text ≡ codes "double")
    → (if s then Some Single else (if d then Some Double else None)) ≡ Some mode → IsModeText text mode
mode_by true d text mode is_single is_double e =
    let same : Single ≡ mode = cc in
    subst (λ (t : List ℕ). IsModeText t mode) (sym (is_single.0 refl))
    (subst (IsModeText (codes "single")) same single_said)
mode_by false true text mode is_single is_double e =
    let same : Double ≡ mode = cc in
    subst (λ (t : List ℕ). IsModeText t mode) (sym (is_double.0 refl))
    (subst (IsModeText (codes "double")) same double_said)
mode_by false false text mode is_single is_double e = absurd cc

mode_is : (text : List ℕ) (mode : Mode) → mode_read text ≡ Some mode → IsModeText text mode
unfolding mode_read
mode_is text mode e =
    mode_by (bytes_eq text (codes "single")) (bytes_eq text (codes "double")) text mode
    (bytes_eq-Decides text (codes "single")) (bytes_eq-Decides text (codes "double")) e

mode_from : (text : List ℕ) (mode : Mode) → IsModeText text mode → mode_read text ≡ Some mode
unfolding mode_read
mode_from text mode single_said = refl
mode_from text mode double_said = refl

pub modes_by_their_words : (text : List ℕ) (mode : Mode) → (mode_read text ≡ Some mode) ↔ IsModeText text mode
modes_by_their_words text mode = (mode_is text mode, mode_from text mode)

-- ---- offsets

offset_by : (text : List ℕ) (offset : ℤ) (found : Option (List ℕ)) → word_at (45 ∷ []) text ≡ found
    → offset_read text ≡ Some offset → IsOffsetText text offset
unfolding offset_read
offset_by text offset (Some digits) is e =
    let after = rw is at e in
    let read = read_on (number_in 0 50400 digits) (λ (n : ℕ). Some (neg_ℤ (pos n))) offset after in
    let same : neg_ℤ (pos read.0) ≡ offset = some_same (neg_ℤ (pos read.0)) offset read.2 in
    subst (λ (t : List ℕ). IsOffsetText t offset) (sym ((words_are_read_by_their_text (45 ∷ []) text digits).0 is))
    (subst (IsOffsetText (45 ∷ digits)) same
    (behind digits read.0 ((numbers_in_ranges 0 50400 digits read.0).0 read.1)))
  where
    some_same : (x y : ℤ) → Some x ≡ Some y → x ≡ y
    some_same x y e = cc
offset_by text offset None is e =
    let after = rw is at e in
    let read = read_on (number_in 0 50400 text) (λ (n : ℕ). Some (pos n)) offset after in
    let same : pos read.0 ≡ offset = some_same (pos read.0) offset read.2 in
    subst (IsOffsetText text) same (ahead text read.0 ((numbers_in_ranges 0 50400 text read.0).0 read.1))
  where
    some_same : (x y : ℤ) → Some x ≡ Some y → x ≡ y
    some_same x y e = cc

-- digits alone are their number
alone_read : (low high : ℕ) (digits : List ℕ) (n : ℕ) → IsNumberIn low high digits n → number_at digits ≡ Some (n, [])
alone_read low high digits n is =
    (numbers_are_read_by_their_digits digits [] n).1 (digits, sym (append-nil digits), is.written, tt)

offset_from_text : (text : List ℕ) (offset : ℤ) → IsOffsetText text offset → offset_read text ≡ Some offset
unfolding offset_read
offset_from_text text offset (ahead digits n is) =
    rw (no_minus digits (n, []) (alone_read 0 50400 digits n is), (numbers_in_ranges 0 50400 digits n).1 is) refl
offset_from_text text offset (behind digits n is) =
    rw (minus_again digits, (numbers_in_ranges 0 50400 digits n).1 is) refl

pair_is : (text : List ℕ) (pair : ℕ × ℤ) → pair_read text ≡ Some pair → IsPairText text pair
unfolding pair_read
pair_is text pair e =
    let second = read_on (number_at text) _ pair e in
    let rest = read_on (word_at (32 ∷ []) second.0.1) _ pair second.2 in
    let offset = read_on (offset_read rest.0) _ pair rest.2 in
    let same : (second.0.0, offset.0) ≡ pair = one_pair (second.0.0, offset.0) pair offset.2 in
    let is = (numbers_are_read_by_their_digits text second.0.1 second.0.0).0 second.1 in
    record {
      second = is.0;
      offset = rest.0;
      text_is =
          is.1 ∙ ap (λ (r : List ℕ). is.0 ++ r) ((words_are_read_by_their_text (32 ∷ []) second.0.1 rest.0).0 rest.1);
      second_is = subst (λ (p : ℕ × ℤ). AreDigitsOf 1 12 is.0 p.0) same is.2;
      offset_is = subst (λ (p : ℕ × ℤ). IsOffsetText rest.0 p.1) same
          (offset_by rest.0 offset.0 (word_at (45 ∷ []) rest.0) refl offset.1);
    }
  where
    one_pair : (x y : ℕ × ℤ) → Some x ≡ Some y → x ≡ y
    one_pair x y e = cc

pair_from : (text : List ℕ) (pair : ℕ × ℤ) → IsPairText text pair → pair_read text ≡ Some pair
unfolding pair_read
pair_from text pair is =
    let second : number_at (is.second ++ 32 ∷ is.offset) ≡ Some (pair.0, 32 ∷ is.offset) =
    (numbers_are_read_by_their_digits (is.second ++ 32 ∷ is.offset) (32 ∷ is.offset) pair.0).1
    (is.second, refl, is.second_is, omega arith) in
    rw (
      is.text_is,
      second,
      (words_are_read_by_their_text (32 ∷ []) (32 ∷ is.offset) is.offset).1 refl,
      offset_from_text is.offset pair.1 is.offset_is,
    ) refl

pub pairs_by_their_form : (text : List ℕ) (pair : ℕ × ℤ) → (pair_read text ≡ Some pair) ↔ IsPairText text pair
pairs_by_their_form text pair = (pair_is text pair, pair_from text pair)

-- ---- dates

-- a number of `width` digits at the front of a text
record IsFront (width : ℕ) (text : List ℕ) (x : ℕ × List ℕ) : Type 0 where
  digits : List ℕ
  text_is : text ≡ digits ++ x.1
  wide : AreDigitsOf width width digits x.0

front_is : (width : ℕ) (text : List ℕ) (x : ℕ × List ℕ) → width ≤ 12 → number_of_width width text ≡ Some x
    → IsFront width text x
front_is width text x narrow e =
    let is = (wide_numbers_are_read_by_their_digits width text x.1 x.0 narrow).0 e in
    record { digits = is.0; text_is = is.1; wide = is.2 }

front_from : (width : ℕ) (digits rest : List ℕ) (n : ℕ) → width ≤ 12 → AreDigitsOf width width digits n
    → NoDigitFirst rest → number_of_width width (digits ++ rest) ≡ Some (n, rest)
front_from width digits rest n narrow is stops =
    (wide_numbers_are_read_by_their_digits width (digits ++ rest) rest n narrow).1 (digits, refl, is, stops)

-- a year, a month and a date that were read
record IsRead (year month date : ℕ) (rest : List ℕ) (day : ℤ) : Type 0 where
  nothing_left : rest ≡ []
  years_from : 2000 ≤ year
  years_to : year ≤ 2199
  day_of : IsDateOf day year month date

read_is : (year month date : ℕ) (rest : List ℕ) (day : ℤ) → where_date year month date rest ≡ Some day
    → IsRead year month date rest day
read_is year month date rest day e =
    let through = let_through (secured_test year month date rest) (pos (day_number_of year month date)) day e in
    record {
      nothing_left = empty_of rest through.0.0;
      years_from = through.0.1.0;
      years_to = through.0.1.1.0;
      day_of = subst (λ (d : ℤ). IsDateOf d year month date) through.1
          (is_date_of_number year month date (omega (arith, through.0.1.0)) through.0.1.1.1);
    }

-- the parts of a date that were read one behind the other are its text
parts_joined : (text first second rest after_year after_month years months dates : List ℕ) → text ≡ years ++ after_year
    → after_year ≡ 45 ∷ first → first ≡ months ++ after_month → after_month ≡ 45 ∷ second → second ≡ dates ++ rest
    → rest ≡ [] → text ≡ years ++ 45 ∷ (months ++ 45 ∷ dates)
parts_joined text first second rest after_year after_month years months dates text_is year_ends first_is month_ends
    second_is none = rw (text_is, year_ends, first_is, month_ends, second_is, none, append-nil dates) refl

date_is : (text : List ℕ) (day : ℤ) → secured_read text ≡ Some day → IsDateText text day
unfolding secured_read
date_is text day e =
    let year = read_on (number_of_width 4 text) _ day e in
    let first = read_on (word_at (45 ∷ []) year.0.1) _ day year.2 in
    let month = read_on (number_of_width 2 first.0) _ day first.2 in
    let second = read_on (word_at (45 ∷ []) month.0.1) _ day month.2 in
    let date = read_on (number_of_width 2 second.0) _ day second.2 in
    let is = read_is year.0.0 month.0.0 date.0.0 date.0.1 day date.2 in
    let years = front_is 4 text year.0 (omega arith) year.1 in
    let months = front_is 2 first.0 month.0 (omega arith) month.1 in
    let dates = front_is 2 second.0 date.0 (omega arith) date.1 in
    record {
      years = years.digits;
      months = months.digits;
      dates = dates.digits;
      text_is = parts_joined text first.0 second.0 date.0.1 year.0.1 month.0.1 years.digits months.digits dates.digits
          years.text_is ((words_are_read_by_their_text (45 ∷ []) year.0.1 first.0).0 first.1) months.text_is
          ((words_are_read_by_their_text (45 ∷ []) month.0.1 second.0).0 second.1) dates.text_is is.nothing_left;
      year = year.0.0;
      month = month.0.0;
      date = date.0.0;
      year_is = record { written = years.wide; above = is.years_from; below = is.years_to };
      month_is = months.wide;
      date_is = dates.wide;
      day_is = is.day_of;
    }

date_from : (text : List ℕ) (day : ℤ) → IsDateText text day → secured_read text ≡ Some day
unfolding secured_read
date_from text day is =
    let same = one_day_number day is.year is.month is.date (omega (arith, is.year_is.above)) is.day_is in
    let last : number_of_width 2 is.dates ≡ Some (is.date, []) =
    ap (number_of_width 2) (sym (append-nil is.dates)) ∙ front_from 2 is.dates [] is.date (omega arith) is.date_is tt in
    rw (
      is.text_is,
      front_from 4 is.years (45 ∷ (is.months ++ 45 ∷ is.dates)) is.year (omega arith) is.year_is.written (omega arith),
      minus_again (is.months ++ 45 ∷ is.dates),
      front_from 2 is.months (45 ∷ is.dates) is.month (omega arith) is.month_is (omega arith),
      minus_again is.dates,
      last,
      (at_most 2000 is.year).decides.1 is.year_is.above,
      (at_most is.year 2199).decides.1 is.year_is.below,
      (date_test is.year is.month is.date).decides.1 (is.day_is.month_in, is.day_is.date_in.0, is.day_is.date_in.1),
    ) (ap (λ (x : ℤ). Some x) (sym same))

pub dates_by_their_form : (text : List ℕ) (day : ℤ) → (secured_read text ≡ Some day) ↔ IsDateText text day
dates_by_their_form text day = (date_is text day, date_from text day)
