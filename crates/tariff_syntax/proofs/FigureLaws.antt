-- What figures say is read from their forms.
use Rattle.std.proofs.Common.{[], ℕ, ◌*◌, ◌++◌, ◌+◌, ◌∙◌, ◌∷◌, ◌≡◌, ◌≤◌, Err, List, Ok, Option, Result, Some, ap, arith}
use Rattle.std.proofs.{Common.{codes, refl, subst, sym}, lemmas.{Bool.{and_parts, le-leb, leb-true}, List.{append-nil}}}
use Rattle.taxi_units.specs.{Number.{NoDigitFirst, decimal_read, number_of_width}, Reading.{word_at}}
use Rattle.taxi_units.{specs.declared.decimal.NumberFault.{NumberFault}, proofs.Laws.{words_are_read_by_their_text}}
use Rattle.taxi_units.proofs.Laws.{decimals_are_read_by_their_form, wide_numbers_are_read_by_their_digits}
use Rattle.tariff_syntax.specs.{Common.{AreDigitsOf}, Figure.{where_of_a_day, year_date_read}, Words.{figure_first}}
use Rattle.tariff_syntax.specs.Figure.{amount_or_none, amount_read, date_read, figure_as, minute_read, pair_read}
use Rattle.tariff_syntax.specs.{Forms.{IsAmount, IsDate, IsMinute, IsPair, IsYearDate}, Token.{Token, figure}}
use Rattle.tariff_syntax.proofs.Tools.{bind_some, ended_is, figure_first_here, figure_first_is, passed, some_same}

word_again : (word rest : List ℕ) → word_at word (word ++ rest) ≡ Some rest
word_again word rest = (words_are_read_by_their_text word (word ++ rest) rest).1 refl

-- digits at the front
abbrev IsFront : (width : ℕ) → List ℕ → ℕ → List ℕ → Type 0
IsFront width text n rest = (x : List ℕ) × (text ≡ x ++ rest) × AreDigitsOf width width x n × NoDigitFirst rest

digits_are : (width : ℕ) (text rest : List ℕ) (n : ℕ) → width ≤ 12 → number_of_width width text ≡ Some (n, rest)
    → IsFront width text n rest
digits_are width text rest n few e =
    let is = (wide_numbers_are_read_by_their_digits width text rest n few).0 e in
    (is.0, is.1, is.2, is.3)

digits_again : (width : ℕ) (x rest : List ℕ) (n : ℕ) → width ≤ 12 → AreDigitsOf width width x n → NoDigitFirst rest
    → number_of_width width (x ++ rest) ≡ Some (n, rest)
digits_again width x rest n few h stops =
    (wide_numbers_are_read_by_their_digits width (x ++ rest) rest n few).1 (x, refl, h, stops)

pub pair_is : (between text : List ℕ) (first second : ℕ) → pair_read between text ≡ Some (first, second)
    → IsPair between text first second
unfolding pair_read
pair_is between text first second e =
    let one = bind_some (number_of_width 2 text) _ (first, second) e in
    let two = bind_some (word_at between one.0.1) _ (first, second) one.2 in
    let three = bind_some (number_of_width 2 two.0) _ (first, second) two.2 in
    let end = ended_is three.0.1 (one.0.0, three.0.0) (first, second) three.2 in
    let a = digits_are 2 text one.0.1 one.0.0 (omega arith) one.1 in
    let b = digits_are 2 two.0 three.0.1 three.0.0 (omega arith) three.1 in
    let between_is : one.0.1 ≡ between ++ two.0 = (words_are_read_by_their_text between one.0.1 two.0).0 two.1 in
    let last : two.0 ≡ b.0 = b.1 ∙ (ap (λ (ys : List ℕ). b.0 ++ ys) end.0 ∙ append-nil b.0) in
    let first_is : one.0.0 ≡ first = ap (λ (p : ℕ × ℕ). p.0) end.1 in
    let second_is : three.0.0 ≡ second = ap (λ (p : ℕ × ℕ). p.1) end.1 in (
      a.0,
      b.0,
      a.1 ∙ ap (λ (ys : List ℕ). a.0 ++ ys) (between_is ∙ ap (λ (ys : List ℕ). between ++ ys) last),
      subst (AreDigitsOf 2 2 a.0) first_is a.2,
      subst (AreDigitsOf 2 2 b.0) second_is b.2,
    )

pub pair_again : (between text : List ℕ) (first second : ℕ) → ((y : List ℕ) → NoDigitFirst (between ++ y))
    → IsPair between text first second → pair_read between text ≡ Some (first, second)
unfolding pair_read
pair_again between text first second stops h =
    let x = h.0 in
    let y = h.1 in
    let last : number_of_width 2 y ≡ Some (second, []) =
    ap (number_of_width 2) (sym (append-nil y)) ∙ digits_again 2 y [] second (omega arith) h.4 tt in
    rw (h.2, digits_again 2 x (between ++ y) first (omega arith) h.3 (stops y), word_again between y, last) refl

dash_stops : (y : List ℕ) → NoDigitFirst (codes "-" ++ y)
dash_stops y = omega arith

colon_stops : (y : List ℕ) → NoDigitFirst (codes ":" ++ y)
colon_stops y = omega arith

pub date_again : (text : List ℕ) (month number : ℕ) → IsDate text month number → date_read text ≡ Some (month, number)
date_again text month number h = pair_again (codes "-") text month number dash_stops h

pub year_date_is : (text : List ℕ) (year month number : ℕ) → year_date_read text ≡ Some (year, month, number)
    → IsYearDate text year month number
unfolding year_date_read
year_date_is text year month number e =
    let one = bind_some (number_of_width 4 text) _ (year, month, number) e in
    let two = bind_some (word_at (codes "-") one.0.1) _ (year, month, number) one.2 in
    let three = bind_some (date_read two.0) _ (year, month, number) two.2 in
    let a = digits_are 4 text one.0.1 one.0.0 (omega arith) one.1 in
    let dash : one.0.1 ≡ codes "-" ++ two.0 = (words_are_read_by_their_text (codes "-") one.0.1 two.0).0 two.1 in
    let found = some_same (one.0.0, three.0.0, three.0.1) (year, month, number) three.2 in
    let year_is : one.0.0 ≡ year = ap (λ (p : ℕ × ℕ × ℕ). p.0) found in
    let date_is : three.0 ≡ (month, number) = ap (λ (p : ℕ × ℕ × ℕ). (p.1, p.2)) found in (
      a.0,
      two.0,
      a.1 ∙ ap (λ (ys : List ℕ). a.0 ++ ys) dash,
      subst (AreDigitsOf 4 4 a.0) year_is a.2,
      pair_is (codes "-") two.0 month number (three.1 ∙ ap Some date_is),
    )

pub year_date_again : (text : List ℕ) (year month number : ℕ) → IsYearDate text year month number
    → year_date_read text ≡ Some (year, month, number)
unfolding year_date_read
year_date_again text year month number h =
    rw (
      h.2,
      digits_again 4 h.0 (codes "-" ++ h.1) year (omega arith) h.3 (dash_stops h.1),
      word_again (codes "-") h.1,
      date_again h.1 month number h.4,
    ) refl

pub minute_is : (text : List ℕ) (minute : ℕ) → minute_read text ≡ Some minute → IsMinute text minute
unfolding minute_read
minute_is text minute e =
    let read = bind_some (pair_read (codes ":") text) where_of_a_day minute e in
    let test = passed _ (60 * read.0.0 + read.0.1) minute read.2 in
    let parts = and_parts _ _ test.0 in (
      read.0.0,
      read.0.1,
      pair_is (codes ":") text read.0.0 read.0.1 read.1,
      leb-true _ _ parts.0,
      leb-true _ _ parts.1,
      sym test.1,
    )

pub minute_again : (text : List ℕ) (minute : ℕ) → IsMinute text minute → minute_read text ≡ Some minute
unfolding minute_read
minute_again text minute h =
    rw (pair_again (codes ":") text h.0 h.1 colon_stops h.2, le-leb _ _ h.3, le-leb _ _ h.4) (ap Some (sym h.5))

amount_by : (r : Result ℕ NumberFault) (n : ℕ) → amount_or_none r ≡ Some n → r ≡ Ok n
amount_by (Ok m) n e = cc
amount_by (Err fault) n e = absurd cc

pub amount_is : (decimals : ℕ) (text : List ℕ) (n : ℕ) → amount_read decimals text ≡ Some n → IsAmount decimals text n
unfolding amount_read
amount_is decimals text n e =
    (decimals_are_read_by_their_form decimals text (Ok n)).0 (amount_by (decimal_read decimals text) n e)

pub amount_again : (decimals : ℕ) (text : List ℕ) (n : ℕ) → IsAmount decimals text n
    → amount_read decimals text ≡ Some n
unfolding amount_read
amount_again decimals text n h = rw ((decimals_are_read_by_their_form decimals text (Ok n)).1 h) refl

-- a figure that reads as a value stands first
pub figure_as_is : {A : Type 0} (read : List ℕ → Option A) (ts : List Token) (x : A × List Token)
    → figure_as read ts ≡ Some x → (f : List ℕ) × (ts ≡ figure f ∷ x.1) × (read f ≡ Some x.0)
figure_as_is read ts x e =
    let one = bind_some (figure_first ts) _ x e in
    let two = bind_some (read one.0.0) _ x one.2 in
    let value : two.0 ≡ x.0 = cc in
    let rest : one.0.1 ≡ x.1 = cc in
    (one.0.0, figure_first_is ts one.0 one.1 ∙ ap (λ (r : List Token). figure one.0.0 ∷ r) rest, two.1 ∙ ap Some value)

pub figure_as_here : {A : Type 0} (read : List ℕ → Option A) (f : List ℕ) (v : A) (rest : List Token) → read f ≡ Some v
    → figure_as read (figure f ∷ rest) ≡ Some (v, rest)
figure_as_here read f v rest e = rw (figure_first_here f rest, e) refl
