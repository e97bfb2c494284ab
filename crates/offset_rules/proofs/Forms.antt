-- Parts of lines are read by their forms.
use Rattle.std.proofs.Common.{[], ℕ, ℤ, ◌*◌, ◌++◌, ◌+◌, ◌∙◌, ◌∷◌, ◌≡◌, ◌≤◌, List, None, Option, Some, ap, append_assoc}
use Rattle.{std.proofs.Common.{arith, neg_ℤ, pos, refl, subst, sym}, offset_rules.specs.Forms.IsSeconds.{ahead, behind}}
use Rattle.taxi_units.specs.{Number.{NoDigitFirst, figure_at, number_at}, Reading.{word_at}}
use Rattle.taxi_units.proofs.Laws.{figures_in_front_are_read_by_their_digits, words_are_read_by_their_text}
use Rattle.offset_rules.specs.{Common.{◌>>=◌, IsFigure}, Forms.{IsSeconds, IsTime}, Reading.{seconds_at, time_at}}

-- if reading goes on to a value, something was found first
pub read_on : {A B : Type 0} (found : Option A) (on : A → Option B) (y : B) → found >>= on ≡ Some y
    → (x : A) × (found ≡ Some x) × (on x ≡ Some y)
read_on (Some x) on y e = (x, refl, e)
read_on None on y e = absurd cc

some_same : {A : Type 0} (x y : A) → Some x ≡ Some y → x ≡ y
some_same x y e = cc

-- a figure stands at the front
pub record FigureFirst (fewest most high : ℕ) (text : List ℕ) (value : ℕ) (rest : List ℕ) : Type 0 where
  pub digits : List ℕ
  pub text_is : text ≡ digits ++ rest
  pub figure : IsFigure fewest most 0 high digits value
  pub stops : NoDigitFirst rest

pub figure_is : (fewest most high : ℕ) (text : List ℕ) (x : ℕ × List ℕ) → most ≤ 12
    → figure_at fewest most 0 high text ≡ Some x → FigureFirst fewest most high text x.0 x.1
figure_is fewest most high text x narrow e =
    let is = (figures_in_front_are_read_by_their_digits fewest most 0 high text x.1 x.0 narrow).0 e in
    record { digits = is.0; text_is = is.1; figure = is.2; stops = is.3 }

pub figure_from : (fewest most high : ℕ) (digits rest : List ℕ) (value : ℕ) → most ≤ 12
    → IsFigure fewest most 0 high digits value → NoDigitFirst rest
    → figure_at fewest most 0 high (digits ++ rest) ≡ Some (value, rest)
figure_from fewest most high digits rest value narrow is stops =
    (figures_in_front_are_read_by_their_digits fewest most 0 high (digits ++ rest) rest value narrow).1
    (digits, refl, is, stops)

-- an offset stands at the front
pub record SecondsFirst (text : List ℕ) (offset : ℤ) (rest : List ℕ) : Type 0 where
  pub value : List ℕ
  pub text_is : text ≡ value ++ rest
  pub seconds : IsSeconds value offset
  pub stops : NoDigitFirst rest

seconds_by : (text : List ℕ) (x : ℤ × List ℕ) (found : Option (List ℕ)) → word_at (45 ∷ []) text ≡ found
    → seconds_at text ≡ Some x → SecondsFirst text x.0 x.1
unfolding seconds_at
seconds_by text x (Some digits) is e =
    let after = rw is at e in
    let read = read_on (figure_at 1 5 0 50400 digits) (λ (n : ℕ × List ℕ). Some (neg_ℤ (pos n.0), n.1)) x after in
    let figure = figure_is 1 5 50400 digits read.0 (omega arith) read.1 in
    let there : SecondsFirst text (neg_ℤ (pos read.0.0)) read.0.1 = record {
      value = 45 ∷ figure.digits;
      text_is = (words_are_read_by_their_text (45 ∷ []) text digits).0 is ∙ ap (λ (t : List ℕ). 45 ∷ t) figure.text_is;
      seconds = behind figure.digits read.0.0 figure.figure;
      stops = figure.stops;
    } in
    subst (λ (z : ℤ × List ℕ). SecondsFirst text z.0 z.1) (some_same (neg_ℤ (pos read.0.0), read.0.1) x read.2) there
seconds_by text x None is e =
    let after = rw is at e in
    let read = read_on (figure_at 1 5 0 50400 text) (λ (n : ℕ × List ℕ). Some (pos n.0, n.1)) x after in
    let figure = figure_is 1 5 50400 text read.0 (omega arith) read.1 in
    let there : SecondsFirst text (pos read.0.0) read.0.1 = record {
      value = figure.digits;
      text_is = figure.text_is;
      seconds = ahead figure.digits read.0.0 figure.figure;
      stops = figure.stops;
    } in
    subst (λ (z : ℤ × List ℕ). SecondsFirst text z.0 z.1) (some_same (pos read.0.0, read.0.1) x read.2) there

pub seconds_is : (text : List ℕ) (x : ℤ × List ℕ) → seconds_at text ≡ Some x → SecondsFirst text x.0 x.1
seconds_is text x e = seconds_by text x (word_at (45 ∷ []) text) refl e

-- digits have no minus in front
figure_after_minus : (rest : List ℕ) → figure_at 1 5 0 50400 (45 ∷ rest) ≡ None
unfolding figure_at number_at
figure_after_minus rest = refl

no_minus_by : (text : List ℕ) (x : ℕ × List ℕ) (found : Option (List ℕ)) → figure_at 1 5 0 50400 text ≡ Some x
    → word_at (45 ∷ []) text ≡ found → found ≡ None
no_minus_by text x None read is = refl
no_minus_by text x (Some rest) read is =
    let after : text ≡ 45 ∷ rest = (words_are_read_by_their_text (45 ∷ []) text rest).0 is in
    let none : Some x ≡ None = sym read ∙ (ap (figure_at 1 5 0 50400) after ∙ figure_after_minus rest) in
    absurd cc

seconds_from_by : (value rest : List ℕ) (offset : ℤ) → IsSeconds value offset → NoDigitFirst rest
    → seconds_at (value ++ rest) ≡ Some (offset, rest)
unfolding seconds_at
seconds_from_by value rest offset (ahead digits n is) stops =
    let read = figure_from 1 5 50400 digits rest n (omega arith) is stops in
    let none : word_at (45 ∷ []) (digits ++ rest) ≡ None =
    no_minus_by (digits ++ rest) (n, rest) (word_at (45 ∷ []) (digits ++ rest)) read refl in
    rw (none, read) refl
seconds_from_by value rest offset (behind digits n is) stops =
    let read = figure_from 1 5 50400 digits rest n (omega arith) is stops in
    let minus : word_at (45 ∷ []) (45 ∷ (digits ++ rest)) ≡ Some (digits ++ rest) =
    (words_are_read_by_their_text (45 ∷ []) (45 ∷ (digits ++ rest)) (digits ++ rest)).1 refl in
    rw (minus, read) refl

pub seconds_from : (value rest : List ℕ) (offset : ℤ) → IsSeconds value offset → NoDigitFirst rest
    → seconds_at (value ++ rest) ≡ Some (offset, rest)
seconds_from value rest offset is stops = seconds_from_by value rest offset is stops

-- a time stands at the front
pub record TimeFirst (text : List ℕ) (minute : ℕ) (rest : List ℕ) : Type 0 where
  pub time : List ℕ
  pub text_is : text ≡ time ++ rest
  pub is : IsTime time minute
  pub stops : NoDigitFirst rest

pub time_is : (text : List ℕ) (x : ℕ × List ℕ) → time_at text ≡ Some x → TimeFirst text x.0 x.1
unfolding time_at
time_is text x e =
    let hour = read_on (figure_at 2 2 0 23 text) _ x e in
    let colon = read_on (word_at (58 ∷ []) hour.0.1) _ x hour.2 in
    let minute = read_on (figure_at 2 2 0 59 colon.0) _ x colon.2 in
    let h = figure_is 2 2 23 text hour.0 (omega arith) hour.1 in
    let m = figure_is 2 2 59 colon.0 minute.0 (omega arith) minute.1 in
    let after : hour.0.1 ≡ 58 ∷ colon.0 = (words_are_read_by_their_text (58 ∷ []) hour.0.1 colon.0).0 colon.1 in
    let there : TimeFirst text (hour.0.0 * 60 + minute.0.0) minute.0.1 = record {
      time = h.digits ++ 58 ∷ m.digits;
      text_is = h.text_is ∙ (ap (λ (t : List ℕ). h.digits ++ t) (after ∙ ap (λ (t : List ℕ). 58 ∷ t) m.text_is)
          ∙ sym (append_assoc h.digits (58 ∷ m.digits) minute.0.1));
      is = record {
        hours = h.digits;
        minutes = m.digits;
        text_is = refl;
        hour = hour.0.0;
        rest = minute.0.0;
        hour_is = h.figure;
        rest_is = m.figure;
        minute_is = refl;
      };
      stops = m.stops;
    } in
    subst (λ (z : ℕ × List ℕ). TimeFirst text z.0 z.1)
    (some_same (hour.0.0 * 60 + minute.0.0, minute.0.1) x minute.2) there

pub time_from : (time rest : List ℕ) (minute : ℕ) → IsTime time minute → NoDigitFirst rest
    → time_at (time ++ rest) ≡ Some (minute, rest)
unfolding time_at
time_from time rest minute is stops =
    let text : time ++ rest ≡ is.hours ++ 58 ∷ (is.minutes ++ rest) =
    ap (λ (t : List ℕ). t ++ rest) is.text_is ∙ append_assoc is.hours (58 ∷ is.minutes) rest in
    let hour = figure_from 2 2 23 is.hours (58 ∷ (is.minutes ++ rest)) is.hour (omega arith) is.hour_is (omega arith) in
    let colon : word_at (58 ∷ []) (58 ∷ (is.minutes ++ rest)) ≡ Some (is.minutes ++ rest) =
    (words_are_read_by_their_text (58 ∷ []) (58 ∷ (is.minutes ++ rest)) (is.minutes ++ rest)).1 refl in
    let minutes = figure_from 2 2 59 is.minutes rest is.rest (omega arith) is.rest_is stops in
    rw (text, hour, colon, minutes) (ap (λ (n : ℕ). Some (n, rest)) (sym is.minute_is))
