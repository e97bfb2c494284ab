-- Atoms are read from their forms.
use Rattle.std.proofs.Common.{[], ℕ, ◌++◌, ◌∙◌, ◌∷◌, ◌≡◌, ◌≤◌, List, None, Option, Some, ap, arith, codes, inl, inr}
use Rattle.{std.proofs.Common.{refl, subst, suc, zero}, taxi_units.proofs.Laws.{figures_are_read_by_their_digits}}
use Rattle.{taxi_units.specs.Number.{figure_in}, tariff_syntax.proofs.FigureLaws.{minute_again, minute_is, pair_is}}
use Rattle.tariff_syntax.specs.Atom.{after_first, atom_named, by_unit, dates_first, days_first, numbered_first}
use Rattle.tariff_syntax.specs.{Atom.{time_first, until_weekday, weekday_first, weekday_read}, Figure.{number_first}}
use Rattle.tariff_syntax.specs.Common.{Condition, after_distance, after_time, and, date, day, day_name, holiday, not}
use Rattle.tariff_syntax.specs.{Common.{or, position, time, zone}, Words.{after_sign, after_word, word_first}}
use Rattle.tariff_syntax.specs.Figure.{amount_first, amount_read, date_first, date_read, minute_first, minute_read}
use Rattle.tariff_syntax.specs.Forms.{AreWeekdays, IsAmount, IsAtom, IsDate, IsMinute, IsNumber, IsWeekday}
use Rattle.tariff_syntax.specs.{Grammar.{Reader, factor_by}, Token.{Token, figure, sign, word}, Weight.{weight}}
use Rattle.tariff_syntax.proofs.FigureLaws.{amount_again, amount_is, date_again, figure_as_here, figure_as_is}
use Rattle.tariff_syntax.proofs.Tools.{after_sign_here, after_sign_is, after_word_here, after_word_is, bind_some}
use Rattle.tariff_syntax.proofs.Tools.{by_word, some_same, word_first_here, word_first_is}

pub number_is : (least most : ℕ) (ts : List Token) (x : ℕ × List Token) → number_first least most ts ≡ Some x
    → (f : List ℕ) × (ts ≡ figure f ∷ x.1) × IsNumber least most f x.0
unfolding number_first
number_is least most ts x e = let is = figure_as_is (figure_in 1 2 least most) ts x e in
    (is.0, is.1, (figures_are_read_by_their_digits 1 2 least most is.0 x.0 (omega arith)).0 is.2)

pub number_here : (least most : ℕ) (f : List ℕ) (n : ℕ) (rest : List Token) → IsNumber least most f n
    → number_first least most (figure f ∷ rest) ≡ Some (n, rest)
unfolding number_first
number_here least most f n rest h = figure_as_here (figure_in 1 2 least most) f n rest
    ((figures_are_read_by_their_digits 1 2 least most f n (omega arith)).1 h)

pub amounts_are : (decimals : ℕ) (ts : List Token) (x : ℕ × List Token) → amount_first decimals ts ≡ Some x
    → (f : List ℕ) × (ts ≡ figure f ∷ x.1) × IsAmount decimals f x.0
unfolding amount_first
amounts_are decimals ts x e = let is = figure_as_is (amount_read decimals) ts x e in
    (is.0, is.1, amount_is decimals is.0 x.0 is.2)

pub amount_here : (decimals : ℕ) (f : List ℕ) (n : ℕ) (rest : List Token) → IsAmount decimals f n
    → amount_first decimals (figure f ∷ rest) ≡ Some (n, rest)
unfolding amount_first
amount_here decimals f n rest h = figure_as_here (amount_read decimals) f n rest (amount_again decimals f n h)

minutes_are : (ts : List Token) (x : ℕ × List Token) → minute_first ts ≡ Some x
    → (f : List ℕ) × (ts ≡ figure f ∷ x.1) × IsMinute f x.0
unfolding minute_first
minutes_are ts x e = let is = figure_as_is minute_read ts x e in (is.0, is.1, minute_is is.0 x.0 is.2)

minute_here : (f : List ℕ) (n : ℕ) (rest : List Token) → IsMinute f n → minute_first (figure f ∷ rest) ≡ Some (n, rest)
unfolding minute_first
minute_here f n rest h = figure_as_here minute_read f n rest (minute_again f n h)

dates_are : (ts : List Token) (x : (ℕ × ℕ) × List Token) → date_first ts ≡ Some x
    → (f : List ℕ) × (ts ≡ figure f ∷ x.1) × IsDate f x.0.0 x.0.1
unfolding date_first
dates_are ts x e = let is = figure_as_is date_read ts x e in (is.0, is.1, pair_is (codes "-") is.0 x.0.0 x.0.1 is.2)

date_here : (f : List ℕ) (m n : ℕ) (rest : List Token) → IsDate f m n
    → date_first (figure f ∷ rest) ≡ Some ((m, n), rest)
unfolding date_first
date_here f m n rest h = figure_as_here date_read f (m, n) rest (date_again f m n h)

-- what holds of 1 to 7 holds of each weekday
pub each_day : (P : ℕ → Type 0) → P 1 → P 2 → P 3 → P 4 → P 5 → P 6 → P 7 → (n : ℕ) → 1 ≤ n → n ≤ 7 → P n
each_day P a b c d e f g zero low high = absurd (omega arith)
each_day P a b c d e f g (suc zero) low high = a
each_day P a b c d e f g (suc (suc zero)) low high = b
each_day P a b c d e f g (suc (suc (suc zero))) low high = c
each_day P a b c d e f g (suc (suc (suc (suc zero)))) low high = d
each_day P a b c d e f g (suc (suc (suc (suc (suc zero))))) low high = e
each_day P a b c d e f g (suc (suc (suc (suc (suc (suc zero)))))) low high = f
each_day P a b c d e f g (suc (suc (suc (suc (suc (suc (suc zero))))))) low high = g
each_day P a b c d e f g (suc (suc (suc (suc (suc (suc (suc (suc n)))))))) low high = absurd (omega arith)

named_day : (name : List ℕ) (k n : ℕ) → 1 ≤ k → k ≤ 7 → name ≡ day_name k → Some k ≡ Some n → IsWeekday name n
named_day name k n low high is e = subst (IsWeekday name) (some_same k n e) (low, high, is)

pub weekday_is : (name : List ℕ) (n : ℕ) → weekday_read name ≡ Some n → IsWeekday name n
weekday_is name n e =
    let P : List ℕ → Type 0 = λ w. IsWeekday w n in
    by_word P name (codes "mon") _ _ n e (named_day (codes "mon") 1 n (omega arith) (omega arith) refl) (
    λ e. by_word P name (codes "tue") _ _ n e (named_day (codes "tue") 2 n (omega arith) (omega arith) refl) (
    λ e. by_word P name (codes "wed") _ _ n e (named_day (codes "wed") 3 n (omega arith) (omega arith) refl) (
    λ e. by_word P name (codes "thu") _ _ n e (named_day (codes "thu") 4 n (omega arith) (omega arith) refl) (
    λ e. by_word P name (codes "fri") _ _ n e (named_day (codes "fri") 5 n (omega arith) (omega arith) refl) (
    λ e. by_word P name (codes "sat") _ _ n e (named_day (codes "sat") 6 n (omega arith) (omega arith) refl) (
    λ e. by_word P name (codes "sun") _ _ n e (named_day (codes "sun") 7 n (omega arith) (omega arith) refl) (
    λ e. absurd (let none : None ≡ Some n = e in cc))))))))

day_again : (n : ℕ) → 1 ≤ n → n ≤ 7 → weekday_read (day_name n) ≡ Some n
day_again = each_day (λ (n : ℕ). weekday_read (day_name n) ≡ Some n) refl refl refl refl refl refl refl

weekday_again : (name : List ℕ) (n : ℕ) → IsWeekday name n → weekday_read name ≡ Some n
weekday_again name n h = ap weekday_read h.2 ∙ day_again n h.0 h.1

weekdays_are : (ts : List Token) (x : ℕ × List Token) → weekday_first ts ≡ Some x
    → (name : List ℕ) × (ts ≡ word name ∷ x.1) × IsWeekday name x.0
unfolding weekday_first
weekdays_are ts x e =
    let one = bind_some (word_first ts) _ x e in
    let two = bind_some (weekday_read one.0.0) _ x one.2 in
    let found = some_same (two.0, one.0.1) x two.2 in
    let value : two.0 ≡ x.0 = ap (λ (p : ℕ × List Token). p.0) found in
    let rest : one.0.1 ≡ x.1 = ap (λ (p : ℕ × List Token). p.1) found in (
      one.0.0,
      word_first_is ts one.0 one.1 ∙ ap (λ (r : List Token). word one.0.0 ∷ r) rest,
      weekday_is one.0.0 x.0 (two.1 ∙ ap Some value),
    )

weekday_here : (name : List ℕ) (n : ℕ) (rest : List Token) → IsWeekday name n
    → weekday_first (word name ∷ rest) ≡ Some (n, rest)
unfolding weekday_first
weekday_here name n rest h = rw (word_first_here name rest, weekday_again name n h) refl

-- an atom was read: the tokens that it used
abbrev Used : (name : List ℕ) → List Token → Condition × List Token → Type 0
Used name ts x = (used : List Token) × (ts ≡ used ++ x.1) × IsAtom (word name ∷ used) x.0

position_is : (ts : List Token) (x : Condition × List Token) → numbered_first position ts ≡ Some x
    → Used (codes "position") ts x
unfolding numbered_first
position_is ts x e =
    let one = bind_some (number_first 1 9 ts) _ x e in
    let found = some_same (position one.0.0, one.0.1) x one.2 in
    let is = number_is 1 9 ts one.0 one.1 in
    subst (Used (codes "position") ts) found (figure is.0 ∷ [], is.1, (is.0, refl, is.2))

zone_is : (ts : List Token) (x : Condition × List Token) → numbered_first zone ts ≡ Some x → Used (codes "zone") ts x
unfolding numbered_first
zone_is ts x e =
    let one = bind_some (number_first 1 9 ts) _ x e in
    let found = some_same (zone one.0.0, one.0.1) x one.2 in
    let is = number_is 1 9 ts one.0 one.1 in
    subst (Used (codes "zone") ts) found (figure is.0 ∷ [], is.1, (is.0, refl, is.2))

time_is : (ts : List Token) (x : Condition × List Token) → time_first ts ≡ Some x → Used (codes "time") ts x
unfolding time_first
time_is ts x e =
    let one = bind_some (minute_first ts) _ x e in
    let two = bind_some (after_sign (codes "..") one.0.1) _ x one.2 in
    let three = bind_some (minute_first two.0) _ x two.2 in
    let found = some_same (time one.0.0 three.0.0, three.0.1) x three.2 in
    let a = minutes_are ts one.0 one.1 in
    let b = minutes_are two.0 three.0 three.1 in
    let dots = after_sign_is (codes "..") one.0.1 two.0 two.1 in
    let all : ts ≡ figure a.0 ∷ sign (codes "..") ∷ figure b.0 ∷ three.0.1 =
    a.1 ∙ ap (λ (r : List Token). figure a.0 ∷ r) (dots ∙ ap (λ (r : List Token). sign (codes "..") ∷ r) b.1) in
    subst (Used (codes "time") ts) found
    (figure a.0 ∷ sign (codes "..") ∷ figure b.0 ∷ [], all, (a.0, b.0, refl, a.2, b.2))

date_is : (ts : List Token) (x : Condition × List Token) → dates_first ts ≡ Some x → Used (codes "date") ts x
unfolding dates_first
date_is ts x e =
    let one = bind_some (date_first ts) _ x e in
    let two = bind_some (after_sign (codes "..") one.0.1) _ x one.2 in
    let three = bind_some (date_first two.0) _ x two.2 in
    let found = some_same (date one.0.0.0 one.0.0.1 three.0.0.0 three.0.0.1, three.0.1) x three.2 in
    let a = dates_are ts one.0 one.1 in
    let b = dates_are two.0 three.0 three.1 in
    let dots = after_sign_is (codes "..") one.0.1 two.0 two.1 in
    let all : ts ≡ figure a.0 ∷ sign (codes "..") ∷ figure b.0 ∷ three.0.1 =
    a.1 ∙ ap (λ (r : List Token). figure a.0 ∷ r) (dots ∙ ap (λ (r : List Token). sign (codes "..") ∷ r) b.1) in
    subst (Used (codes "date") ts) found
    (figure a.0 ∷ sign (codes "..") ∷ figure b.0 ∷ [], all, (a.0, b.0, refl, a.2, b.2))

until_is : (from : ℕ) (first : List ℕ) (ts : List Token) (more : Option (List Token)) (x : Condition × List Token)
    → IsWeekday first from → after_sign (codes "..") ts ≡ more → until_weekday from ts more ≡ Some x
    → Used (codes "day") (word first ∷ ts) x
until_is from first ts None x h dots e =
    let found = some_same (day from from, ts) x e in
    subst (Used (codes "day") (word first ∷ ts)) found
    (word first ∷ [], refl, (word first ∷ [], refl, inl (first, refl, h, refl)))
until_is from first ts (Some rest) x h dots e =
    let one = bind_some (weekday_first rest) _ x e in
    let found = some_same (day from one.0.0, one.0.1) x one.2 in
    let b = weekdays_are rest one.0 one.1 in
    let all : word first ∷ ts ≡ word first ∷ sign (codes "..") ∷ word b.0 ∷ one.0.1 = ap (λ (r : List Token).
    word first ∷ r) (after_sign_is (codes "..") ts rest dots ∙ ap (λ (r : List Token). sign (codes "..") ∷ r) b.1) in
    let days = word first ∷ sign (codes "..") ∷ word b.0 ∷ [] in
    subst (Used (codes "day") (word first ∷ ts)) found (days, all, (days, refl, inr (first, b.0, refl, h, b.2)))

days_are : (ts : List Token) (x : Condition × List Token) → days_first ts ≡ Some x → Used (codes "day") ts x
unfolding days_first
days_are ts x e =
    let one = bind_some (weekday_first ts) _ x e in
    let a = weekdays_are ts one.0 one.1 in
    let is = until_is one.0.0 a.0 one.0.1 (after_sign (codes "..") one.0.1) x a.2 refl one.2 in
    (is.0, a.1 ∙ is.1, is.2)

unit_is : (n : ℕ) (f : List ℕ) (ts : List Token) (more : Option (List Token)) (x : Condition × List Token) → IsAmount 1
    f n → after_word (codes "m") ts ≡ more → by_unit n ts more ≡ Some x → Used (codes "after") (figure f ∷ ts) x
unit_is n f ts (Some rest) x h unit e =
    let found = some_same (after_distance n, rest) x e in
    let all = ap (λ (r : List Token). figure f ∷ r) (after_word_is (codes "m") ts rest unit) in
    subst (Used (codes "after") (figure f ∷ ts)) found (figure f ∷ word (codes "m") ∷ [], all, (f, refl, h))
unit_is n f ts None x h unit e =
    let one = bind_some (after_word (codes "s") ts) _ x e in
    let found = some_same (after_time n, one.0) x one.2 in
    let all = ap (λ (r : List Token). figure f ∷ r) (after_word_is (codes "s") ts one.0 one.1) in
    subst (Used (codes "after") (figure f ∷ ts)) found (figure f ∷ word (codes "s") ∷ [], all, (f, refl, h))

after_is : (ts : List Token) (x : Condition × List Token) → after_first ts ≡ Some x → Used (codes "after") ts x
unfolding after_first
after_is ts x e =
    let one = bind_some (amount_first 1 ts) _ x e in
    let a = amounts_are 1 ts one.0 one.1 in
    let is = unit_is one.0.0 a.0 one.0.1 (after_word (codes "m") one.0.1) x a.2 refl one.2 in
    (is.0, a.1 ∙ is.1, is.2)

-- an atom that is read has the form of one
pub atom_is : (name : List ℕ) (ts : List Token) (x : Condition × List Token) → atom_named name ts ≡ Some x
    → (used : List Token) × (ts ≡ used ++ x.1) × IsAtom (word name ∷ used) x.0
unfolding atom_named
atom_is name ts x e =
    let P : List ℕ → Type 0 = λ w. Used w ts x in
    by_word P name (codes "position") _ _ x e (position_is ts x) (
    λ e. by_word P name (codes "zone") _ _ x e (zone_is ts x) (
    λ e. by_word P name (codes "time") _ _ x e (time_is ts x) (
    λ e. by_word P name (codes "day") _ _ x e (days_are ts x) (
    λ e. by_word P name (codes "date") _ _ x e (date_is ts x) (
    λ e. by_word P name (codes "holiday") _ _ x e
    (λ e. subst (Used (codes "holiday") ts) (some_same (holiday, ts) x e) ([], refl, refl)) (
    λ e. by_word P name (codes "after") _ _ x e (after_is ts x) (
    λ e. absurd (let none : None ≡ Some x = e in cc))))))))

days_again : (days : List Token) (from to : ℕ) (rest : List Token) → after_sign (codes "..") rest ≡ None
    → AreWeekdays days from to → days_first (days ++ rest) ≡ Some (day from to, rest)
unfolding days_first
days_again days from to rest stops (inl h) = rw (h.1, weekday_here h.0 from rest h.2, stops, h.3) refl
days_again days from to rest stops (inr h) =
    rw (
      h.2,
      weekday_here h.0 from (sign (codes "..") ∷ word h.1 ∷ rest) h.3,
      after_sign_here (codes "..") (word h.1 ∷ rest),
      weekday_here h.1 to rest h.4,
    ) refl

no_seconds : (rest : List Token) → after_word (codes "m") (word (codes "s") ∷ rest) ≡ None
unfolding after_word
no_seconds rest = refl

-- what has the form of an atom is read, if no `..` follows it
pub atom_again : (factors conditions : Reader) (ts : List Token) (c : Condition) (rest : List Token)
    → after_sign (codes "..") rest ≡ None → IsAtom ts c → factor_by factors conditions (ts ++ rest) ≡ Some (c, rest)
unfolding atom_named numbered_first time_first dates_first after_first
atom_again factors conditions ts (position n) rest stops h = rw (h.1, number_here 1 9 h.0 n rest h.2) refl
atom_again factors conditions ts (zone n) rest stops h = rw (h.1, number_here 1 9 h.0 n rest h.2) refl
atom_again factors conditions ts (time from to) rest stops h =
    rw (
      h.2,
      minute_here h.0 from (sign (codes "..") ∷ figure h.1 ∷ rest) h.3,
      after_sign_here (codes "..") (figure h.1 ∷ rest),
      minute_here h.1 to rest h.4,
    ) refl
atom_again factors conditions ts (day from to) rest stops h = rw (h.1, days_again h.0 from to rest stops h.2) refl
atom_again factors conditions ts (date from_month from_date to_month to_date) rest stops h =
    rw (
      h.2,
      date_here h.0 from_month from_date (sign (codes "..") ∷ figure h.1 ∷ rest) h.3,
      after_sign_here (codes "..") (figure h.1 ∷ rest),
      date_here h.1 to_month to_date rest h.4,
    ) refl
atom_again factors conditions ts holiday rest stops h = rw h refl
atom_again factors conditions ts (after_distance n) rest stops h =
    rw (h.1, amount_here 1 h.0 n (word (codes "m") ∷ rest) h.2, after_word_here (codes "m") rest) refl
atom_again factors conditions ts (after_time n) rest stops h =
    rw (h.1, amount_here 1 h.0 n (word (codes "s") ∷ rest) h.2, no_seconds rest, after_word_here (codes "s") rest) refl
atom_again factors conditions ts c rest stops h = absurd h

-- the name of a weekday doesn't count
pub day_light : (n : ℕ) → 1 ≤ n → n ≤ 7 → weight (word (day_name n) ∷ []) ≡ 0
day_light = each_day (λ (n : ℕ). weight (word (day_name n) ∷ []) ≡ 0) refl refl refl refl refl refl refl

weekday_light : (name : List ℕ) (n : ℕ) → IsWeekday name n → weight (word name ∷ []) ≡ 0
weekday_light name n h = rw h.2 (day_light n h.0 h.1)

weekdays_light : (ts : List Token) (from to : ℕ) → AreWeekdays ts from to → weight ts ≡ 0
weekdays_light ts from to (inl h) = rw h.1 (weekday_light h.0 from h.2)
weekdays_light ts from to (inr h) = rw h.2 (omega (arith, weekday_light h.0 from h.3, weekday_light h.1 to h.4))

-- an atom counts once
pub atom_weighs : (ts : List Token) (c : Condition) → IsAtom ts c → weight ts ≡ 1
atom_weighs ts (time from to) h = rw h.2 (omega arith)
atom_weighs ts (day from to) h = rw h.1 (omega (arith, weekdays_light h.0 from to h.2))
atom_weighs ts (date from_month from_date to_month to_date) h = rw h.2 (omega arith)
atom_weighs ts holiday h = rw h (omega arith)
atom_weighs ts (and left right) h = absurd h
atom_weighs ts (or left right) h = absurd h
atom_weighs ts (not inner) h = absurd h
atom_weighs ts c h = rw h.1 (omega arith)
