-- The printed form of a condition shows a condition.
use Rattle.{std.specs.Fmt.{decimal}, tariff_syntax.proofs.ShownFigures.{money_is_text, number_again, pair_figure}}
use Rattle.std.proofs.Common.{[], ℕ, ◌%◌, ◌++◌, ◌+◌, ◌/◌, ◌==◌, ◌^◌, ◌∷◌, ◌≡◌, ◌≤◌, Bool, List, append_assoc, arith}
use Rattle.std.proofs.{Common.{codes, cond, false, inl, inr, refl, subst, sym, true}, lemmas.Bool.{eqb-true}}
use Rattle.tariff_syntax.specs.Common.{Condition, after_distance, after_time, date, day, day_name, holiday, money_text}
use Rattle.tariff_syntax.{specs.Common.{padded_text, position, time, zone}, proofs.ConditionAgain.{weight-append}}
use Rattle.tariff_syntax.specs.{Forms.{AreWeekdays, IsAmount, IsAtom, IsDate, IsMinute, IsNumber}, Weight.{weight}}
use Rattle.tariff_syntax.specs.IsCondition.{IsCondition, atom, conjunction, disjunction, negation, one_factor, one_term}
use Rattle.tariff_syntax.specs.{IsCondition.{parentheses}, PrintedCondition.{minute_text, or_is_closed, term, whole}}
use Rattle.tariff_syntax.specs.PrintedCondition.{Level, and_is_closed, condition_at, date_text, days_text, factor}
use Rattle.tariff_syntax.{specs.Token.{Token, figure, sign, word}, proofs.AtomLaws.{atom_weighs, day_light, each_day}}
use Rattle.tariff_syntax.proofs.ShownFigures.{amount_again, amount_small, date_shown, decimal_text, minute_shown}
use Rattle.tariff_syntax.proofs.Shows.{IsFigureText, Ready, Shows, blank, dots, figure_shows, letters_test, shown_word}
use Rattle.tariff_tree.specs.Condition as tree

-- parentheses add one
abbrev pub extra : Bool → ℕ
extra true = 1
extra false = 0

-- printed at a place, a condition has no more atoms, `not` and `(` than a number
abbrev pub Fits : Level → Condition → ℕ → Type 0
Fits place (tree.and p q) w =
    (a : ℕ) × (b : ℕ) × Fits term p a × Fits factor q b × (a + b + extra (and_is_closed place) ≤ w)
Fits place (tree.or p q) w =
    (a : ℕ) × (b : ℕ) × Fits whole p a × Fits term q b × (a + b + extra (or_is_closed place) ≤ w)
Fits place (tree.not p) w = (a : ℕ) × Fits factor p a × (a + 1 ≤ w)
Fits place c w = ((ts : List Token) × IsAtom ts c) × (1 ≤ w)

atom_fits : (ts : List Token) (c : Condition) → IsAtom ts c → 1 ≤ weight ts → Fits factor c (weight ts)
atom_fits ts (tree.and p q) h some = absurd h
atom_fits ts (tree.or p q) h some = absurd h
atom_fits ts (tree.not p) h some = absurd h
atom_fits ts c h some = ((ts, h), some)

closes : (c : Condition) (v w : ℕ) → v + 1 ≤ w → Fits whole c v → Fits factor c w
closes (tree.and p q) v w more h = (h.0, h.1, h.2, h.3, omega (arith, h.4))
closes (tree.or p q) v w more h = (h.0, h.1, h.2, h.3, omega (arith, h.4))
closes (tree.not p) v w more h = (h.0, h.1, omega (arith, h.2))
closes c v w more h = (h.0, omega (arith, h.1))

as_term : (c : Condition) (w : ℕ) → Fits factor c w → Fits term c w
as_term (tree.and p q) w h = (h.0, h.1, h.2, h.3, omega (arith, h.4))
as_term c w h = h

as_whole : (c : Condition) (w : ℕ) → Fits term c w → Fits whole c w
as_whole (tree.or p q) w h = (h.0, h.1, h.2, h.3, omega (arith, h.4))
as_whole c w h = h

-- a condition has no more of them printed than in its line
pub fits : (place : Level) (ts : List Token) (c : Condition) → IsCondition place ts c → Fits place c (weight ts)
fits factor ts c (atom ts' c' h) = atom_fits ts' c' h (omega (arith, atom_weighs ts' c' h))
fits factor ts c (negation ts' c' h) = (weight ts', fits factor ts' c' h, omega arith)
fits factor ts c (parentheses ts' c' h) =
    closes c' (weight ts') _ (omega (arith, weight-append ts' (sign (codes ")") ∷ []))) (fits whole ts' c' h)
fits term ts c (one_factor ts' c' h) = as_term c' (weight ts') (fits factor ts' c' h)
fits term ts c (conjunction left right p q h g) = (
  weight left,
  weight right,
  fits term left p h,
  fits factor right q g,
  omega (arith, weight-append left (word (codes "and") ∷ right)),
)
fits whole ts c (one_term ts' c' h) = as_whole c' (weight ts') (fits term ts' c' h)
fits whole ts c (disjunction left right p q h g) = (
  weight left,
  weight right,
  fits whole left p h,
  fits term right q g,
  omega (arith, weight-append left (word (codes "or") ∷ right)),
)

-- what a printed text shows in front of the tokens of what follows it
abbrev pub Show : (List ℕ → List ℕ) → List Token → Type 0
Show text used = (more : List ℕ) (ts : List Token) (texts : List (List ℕ)) → Ready more ts texts
    → Shows (text more) (used ++ ts) texts

-- a condition is shown, printed at a place
pub record Shown (place : Level) (c : Condition) (w : ℕ) : Type 0 where
  pub used : List Token
  pub is : IsCondition place used c
  pub few : weight used ≤ w
  pub show : Show (condition_at place c) used

-- a factor stands at any place
pub lift : (place : Level) (ts : List Token) (c : Condition) → IsCondition factor ts c → IsCondition place ts c
lift factor ts c h = h
lift term ts c h = one_factor ts c h
lift whole ts c h = one_term ts c (one_factor ts c h)

day_letters : (n : ℕ) → 1 ≤ n → n ≤ 7 → letters_test (day_name n) ≡ true
day_letters = each_day (λ (n : ℕ). letters_test (day_name n) ≡ true) refl refl refl refl refl refl refl

days_range : (ts : List Token) (from to : ℕ) → AreWeekdays ts from to → (1 ≤ from) × (from ≤ 7) × (1 ≤ to) × (to ≤ 7)
days_range ts from to (inl h) = (h.2.0, h.2.1, omega (arith, h.2.0, h.3), omega (arith, h.2.1, h.3))
days_range ts from to (inr h) = (h.3.0, h.3.1, h.4.0, h.4.1)

-- the weekdays of a printed atom
abbrev DaysShown : (from to : ℕ) → Bool → Type 0
DaysShown from to same = (days : List Token) × AreWeekdays days from to × (weight days ≤ 0)
    × Show (λ rest. day_name from ++ cond same rest (codes ".." ++ (day_name to ++ rest))) days

days_by : (same : Bool) (from to : ℕ) → (from == to) ≡ same → 1 ≤ from → from ≤ 7 → 1 ≤ to → to ≤ 7
    → weight (word (day_name from) ∷ []) ≡ 0 → weight (word (day_name to) ∷ []) ≡ 0 → DaysShown from to same
days_by true from to e a b c d light lighter = (
  word (day_name from) ∷ [],
  inl (day_name from, refl, (a, b, refl), sym (eqb-true from to e)),
  omega (arith, light),
  λ more ts texts ready. shown_word (day_name from) more ts texts (day_letters from a b) ready,
)
days_by false from to e a b c d light lighter = (
  word (day_name from) ∷ sign (codes "..") ∷ word (day_name to) ∷ [],
  inr (day_name from, day_name to, refl, (a, b, refl), (c, d, refl)),
  omega (arith, light, lighter),
  λ more ts texts ready. shown_word (day_name from) (46 ∷ 46 ∷ (day_name to ++ more))
      (sign (codes "..") ∷ word (day_name to) ∷ ts) texts (day_letters from a b) (dots (day_name to ++ more)
      (word (day_name to) ∷ ts) texts (shown_word (day_name to) more ts texts (day_letters to c d) ready)),
)

-- an atom is shown
abbrev pub AtomShown : Condition → Type 0
AtomShown c = (used : List Token) × IsAtom used c × (weight used ≤ 1) × Show (condition_at factor c) used

pub position_shown : (f : List ℕ) (n : ℕ) → IsNumber 1 9 f n → AtomShown (position n)
position_shown f n h = (
  word (codes "position") ∷ figure (decimal n) ∷ [],
  (decimal n, refl, number_again 1 9 f n h),
  omega arith,
  λ more ts texts ready. shown_word (codes "position") (32 ∷ (decimal n ++ more)) (figure (decimal n) ∷ ts) texts refl
      (blank (decimal n ++ more) (figure (decimal n) ∷ ts) texts
      (figure_shows (decimal n) more ts texts (decimal_text n (omega (arith, h.below))) ready)),
)

pub zone_shown : (f : List ℕ) (n : ℕ) → IsNumber 1 9 f n → AtomShown (zone n)
zone_shown f n h = (
  word (codes "zone") ∷ figure (decimal n) ∷ [],
  (decimal n, refl, number_again 1 9 f n h),
  omega arith,
  λ more ts texts ready. shown_word (codes "zone") (32 ∷ (decimal n ++ more)) (figure (decimal n) ∷ ts) texts refl
      (blank (decimal n ++ more) (figure (decimal n) ∷ ts) texts
      (figure_shows (decimal n) more ts texts (decimal_text n (omega (arith, h.below))) ready)),
)

pair_shows : (c first second : ℕ) (more : List ℕ) (ts : List Token) (texts : List (List ℕ))
    → IsFigureText (pair_figure c first second) → Ready more ts texts → Shows
    (padded_text 2 first ++ (c ∷ (padded_text 2 second ++ more))) (figure (pair_figure c first second) ∷ ts) texts
pair_shows c first second more ts texts h ready =
    subst (λ (xs : List ℕ). Shows xs (figure (pair_figure c first second) ∷ ts) texts)
    (append_assoc (padded_text 2 first) (c ∷ padded_text 2 second) more)
    (figure_shows (pair_figure c first second) more ts texts h ready)

pub time_shown : (f g : List ℕ) (from to : ℕ) → IsMinute f from → IsMinute g to → AtomShown (time from to)
time_shown f g from to h k =
    let a = minute_shown f from h in
    let b = minute_shown g to k in
    let x = pair_figure 58 (from / 60) (from % 60) in
    let y = pair_figure 58 (to / 60) (to % 60) in (
      word (codes "time") ∷ figure x ∷ sign (codes "..") ∷ figure y ∷ [],
      (x, y, refl, a.1, b.1),
      omega arith,
      λ more ts texts ready.
          let last = pair_shows 58 (to / 60) (to % 60) more ts texts b.0 ready in
          let middle = dots (minute_text to more) (figure y ∷ ts) texts last in
          let first = pair_shows 58 (from / 60) (from % 60) (codes ".." ++ minute_text to more)
          (sign (codes "..") ∷ figure y ∷ ts) texts a.0 middle in
          shown_word (codes "time") (32 ∷ minute_text from (codes ".." ++ minute_text to more))
          (figure x ∷ sign (codes "..") ∷ figure y ∷ ts) texts refl (blank (minute_text from
          (codes ".." ++ minute_text to more)) (figure x ∷ sign (codes "..") ∷ figure y ∷ ts) texts first),
    )

pub date_atom_shown : (f g : List ℕ) (m n p q : ℕ) → IsDate f m n → IsDate g p q → AtomShown (date m n p q)
date_atom_shown f g m n p q h k =
    let a = date_shown f m n h in
    let b = date_shown g p q k in
    let x = pair_figure 45 m n in
    let y = pair_figure 45 p q in (
      word (codes "date") ∷ figure x ∷ sign (codes "..") ∷ figure y ∷ [],
      (x, y, refl, a.1, b.1),
      omega arith,
      λ more ts texts ready.
          let last = pair_shows 45 p q more ts texts b.0 ready in
          let middle = dots (date_text p q more) (figure y ∷ ts) texts last in
          let first =
          pair_shows 45 m n (codes ".." ++ date_text p q more) (sign (codes "..") ∷ figure y ∷ ts) texts a.0 middle in
          shown_word (codes "date") (32 ∷ date_text m n (codes ".." ++ date_text p q more))
          (figure x ∷ sign (codes "..") ∷ figure y ∷ ts) texts refl (blank (date_text m n
          (codes ".." ++ date_text p q more)) (figure x ∷ sign (codes "..") ∷ figure y ∷ ts) texts first),
    )

pub day_atom_shown : (days : List Token) (from to : ℕ) → AreWeekdays days from to → AtomShown (day from to)
day_atom_shown days from to h =
    let r = days_range days from to h in
    let d = days_by (from == to) from to refl r.0 r.1 r.2 r.3 (day_light from r.0 r.1) (day_light to r.2 r.3) in (
      word (codes "day") ∷ d.0,
      (d.0, refl, d.1),
      omega (arith, d.2),
      λ more ts texts ready. shown_word (codes "day") (32 ∷ days_text from to more) (d.0 ++ ts) texts refl
          (blank (days_text from to more) (d.0 ++ ts) texts (d.3 more ts texts ready)),
    )

after_text_shows : (unit : List ℕ) (n : ℕ) → letters_test unit ≡ true → n ≤ 10 ^ 12 → Show (λ rest. codes "after "
    ++ (money_text 1 n ++ (32 ∷ (unit ++ rest)))) (word (codes "after") ∷ figure (money_text 1 n) ∷ word unit ∷ [])
after_text_shows unit n letters small more ts texts ready =
    let x = money_text 1 n in
    let last = blank (unit ++ more) (word unit ∷ ts) texts (shown_word unit more ts texts letters ready) in
    let first = figure_shows x (32 ∷ (unit ++ more)) (word unit ∷ ts) texts (money_is_text 1 n small) last in
    shown_word (codes "after") (32 ∷ (x ++ (32 ∷ (unit ++ more)))) (figure x ∷ word unit ∷ ts) texts refl
    (blank (x ++ (32 ∷ (unit ++ more))) (figure x ∷ word unit ∷ ts) texts first)

pub distance_shown : (f : List ℕ) (n : ℕ) → IsAmount 1 f n → AtomShown (after_distance n)
distance_shown f n h =
    let small = amount_small 1 f n h in (
      word (codes "after") ∷ figure (money_text 1 n) ∷ word (codes "m") ∷ [],
      (money_text 1 n, refl, amount_again 1 n small),
      omega arith,
      after_text_shows (codes "m") n refl small,
    )

pub time_passed_shown : (f : List ℕ) (n : ℕ) → IsAmount 1 f n → AtomShown (after_time n)
time_passed_shown f n h =
    let small = amount_small 1 f n h in (
      word (codes "after") ∷ figure (money_text 1 n) ∷ word (codes "s") ∷ [],
      (money_text 1 n, refl, amount_again 1 n small),
      omega arith,
      after_text_shows (codes "s") n refl small,
    )

pub holiday_shown : AtomShown holiday
holiday_shown = (
  word (codes "holiday") ∷ [],
  refl,
  omega arith,
  λ more ts texts ready. shown_word (codes "holiday") more ts texts refl ready,
)
