-- The printed form of a condition shows it, with no more atoms, `not` and `(` than its line.
use Rattle.std.proofs.Common.{[], ℕ, ◌++◌, ◌+◌, ◌∷◌, ◌≤◌, List, append_assoc, arith, codes, refl, subst, sym}
use Rattle.tariff_syntax.specs.Common.{Condition, after_distance, after_time, date, day, holiday, position, time, zone}
use Rattle.tariff_syntax.specs.IsCondition.{atom, conjunction, disjunction, negation, one_factor, one_term, parentheses}
use Rattle.tariff_syntax.specs.{PrintedCondition.{Level, condition_at, factor, term, whole}, Token.{Token, sign, word}}
use Rattle.tariff_syntax.proofs.{ConditionAgain.{weight-append}, ShownConditions.{time_shown, zone_shown}}
use Rattle.tariff_syntax.proofs.ShownConditions.{AtomShown, Fits, Show, Shown, date_atom_shown, day_atom_shown}
use Rattle.tariff_syntax.proofs.ShownConditions.{distance_shown, holiday_shown, lift, position_shown, time_passed_shown}
use Rattle.tariff_syntax.proofs.Shows.{Shows, blank, close_sign, open_sign, shown_word}
use Rattle.tariff_tree.specs.Condition as tree

and_shown : (p q : Condition) (a b w : ℕ) → a + b ≤ w → Shown term p a → Shown factor q b → Shown term (tree.and p q) w
and_shown p q a b w few left right =
    let used = left.used ++ word (codes "and") ∷ right.used in
    record {
      used = used;
      is = conjunction left.used right.used p q left.is right.is;
      few = omega (arith, weight-append left.used (word (codes "and") ∷ right.used), left.few, right.few);
      show = λ more ts texts ready.
          let last = right.show more ts texts ready in
          let behind = condition_at factor q more in
          let joint = shown_word (codes "and") (32 ∷ behind) (right.used ++ ts) texts refl
          (blank behind (right.used ++ ts) texts last) in
          let first = left.show (codes " and " ++ behind) (word (codes "and") ∷ (right.used ++ ts)) texts
          (blank (codes "and " ++ behind) (word (codes "and") ∷ (right.used ++ ts)) texts joint) in
          subst (λ (us : List Token). Shows (condition_at term p (codes " and " ++ behind)) us texts)
          (sym (append_assoc left.used (word (codes "and") ∷ right.used) ts)) first;
    }

or_shown : (p q : Condition) (a b w : ℕ) → a + b ≤ w → Shown whole p a → Shown term q b → Shown whole (tree.or p q) w
or_shown p q a b w few left right =
    let used = left.used ++ word (codes "or") ∷ right.used in
    record {
      used = used;
      is = disjunction left.used right.used p q left.is right.is;
      few = omega (arith, weight-append left.used (word (codes "or") ∷ right.used), left.few, right.few);
      show = λ more ts texts ready.
          let last = right.show more ts texts ready in
          let behind = condition_at term q more in
          let joint = shown_word (codes "or") (32 ∷ behind) (right.used ++ ts) texts refl
          (blank behind (right.used ++ ts) texts last) in
          let first = left.show (codes " or " ++ behind) (word (codes "or") ∷ (right.used ++ ts)) texts
          (blank (codes "or " ++ behind) (word (codes "or") ∷ (right.used ++ ts)) texts joint) in
          subst (λ (us : List Token). Shows (condition_at whole p (codes " or " ++ behind)) us texts)
          (sym (append_assoc left.used (word (codes "or") ∷ right.used) ts)) first;
    }

not_shown : (p : Condition) (a w : ℕ) → a + 1 ≤ w → Shown factor p a → Shown factor (tree.not p) w
not_shown p a w few inner = record {
  used = word (codes "not") ∷ inner.used;
  is = negation inner.used p inner.is;
  few = omega (arith, inner.few);
  show = λ more ts texts ready.
      let behind = condition_at factor p more in
      shown_word (codes "not") (32 ∷ behind) (inner.used ++ ts) texts refl
      (blank behind (inner.used ++ ts) texts (inner.show more ts texts ready));
}

-- what a condition in parentheses shows
closed_shows : (c : Condition) (v : ℕ) (inner : Shown whole c v) → Show (λ rest.
    codes "(" ++ condition_at whole c (codes ")" ++ rest)) (sign (codes "(") ∷ (inner.used ++ sign (codes ")") ∷ []))
closed_shows c v inner more ts texts ready =
    let last = close_sign more ts texts ready.shows in
    let behind = condition_at whole c (codes ")" ++ more) in
    let middle = inner.show (codes ")" ++ more) (sign (codes ")") ∷ ts) texts last in
    let joined = subst (λ (us : List Token). Shows behind us texts)
    (sym (append_assoc inner.used (sign (codes ")") ∷ []) ts)) middle in
    (open_sign behind ((inner.used ++ sign (codes ")") ∷ []) ++ ts) texts joined).shows

closed : (c : Condition) (v w : ℕ) → v + 1 ≤ w → (inner : Shown whole c v)
    → Show (condition_at factor c) (sign (codes "(") ∷ (inner.used ++ sign (codes ")") ∷ [])) → Shown factor c w
closed c v w few inner show = record {
  used = sign (codes "(") ∷ (inner.used ++ sign (codes ")") ∷ []);
  is = parentheses inner.used c inner.is;
  few = omega (arith, weight-append inner.used (sign (codes ")") ∷ []), inner.few);
  show = show;
}

or_closed : (p q : Condition) (v w : ℕ) → v + 1 ≤ w → Shown whole (tree.or p q) v → Shown factor (tree.or p q) w
or_closed p q v w few inner = closed (tree.or p q) v w few inner (closed_shows (tree.or p q) v inner)

or_as_term : (p q : Condition) (w : ℕ) → Shown factor (tree.or p q) w → Shown term (tree.or p q) w
or_as_term p q w h = record { used = h.used; is = one_factor h.used (tree.or p q) h.is; few = h.few; show = h.show }

and_as_whole : (p q : Condition) (w : ℕ) → Shown term (tree.and p q) w → Shown whole (tree.and p q) w
and_as_whole p q w h = record { used = h.used; is = one_term h.used (tree.and p q) h.is; few = h.few; show = h.show }

not_lifted : (place : Level) (p : Condition) (w : ℕ) → Shown factor (tree.not p) w → Shown place (tree.not p) w
not_lifted place p w h = record { used = h.used; is = lift place h.used (tree.not p) h.is; few = h.few; show = h.show }

-- an atom is shown at each place
of_atom : (place : Level) (c : Condition) (w : ℕ) (a : AtomShown c) → 1 ≤ w → Show (condition_at place c) a.0
    → Shown place c w
of_atom place c w a some show =
    record { used = a.0; is = lift place a.0 c (atom a.0 c a.1); few = omega (arith, a.2, some); show = show }

-- a condition that fits is shown
pub shown : (place : Level) (c : Condition) (w : ℕ) → Fits place c w → Shown place c w
shown whole (tree.and p q) w h =
    and_as_whole p q w (and_shown p q h.0 h.1 w (omega (arith, h.4)) (shown term p h.0 h.2) (shown factor q h.1 h.3))
shown term (tree.and p q) w h =
    and_shown p q h.0 h.1 w (omega (arith, h.4)) (shown term p h.0 h.2) (shown factor q h.1 h.3)
shown factor (tree.and p q) w h =
    let inner = and_as_whole p q (h.0 + h.1)
    (and_shown p q h.0 h.1 (h.0 + h.1) (omega arith) (shown term p h.0 h.2) (shown factor q h.1 h.3)) in
    closed (tree.and p q) (h.0 + h.1) w (omega (arith, h.4)) inner (closed_shows (tree.and p q) (h.0 + h.1) inner)
shown whole (tree.or p q) w h =
    or_shown p q h.0 h.1 w (omega (arith, h.4)) (shown whole p h.0 h.2) (shown term q h.1 h.3)
shown term (tree.or p q) w h =
    or_as_term p q w (or_closed p q (h.0 + h.1) w (omega (arith, h.4))
    (or_shown p q h.0 h.1 (h.0 + h.1) (omega arith) (shown whole p h.0 h.2) (shown term q h.1 h.3)))
shown factor (tree.or p q) w h =
    or_closed p q (h.0 + h.1) w (omega (arith, h.4))
    (or_shown p q h.0 h.1 (h.0 + h.1) (omega arith) (shown whole p h.0 h.2) (shown term q h.1 h.3))
shown place (tree.not p) w h = not_lifted place p w (not_shown p h.0 w h.2 (shown factor p h.0 h.1))
shown place (position n) w h = let a = position_shown h.0.1.0 n h.0.1.2 in of_atom place (position n) w a h.1 a.3
shown place (zone n) w h = let a = zone_shown h.0.1.0 n h.0.1.2 in of_atom place (zone n) w a h.1 a.3
shown place (time from to) w h =
    let a = time_shown h.0.1.0 h.0.1.1 from to h.0.1.3 h.0.1.4 in of_atom place (time from to) w a h.1 a.3
shown place (day from to) w h =
    let a = day_atom_shown h.0.1.0 from to h.0.1.2 in of_atom place (day from to) w a h.1 a.3
shown place (date m n x y) w h =
    let a = date_atom_shown h.0.1.0 h.0.1.1 m n x y h.0.1.3 h.0.1.4 in of_atom place (date m n x y) w a h.1 a.3
shown place holiday w h = of_atom place holiday w holiday_shown h.1 holiday_shown.3
shown place (after_distance n) w h =
    let a = distance_shown h.0.1.0 n h.0.1.2 in of_atom place (after_distance n) w a h.1 a.3
shown place (after_time n) w h = let a = time_passed_shown h.0.1.0 n h.0.1.2 in of_atom place (after_time n) w a h.1 a.3
