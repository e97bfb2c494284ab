-- What differs first between two tariffs.
use Rattle.std.{specs.Option.{option_or}, proofs.lemmas.Bool.{false≢true}}
use Rattle.std.proofs.Common.{ℕ, ◌∙◌, ◌≡◌, None, Option, Some, ap, is_some, option_map, refl, subst, sym, true}
use Rattle.tariff_compare.specs.{Common.{ChoiceKind, Difference, Differs, In, MeterContext, Tree}, Searches.{first_met}}
use Rattle.tariff_compare.specs.Contexts.{HasTables, IsFirst, IsFirstOrNone, IsMeterContext}
use Rattle.tariff_compare.specs.Differences.{context_difference, difference_of, frame_difference, part_in}
use Rattle.tariff_compare.specs.Same.{AreSame, DiffersFirst, HasSameFrame, difference_at}
use Rattle.tariff_compare.specs.Sides.{difference_by, is_met, side_of}
use Rattle.tariff_compare.proofs.{Bridge.{difference_is}, Frames.{frame_positions, frame_same, frame_zones, same_frame}}
use Rattle.tariff_compare.proofs.Firsts.{AreCompared, first_is_first, other_context}

some_none : {A : Type 0} {a : A} → Some a ≡ None → ⊥
some_none h = cc

none_some : {A : Type 0} {a : A} → None ≡ Some a → ⊥
none_some h = cc

not_true : (o : Option ChoiceKind) → (is_some o ≡ true → ⊥) → o ≡ None
not_true None h = refl
not_true (Some kind) h = absurd (h refl)

-- the parts of a chain of two
first_none : (a b : Option Difference) → option_or a b ≡ None → (a ≡ None) × (b ≡ None)
first_none None b h = (refl, h)
first_none (Some d) b h = absurd (some_none h)

compared : (t u : Tree) (k : ℕ) → HasTables t k → HasTables u k → frame_difference t u ≡ None → AreCompared t u k
compared t u k t_has u_has none =
    record { first = t_has; second = u_has; positions = frame_positions t u none; zones = frame_zones t u none }

-- if nothing was found, nothing differs
no_part : (t u : Tree) (k : ℕ) (r : Option MeterContext) → AreCompared t u k
    → IsFirstOrNone t (λ m. is_met t u k Differs m ≡ true) r → part_in (side_of t k) (side_of u k) r ≡ None
    → (m : MeterContext) → IsMeterContext t m → difference_at t u k m ≡ None
no_part t u k None are is none = λ m context. not_true (difference_at t u k m) (is m context)
no_part t u k (Some n) are is none =
    absurd (found (difference_by (side_of t k) (side_of u k) n) (ap is_some
    (difference_is t u k n are.first are.second is.context (other_context t u k n are is.context)) ∙ is.has) none)
  where
    found : (o : Option ChoiceKind) → is_some o ≡ true → option_map (λ (kind : ChoiceKind). In kind n) o ≡ None → ⊥
    found None some none = false≢true some
    found (Some kind) some none = some_none none

pub none_is_same : (t u : Tree) (k : ℕ) → HasTables t k → HasTables u k → difference_of t u k ≡ None → AreSame t u k
none_is_same t u k t_has u_has h =
    let parts = first_none (frame_difference t u) (context_difference (side_of t k) (side_of u k)) h in
    let are = compared t u k t_has u_has parts.0 in
    record {
      frame = frame_same t u t_has.writable u_has.writable parts.0;
      contexts = no_part t u k (first_met t u k Differs) are (first_is_first t u k Differs are) parts.1;
    }

part_none : (t u : Tree) (k : ℕ) (r : Option MeterContext) → AreSame t u k
    → IsFirstOrNone t (λ m. is_met t u k Differs m ≡ true) r → part_in (side_of t k) (side_of u k) r ≡ None
part_none t u k None same is = refl
part_none t u k (Some n) same is = absurd (false≢true (sym (ap is_some (same.contexts n is.context)) ∙ is.has))

pub same_is_none : (t u : Tree) (k : ℕ) → HasTables t k → HasTables u k → AreSame t u k → difference_of t u k ≡ None
same_is_none t u k t_has u_has same =
    let frame = same_frame t u same.frame in
    let are = compared t u k t_has u_has frame in
    ap (λ (d : Option Difference). option_or d (context_difference (side_of t k) (side_of u k))) frame
    ∙ part_none t u k (first_met t u k Differs) same (first_is_first t u k Differs are)

in_parts : (a b : ChoiceKind) (n m : MeterContext) → Some (In a n) ≡ Some (In b m) → (a ≡ b) × (n ≡ m)
in_parts a b n m h = (cc, cc)

part_first : (t u : Tree) (k : ℕ) (r : Option MeterContext) (kind : ChoiceKind) (m : MeterContext) → AreCompared t u k
    → HasSameFrame t u → IsFirstOrNone t (λ n. is_met t u k Differs n ≡ true) r
    → part_in (side_of t k) (side_of u k) r ≡ Some (In kind m) → DiffersFirst t u k kind m
part_first t u k None kind m are frame is h = absurd (none_some h)
part_first t u k (Some n) kind m are frame is h =
    by (difference_by (side_of t k) (side_of u k) n)
    (difference_is t u k n are.first are.second is.context (other_context t u k n are is.context)) h
  where
    by : (o : Option ChoiceKind) → o ≡ difference_at t u k n
        → option_map (λ (kind : ChoiceKind). In kind n) o ≡ Some (In kind m) → DiffersFirst t u k kind m
    by None same found = absurd (none_some found)
    by (Some own) same found =
        let parts = in_parts own kind n m found in
        record {
          frame = frame;
          there = subst (λ (x : MeterContext). difference_at t u k x ≡ Some kind) parts.1 (sym same ∙ ap Some parts.0);
          first = subst (IsFirst t (λ x. is_some (difference_at t u k x) ≡ true)) parts.1 is;
        }

pub in_is_first : (t u : Tree) (k : ℕ) (kind : ChoiceKind) (m : MeterContext) → HasTables t k → HasTables u k
    → HasSameFrame t u → difference_of t u k ≡ Some (In kind m) → DiffersFirst t u k kind m
in_is_first t u k kind m t_has u_has frame h =
    let none = same_frame t u frame in
    let are = compared t u k t_has u_has none in
    part_first t u k (first_met t u k Differs) kind m are frame (first_is_first t u k Differs are)
    (sym (ap (λ (d : Option Difference). option_or d (context_difference (side_of t k) (side_of u k))) none) ∙ h)
