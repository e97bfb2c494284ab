-- Entries in the order of their keys, with one more.
use Rattle.std.specs.{BTreeMap.{insert_entry, is_at}, Cmp.{IsTotalOrder}, List.{AllByRecursion}, Map.{keys_of, lookup}}
use Rattle.std.specs.{List.Sorted.{IsStrictlySortedBy}, declared.cmp.Ordering.TheVariants.{Equal, Greater, Less}}
use Rattle.std.specs.{Ordering.{is_eq, match_ordering, ordering_reverse}, declared.cmp.Ordering.{Ordering}}
use Rattle.std.proofs.Common.{[], ◌∙◌, ◌∷◌, ◌≡◌, Bool, List, None, Option, Some, ap, cond, false, refl, sym, true}
use Rattle.std.proofs.lemmas.{List.Elements.{All-from_recursion, recursion_from_All}, Map.Views.{All-keys-insert_entry}}

reverse_less : (r s : Ordering) → r ≡ ordering_reverse s → r ≡ Greater → s ≡ Less
reverse_less r Less e g = refl
reverse_less r Equal e g = absurd cc
reverse_less r Greater e g = absurd cc

is_equal : (r : Ordering) → is_eq r ≡ true → r ≡ Equal
is_equal Less e = absurd cc
is_equal Equal e = refl
is_equal Greater e = absurd cc

eq_of_reverse : (r s : Ordering) → r ≡ ordering_reverse s → is_eq r ≡ is_eq s
eq_of_reverse r Less e = ap is_eq e
eq_of_reverse r Equal e = ap is_eq e
eq_of_reverse r Greater e = ap is_eq e

-- no keys are in order
pub none_ordered : {K : Type 0} (R : K → K → Ordering) → IsStrictlySortedBy R []
unfolding IsStrictlySortedBy
none_ordered R = tt

module _ {K X : Type 0} {R : K → K → Ordering} (o : IsTotalOrder R) (k : K) (v : X) where
  below_all : (a b : K) (ks : List K) → R a b ≡ Less → AllByRecursion (λ y. R b y ≡ Less) ks
      → AllByRecursion (λ y. R a y ≡ Less) ks
  below_all a b [] less all = tt
  below_all a b (y ∷ ys) less all = (o.trans a b y less all.0, below_all a b ys less all.1)

  above_head : (a : K) (es : List (K × X)) → R a k ≡ Less → AllByRecursion (λ y. R a y ≡ Less) (keys_of es)
      → AllByRecursion (λ y. R a y ≡ Less) (keys_of (insert_entry R es k v))
  above_head a es less all = recursion_from_All (λ y. R a y ≡ Less) (keys_of (insert_entry R es k v))
      (All-keys-insert_entry R k v (λ y. R a y ≡ Less) es
      (All-from_recursion (λ y. R a y ≡ Less) (keys_of es) all) less)

  -- the keys stay in order
  pub insert_ordered : (es : List (K × X)) → IsStrictlySortedBy R (keys_of es)
      → IsStrictlySortedBy R (keys_of (insert_entry R es k v))
  unfolding IsStrictlySortedBy
  insert_ordered [] s = (tt, tt)
  insert_ordered (e ∷ es) s = by (R k e.0) refl (insert_ordered es s.1)
    where
      by : (r : Ordering) → R k e.0 ≡ r → IsStrictlySortedBy R (keys_of (insert_entry R es k v))
          → IsStrictlySortedBy R
          (keys_of (match_ordering r ((k, v) ∷ e ∷ es) ((e.0, v) ∷ es) (e ∷ insert_entry R es k v)))
      by Less is more = ((is, below_all k e.0 (keys_of es) is s.0), s)
      by Equal is more = s
      by Greater is more = (above_head e.0 es (reverse_less (R k e.0) (R e.0 k) (o.antisymm k e.0) is) s.0, more)

  -- the key itself is found, and what other keys find stays
  pub insert_found : (q : K) (es : List (K × X))
      → lookup (is_at (R q)) (insert_entry R es k v) ≡ cond (is_eq (R k q)) (Some v) (lookup (is_at (R q)) es)
  insert_found q [] = ap (λ (b : Bool). cond b (Some v) None) (eq_of_reverse (R q k) (R k q) (o.antisymm q k))
  insert_found q (e ∷ es) = by (R k e.0) refl (insert_found q es)
    where
      found : Option X
      found = lookup (is_at (R q)) es

      swapped : (a b : Bool) → (a ≡ true → b ≡ true → ⊥)
          → cond a (Some e.1) (cond b (Some v) found) ≡ cond b (Some v) (cond a (Some e.1) found)
      swapped true true never = absurd (never refl refl)
      swapped true false never = refl
      swapped false b never = refl

      covered : (a b : Bool) → a ≡ b → cond a (Some v) found ≡ cond b (Some v) (cond a (Some e.1) found)
      covered true true same = refl
      covered true false same = absurd cc
      covered false true same = absurd cc
      covered false false same = refl

      by : (r : Ordering) → R k e.0 ≡ r
          → lookup (is_at (R q)) (insert_entry R es k v) ≡ cond (is_eq (R k q)) (Some v) found
          → lookup (is_at (R q)) (match_ordering r ((k, v) ∷ e ∷ es) ((e.0, v) ∷ es) (e ∷ insert_entry R es k v))
          ≡ cond (is_eq (R k q)) (Some v) (cond (is_eq (R q e.0)) (Some e.1) found)
      by Less is more = ap (λ (b : Bool). cond b (Some v) (cond (is_eq (R q e.0)) (Some e.1) found))
          (eq_of_reverse (R q k) (R k q) (o.antisymm q k))
      by Equal is more =
          let same : is_eq (R q e.0) ≡ is_eq (R k q) =
          eq_of_reverse (R q e.0) (R e.0 q) (o.antisymm q e.0) ∙ sym (ap is_eq (o.congr k e.0 q is)) in
          covered (is_eq (R q e.0)) (is_eq (R k q)) same
      by Greater is more =
          ap (λ (f : Option X). cond (is_eq (R q e.0)) (Some e.1) f) more
          ∙ swapped (is_eq (R q e.0)) (is_eq (R k q)) (λ a b.
          let one : R k e.0 ≡ R q e.0 = o.congr k q e.0 (is_equal (R k q) b) in
          let two : R q e.0 ≡ Equal = is_equal (R q e.0) a in
          absurd cc)
