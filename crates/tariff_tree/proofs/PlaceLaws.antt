-- The place of the first element that passes a test.
use Rattle.std.{specs.List.{position_from, slice_get}, proofs.Common.{false, refl, subst, suc, take, true, zero}}
use Rattle.std.proofs.Common.{[], ℕ, ◌+◌, ◌↔◌, ◌∙◌, ◌∷◌, ◌≡◌, All, Bool, List, None, Option, Some, ap, arith, cond}
use Rattle.std.proofs.lemmas.List.Elements.{All-cons, All-head, All-nil, All-tail}
use Rattle.tariff_tree.specs.Meaning.{IsFirstPlace}

module _ {A : Type 0} (p : A → Bool) where
  abbrev Fails : A → Type 0
  Fails x = p x ≡ false

  -- the same, of places that are counted on from a number
  abbrev IsFirstFrom : (from : ℕ) → List A → Option ℕ → Type 0
  IsFirstFrom from xs None = All Fails xs
  IsFirstFrom from xs (Some n) =
      (i : ℕ) × (x : A) × (n ≡ from + i) × (slice_get xs i ≡ Some x) × (p x ≡ true) × All Fails (take i xs)

  found_by : (b : Bool) (from : ℕ) (x : A) (xs : List A) (o : Option ℕ) → p x ≡ b
      → cond b (Some from) (position_from p (from + 1) xs) ≡ o
      → (position_from p (from + 1) xs ≡ o → IsFirstFrom (from + 1) xs o) → IsFirstFrom from (x ∷ xs) o
  found_by true from x xs None e h rest = absurd cc
  found_by true from x xs (Some n) e h rest = let same : from ≡ n = cc in (zero, x, omega arith, refl, e, All-nil Fails)
  found_by false from x xs None e h rest = All-cons Fails x xs e (rest h)
  found_by false from x xs (Some n) e h rest =
      let r = rest h in
      (suc r.0, r.1, omega (arith, r.2), r.3, r.4, All-cons Fails x (take r.0 xs) e r.5)

  found : (from : ℕ) (xs : List A) (o : Option ℕ) → position_from p from xs ≡ o → IsFirstFrom from xs o
  found from [] None h = All-nil Fails
  found from [] (Some n) h = absurd cc
  found from (x ∷ xs) o h = found_by (p x) from x xs o refl h (found (from + 1) xs o)

  found_again : (from : ℕ) (xs : List A) (o : Option ℕ) → IsFirstFrom from xs o → position_from p from xs ≡ o
  found_again from [] None h = refl
  found_again from [] (Some n) h = absurd (let none = h.3 in cc)
  found_again from (x ∷ xs) None h = rw (All-head Fails x xs h) (found_again (from + 1) xs None (All-tail Fails x xs h))
  found_again from (x ∷ xs) (Some n) (zero, y, e, at, passes, before) =
      let same : x ≡ y = cc in
      let here : p x ≡ true = ap p same ∙ passes in
      let number : from ≡ n = omega arith in
      rw here (ap Some number)
  found_again from (x ∷ xs) (Some n) (suc i, y, e, at, passes, before) =
      rw (All-head Fails x (take i xs) before)
      (found_again (from + 1) xs (Some n) (i, y, omega arith, at, passes, All-tail Fails x (take i xs) before))

  from_none : (xs : List A) (o : Option ℕ) → IsFirstFrom 0 xs o → IsFirstPlace p xs o
  from_none xs None h = h
  from_none xs (Some n) h =
      let number : h.0 ≡ n = omega (arith, h.2) in
      subst (λ (i : ℕ). IsFirstPlace p xs (Some i)) number (h.1, h.3, h.4, h.5)

  none_from : (xs : List A) (o : Option ℕ) → IsFirstPlace p xs o → IsFirstFrom 0 xs o
  none_from xs None h = h
  none_from xs (Some n) h = (n, h.0, omega arith, h.1, h.2, h.3)

  pub first_place_is : (xs : List A) (o : Option ℕ) → (position_from p 0 xs ≡ o) ↔ IsFirstPlace p xs o
  first_place_is xs o = (λ e. from_none xs o (found 0 xs o e), λ h. found_again 0 xs o (none_from xs o h))
