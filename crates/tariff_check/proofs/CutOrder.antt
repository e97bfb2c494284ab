-- Cuts are in order, each once.
use Rattle.std.specs.{BTreeSet.{insert_key}, List.{Contains}, Ordering.{nat_cmp}}
use Rattle.std.proofs.Common.{[], ℕ, ◌<◌, ◌∷◌, ◌≡◌, ◌⊎◌, Equal, Greater, Less, List, arith, get_or, inl, inr, length}
use Rattle.std.proofs.{Common.{refl, subst, suc, sym, zero}, lemmas.Bool.{cases_lt, Decides.{nat_tests}}}
use Rattle.tariff_check.specs.{Common.{Dimension, Line}, Cuts.{IsInOrder, all_cuts, cuts_of, with_each}}

-- a number is among others
abbrev IsIn : ℕ → List ℕ → Type 0
IsIn n [] = ⊥
IsIn n (x ∷ xs) = (n ≡ x) ⊎ IsIn n xs

-- a number is below each of some
abbrev IsBelow : ℕ → List ℕ → Type 0
IsBelow n [] = Unit {0}
IsBelow n (x ∷ xs) = (n < x) × IsBelow n xs

-- each number is below those after it
abbrev Rises : List ℕ → Type 0
Rises [] = Unit {0}
Rises (x ∷ xs) = IsBelow x xs × Rises xs

-- how a number compares
less : (k x : ℕ) → k < x → nat_cmp k x ≡ Less
less k x h = grind (arith, nat_tests)

equal : (k x : ℕ) → k ≡ x → nat_cmp k x ≡ Equal
equal k x h = grind (arith, nat_tests)

more : (k x : ℕ) → x < k → nat_cmp k x ≡ Greater
more k x h = grind (arith, nat_tests)

-- where it is put
insert_less : (k x : ℕ) (xs : List ℕ) → k < x → insert_key nat_cmp (x ∷ xs) k ≡ k ∷ x ∷ xs
insert_less k x xs h = rw (less k x h) refl

insert_equal : (k x : ℕ) (xs : List ℕ) → k ≡ x → insert_key nat_cmp (x ∷ xs) k ≡ x ∷ xs
insert_equal k x xs h = rw (equal k x h) refl

insert_more : (k x : ℕ) (xs : List ℕ) → x < k → insert_key nat_cmp (x ∷ xs) k ≡ x ∷ insert_key nat_cmp xs k
insert_more k x xs h = rw (more k x h) refl

-- below, at or above
cases_three : (k x : ℕ) → (k < x) ⊎ ((k ≡ x) ⊎ (x < k))
cases_three k x =
    elim (cases_lt k x) [
      | inl lt ↦ inl lt
      | inr ge ↦ elim (cases_lt x k) [ inl gt ↦ inr (inr gt) | inr le ↦ inr (inl (omega arith)) ]
    ]

below_lower : (n x : ℕ) (xs : List ℕ) → n < x → IsBelow x xs → IsBelow n xs
below_lower n x [] h b = tt
below_lower n x (y ∷ ys) h b = (omega (arith, b.0), below_lower n x ys h b.1)

below_inserted : (n k : ℕ) (xs : List ℕ) → n < k → IsBelow n xs → IsBelow n (insert_key nat_cmp xs k)
below_inserted n k [] h b = (h, tt)
below_inserted n k (x ∷ xs) h b =
    elim (cases_three k x) [
      | inl lt ↦ subst (IsBelow n) (sym (insert_less k x xs lt)) (h, b)
      | inr (inl eq) ↦ subst (IsBelow n) (sym (insert_equal k x xs eq)) b
      | inr (inr gt) ↦ subst (IsBelow n) (sym (insert_more k x xs gt)) (b.0, below_inserted n k xs h b.1)
    ]

rises_inserted : (k : ℕ) (xs : List ℕ) → Rises xs → Rises (insert_key nat_cmp xs k)
rises_inserted k [] r = (tt, tt)
rises_inserted k (x ∷ xs) r =
    elim (cases_three k x) [
      | inl lt ↦ subst Rises (sym (insert_less k x xs lt)) ((lt, below_lower k x xs lt r.0), r)
      | inr (inl eq) ↦ subst Rises (sym (insert_equal k x xs eq)) r
      | inr (inr gt) ↦ subst Rises (sym (insert_more k x xs gt)) (below_inserted x k xs gt r.0, rises_inserted k xs r.1)
    ]

rises_each : (ks ns : List ℕ) → Rises ks → Rises (with_each ks ns)
rises_each ks [] r = r
rises_each ks (n ∷ ns) r = rises_each (insert_key nat_cmp ks n) ns (rises_inserted n ks r)

-- what was there stays, and what is put there is there
kept : (n k : ℕ) (xs : List ℕ) → IsIn n xs → IsIn n (insert_key nat_cmp xs k)
kept n k [] h = absurd h
kept n k (x ∷ xs) h =
    elim (cases_three k x) [
      | inl lt ↦ subst (IsIn n) (sym (insert_less k x xs lt)) (inr h)
      | inr (inl eq) ↦ subst (IsIn n) (sym (insert_equal k x xs eq)) h
      | inr (inr gt) ↦
          subst (IsIn n) (sym (insert_more k x xs gt)) (elim h [ inl e ↦ inl e | inr later ↦ inr (kept n k xs later) ])
    ]

added : (k : ℕ) (xs : List ℕ) → IsIn k (insert_key nat_cmp xs k)
added k [] = inl refl
added k (x ∷ xs) =
    elim (cases_three k x) [
      | inl lt ↦ subst (IsIn k) (sym (insert_less k x xs lt)) (inl refl)
      | inr (inl eq) ↦ subst (IsIn k) (sym (insert_equal k x xs eq)) (inl eq)
      | inr (inr gt) ↦ subst (IsIn k) (sym (insert_more k x xs gt)) (inr (added k xs))
    ]

only_later : (n k x : ℕ) (xs : List ℕ) → IsIn n (x ∷ insert_key nat_cmp xs k)
    → (IsIn n (insert_key nat_cmp xs k) → (n ≡ k) ⊎ IsIn n xs) → (n ≡ k) ⊎ IsIn n (x ∷ xs)
only_later n k x xs (inl e) below = inr (inl e)
only_later n k x xs (inr later) below = elim (below later) [ inl e ↦ inl e | inr there ↦ inr (inr there) ]

-- and nothing else is
only : (n k : ℕ) (xs : List ℕ) → IsIn n (insert_key nat_cmp xs k) → (n ≡ k) ⊎ IsIn n xs
only n k [] h = h
only n k (x ∷ xs) h =
    elim (cases_three k x) [
      | inl lt ↦ subst (IsIn n) (insert_less k x xs lt) h
      | inr (inl eq) ↦ inr (subst (IsIn n) (insert_equal k x xs eq) h)
      | inr (inr gt) ↦ only_later n k x xs (subst (IsIn n) (insert_more k x xs gt) h)
          (λ (later : IsIn n (insert_key nat_cmp xs k)). only n k xs later)
    ]

kept_each : (n : ℕ) (ks ns : List ℕ) → IsIn n ks → IsIn n (with_each ks ns)
kept_each n ks [] h = h
kept_each n ks (m ∷ ns) h = kept_each n (insert_key nat_cmp ks m) ns (kept n m ks h)

added_each : (n : ℕ) (ks ns : List ℕ) → IsIn n ns → IsIn n (with_each ks ns)
added_each n ks [] h = absurd h
added_each n ks (m ∷ ns) (inl e) =
    kept_each n (insert_key nat_cmp ks m) ns (subst (λ (k : ℕ). IsIn k (insert_key nat_cmp ks m)) (sym e) (added m ks))
added_each n ks (m ∷ ns) (inr h) = added_each n (insert_key nat_cmp ks m) ns h

only_each : (n : ℕ) (ks ns : List ℕ) → IsIn n (with_each ks ns) → IsIn n ns ⊎ IsIn n ks
only_each n ks [] h = inr h
only_each n ks (m ∷ ns) h =
    elim (only_each n (insert_key nat_cmp ks m) ns h) [
      | inl later ↦ inl (inr later)
      | inr here ↦ elim (only n m ks here) [ inl e ↦ inl (inl e) | inr there ↦ inr there ]
    ]

-- the same in the words of lists
in_contains : (n : ℕ) (xs : List ℕ) → IsIn n xs → Contains xs n
in_contains n [] h = absurd h
in_contains n (x ∷ xs) (inl e) = (0, omega arith, sym e)
in_contains n (x ∷ xs) (inr h) = let there = in_contains n xs h in (suc there.0, omega (arith, there.1), there.2)

at_in : (n k : ℕ) (xs : List ℕ) → k < length xs → get_or xs k n ≡ n → IsIn n xs
at_in n k [] h e = absurd (omega arith)
at_in n zero (x ∷ xs) h e = inl (sym e)
at_in n (suc k) (x ∷ xs) h e = inr (at_in n k xs (omega arith) e)

below_at : (x k : ℕ) (xs : List ℕ) → IsBelow x xs → k < length xs → x < get_or xs k 0
below_at x k [] b h = absurd (omega arith)
below_at x zero (y ∷ ys) b h = b.0
below_at x (suc k) (y ∷ ys) b h = below_at x k ys b.1 (omega arith)

rises_at : (xs : List ℕ) (i j : ℕ) → Rises xs → i < j → j < length xs → get_or xs i 0 < get_or xs j 0
rises_at [] i j r h l = absurd (omega arith)
rises_at (x ∷ xs) i zero r h l = absurd (omega arith)
rises_at (x ∷ xs) zero (suc j) r h l = below_at x j xs r.0 (omega arith)
rises_at (x ∷ xs) (suc i) (suc j) r h l = rises_at xs i j r.1 (omega arith) (omega arith)

none_there : (n : ℕ) (ns : List ℕ) → IsIn n ns ⊎ IsIn n [] → IsIn n ns
none_there n ns (inl h) = h
none_there n ns (inr h) = absurd h

-- numbers that are put among none are in order, each once
pub each_in_order : (ns : List ℕ) → IsInOrder ns (with_each [] ns)
each_in_order ns =
    record {
      rising = λ (i j : ℕ) (h : i < j) (l : j < length (with_each [] ns)). rises_at (with_each [] ns) i j
          (rises_each [] ns tt) h l;
      same = λ (n : ℕ). (
        (λ (c : Contains ns n). in_contains n (with_each [] ns) (added_each n [] ns (at_in n c.0 ns c.1 c.2))),
        (λ (c : Contains (with_each [] ns) n). in_contains n ns
            (none_there n ns (only_each n [] ns (at_in n c.0 (with_each [] ns) c.1 c.2)))),
      );
    }

-- cuts are in order, each once
pub cuts_in_order : (dimension : Dimension) (lines : List Line)
    → IsInOrder (all_cuts dimension lines) (cuts_of dimension lines)
cuts_in_order dimension lines = each_in_order (all_cuts dimension lines)
