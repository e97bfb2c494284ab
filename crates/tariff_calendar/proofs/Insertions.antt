-- Numbers put into order one by one: which they are, and that they rise.
use Rattle.std.{specs.{BTreeSet.{insert_key}, List.{All, list_any}}, proofs.Common.{refl, subst, suc, sym, true, zero}}
use Rattle.{std.specs.Ordering.{nat_cmp}, tariff_check.specs.Cuts.{IsRising}, tariff_calendar.specs.Common.{with_each}}
use Rattle.std.proofs.Common.{[], ℕ, ◌+◌, ◌<◌, ◌||◌, ◌∙◌, ◌∷◌, ◌≡◌, ◌≤◌, Bool, List, ap, arith, false, inl, inr, length}
use Rattle.std.proofs.lemmas.{Bool.{cases_order, eq-eqb, le-ltb, lt-ltb, ne_eqb}, Map.Views.{All-insert_key}}
use Rattle.std.proofs.lemmas.List.Elements.{All-cons, All-from_get_or, All-head, All-nil, All-tail, All-weaker}

-- a number below the first goes before it
pub insert_key-before : (x n : ℕ) (xs : List ℕ) → n < x → insert_key nat_cmp (x ∷ xs) n ≡ n ∷ x ∷ xs
insert_key-before x n xs lt = rw (lt-ltb n x lt) refl

-- one that is the first is there already
pub insert_key-there : (x n : ℕ) (xs : List ℕ) → n ≡ x → insert_key nat_cmp (x ∷ xs) n ≡ x ∷ xs
insert_key-there x n xs same = rw (le-ltb n x (omega arith), eq-eqb n x same) refl

-- a greater one goes into the rest
pub insert_key-after : (x n : ℕ) (xs : List ℕ) → x < n → insert_key nat_cmp (x ∷ xs) n ≡ x ∷ insert_key nat_cmp xs n
insert_key-after x n xs gt = rw (le-ltb n x (omega arith), ne_eqb n x (λ e. omega arith)) refl

-- what holds of all numbers after a number was put in holds of it and of the others
pub All-from_insert_key : (P : ℕ → Type 0) (xs : List ℕ) (n : ℕ) → All P (insert_key nat_cmp xs n) → P n × All P xs
All-from_insert_key P [] n all = (All-head P n [] all, All-nil P)
All-from_insert_key P (x ∷ xs) n all =
    elim (cases_order n x) [
      | inl same ↦ let here = rw (insert_key-there x n xs same) at all in (rw same (All-head P x xs here), here)
      | inr (inl lt) ↦ let here = rw (insert_key-before x n xs lt) at all in
          (All-head P n (x ∷ xs) here, All-tail P n (x ∷ xs) here)
      | inr (inr gt) ↦
          let here = rw (insert_key-after x n xs gt) at all in
          let rest = All-from_insert_key P xs n (All-tail P x (insert_key nat_cmp xs n) here) in
          (rest.0, All-cons P x xs (All-head P x (insert_key nat_cmp xs n) here) rest.1)
    ]

-- and what holds of all after some were put in holds of each of those
pub All-from_with_each : (P : ℕ → Type 0) (xs ns : List ℕ) → All P (with_each xs ns) → All P xs × All P ns
All-from_with_each P xs [] all = (all, All-nil P)
All-from_with_each P xs (n ∷ ns) all =
    let rest = All-from_with_each P (insert_key nat_cmp xs n) ns all in
    let parts = All-from_insert_key P xs n rest.0 in
    (parts.1, All-cons P n ns parts.0 rest.1)

-- what holds of the numbers and of those that are put in holds of all of them
pub All-with_each : (P : ℕ → Type 0) (xs ns : List ℕ) → All P xs → All P ns → All P (with_each xs ns)
All-with_each P xs [] all more = all
All-with_each P xs (n ∷ ns) all more =
    All-with_each P (insert_key nat_cmp xs n) ns (All-insert_key nat_cmp n P xs all (All-head P n ns more))
    (All-tail P n ns more)

or_none : (a : Bool) → a ≡ (a || false)
or_none true = refl
or_none false = refl

or_twice : (a b c : Bool) → a ≡ b → (b || c) ≡ (a || (b || c))
or_twice true b c same = sym (ap (λ d. d || c) same)
or_twice false b c same = refl

or_turned : (a b c : Bool) → (a || (b || c)) ≡ (b || (a || c))
or_turned true true c = refl
or_turned true false c = refl
or_turned false b c = refl

or_moved : (a b c : Bool) → ((a || b) || c) ≡ (b || (a || c))
or_moved true true c = refl
or_moved true false c = refl
or_moved false b c = refl

-- a test is passed by one of the numbers after a number was put in if that number passes it or another does
pub list_any-insert_key : (p : ℕ → Bool) (xs : List ℕ) (n : ℕ)
    → list_any p (insert_key nat_cmp xs n) ≡ (p n || list_any p xs)
list_any-insert_key p [] n = refl
list_any-insert_key p (x ∷ xs) n =
    elim (cases_order n x) [
      | inl same ↦ ap (list_any p) (insert_key-there x n xs same) ∙ or_twice (p n) (p x) (list_any p xs) (ap p same)
      | inr (inl lt) ↦ ap (list_any p) (insert_key-before x n xs lt)
      | inr (inr gt) ↦
          ap (list_any p) (insert_key-after x n xs gt)
          ∙ ap (λ b. p x || b) (list_any-insert_key p xs n) ∙ or_turned (p x) (p n) (list_any p xs)
    ]

-- and after some were put in if one of those passes it or another does
pub list_any-with_each : (p : ℕ → Bool) (xs ns : List ℕ)
    → list_any p (with_each xs ns) ≡ (list_any p xs || list_any p ns)
list_any-with_each p xs [] = or_none (list_any p xs)
list_any-with_each p xs (n ∷ ns) =
    list_any-with_each p (insert_key nat_cmp xs n) ns
    ∙ ap (λ b. b || list_any p ns) (list_any-insert_key p xs n) ∙ or_moved (p n) (list_any p xs) (list_any p ns)

-- numbers rise if the first is below the others and those rise
pub IsRising-more : (x : ℕ) (xs : List ℕ) → All (λ y. x < y) xs → IsRising xs → IsRising (x ∷ xs)
IsRising-more x xs first rising zero zero lt within = absurd (omega arith)
IsRising-more x xs first rising zero (suc j) lt within = first j 0 (omega arith)
IsRising-more x xs first rising (suc i) zero lt within = absurd (omega arith)
IsRising-more x xs first rising (suc i) (suc j) lt within = rising i j (omega arith) (omega arith)

IsRising-rest : (x : ℕ) (xs : List ℕ) → IsRising (x ∷ xs) → IsRising xs
IsRising-rest x xs rising = λ i j lt within. rising (suc i) (suc j) (omega arith) (omega arith)

IsRising-first : (x : ℕ) (xs : List ℕ) → IsRising (x ∷ xs) → All (λ y. x < y) xs
IsRising-first x xs rising =
    All-from_get_or (λ y. x < y) xs 0 (λ i within. rising 0 (suc i) (omega arith) (omega arith))

IsRising-before : (x n : ℕ) (xs : List ℕ) → IsRising (x ∷ xs) → n < x → IsRising (n ∷ x ∷ xs)
IsRising-before x n xs rising lt =
    let rest = All-weaker (λ y. x < y) (λ y. n < y) (λ y more. omega arith) xs (IsRising-first x xs rising) in
    IsRising-more n (x ∷ xs) (All-cons (λ y. n < y) x xs lt rest) rising

-- rising numbers rise after a number was put in
pub IsRising-insert_key : (xs : List ℕ) (n : ℕ) → IsRising xs → IsRising (insert_key nat_cmp xs n)
IsRising-insert_key [] n rising = IsRising-more n [] (All-nil (λ y. n < y)) rising
IsRising-insert_key (x ∷ xs) n rising =
    elim (cases_order n x) [
      | inl same ↦ subst IsRising (sym (insert_key-there x n xs same)) rising
      | inr (inl lt) ↦ subst IsRising (sym (insert_key-before x n xs lt)) (IsRising-before x n xs rising lt)
      | inr (inr gt) ↦
          let first = All-insert_key nat_cmp n (λ y. x < y) xs (IsRising-first x xs rising) gt in
          let rest = IsRising-insert_key xs n (IsRising-rest x xs rising) in
          subst IsRising (sym (insert_key-after x n xs gt)) (IsRising-more x (insert_key nat_cmp xs n) first rest)
    ]

-- and after some were put in
pub IsRising-with_each : (xs ns : List ℕ) → IsRising xs → IsRising (with_each xs ns)
IsRising-with_each xs [] rising = rising
IsRising-with_each xs (n ∷ ns) rising =
    IsRising-with_each (insert_key nat_cmp xs n) ns (IsRising-insert_key xs n rising)

-- no numbers rise
pub IsRising-none : IsRising []
IsRising-none = λ i j lt within. absurd (omega arith)

-- some are there, as they are if some were before
insert_key-some : (xs : List ℕ) (n : ℕ) → 0 < length (insert_key nat_cmp xs n)
insert_key-some [] n = omega arith
insert_key-some (x ∷ xs) n =
    elim (cases_order n x) [
      | inl same ↦ rw (insert_key-there x n xs same) (omega arith)
      | inr (inl lt) ↦ rw (insert_key-before x n xs lt) (omega arith)
      | inr (inr gt) ↦ rw (insert_key-after x n xs gt) (omega arith)
    ]

pub with_each-some : (xs ns : List ℕ) → 0 < length xs → 0 < length (with_each xs ns)
with_each-some xs [] some = some
with_each-some xs (n ∷ ns) some = with_each-some (insert_key nat_cmp xs n) ns (insert_key-some xs n)

-- no more numbers are there than were and were put in
insert_key-length : (xs : List ℕ) (n : ℕ) → length (insert_key nat_cmp xs n) ≤ suc (length xs)
insert_key-length [] n = omega arith
insert_key-length (x ∷ xs) n =
    elim (cases_order n x) [
      | inl same ↦ rw (insert_key-there x n xs same) (omega arith)
      | inr (inl lt) ↦ rw (insert_key-before x n xs lt) (omega arith)
      | inr (inr gt) ↦ let rest = insert_key-length xs n in rw (insert_key-after x n xs gt) (omega arith)
    ]

pub length-with_each : (xs ns : List ℕ) → length (with_each xs ns) ≤ length xs + length ns
length-with_each xs [] = omega arith
length-with_each xs (n ∷ ns) = omega (arith, length-with_each (insert_key nat_cmp xs n) ns, insert_key-length xs n)
