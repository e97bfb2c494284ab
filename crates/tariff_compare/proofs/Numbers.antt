-- Numbers of the grid: which they are, that they rise, and the greatest that a value has reached.
use Rattle.std.specs.{BTreeSet.{insert_key}, List.{All, Contains, range_with_len}, Ordering.{nat_cmp}}
use Rattle.std.proofs.Common.{[], ℕ, ◌++◌, ◌+◌, ◌<◌, ◌∙◌, ◌∷◌, ◌≡◌, ◌≤◌, ◌⊎◌, Bool, List, ap, arith, cond, false}
use Rattle.std.proofs.Common.{get_or, inl, inr, leb, length, refl, subst, suc, sym, true, zero}
use Rattle.std.proofs.lemmas.{Bool.{cases_lt, le-leb, leb-true, lt-leb}, List.Elements.{All-from_get_or, All-get_or}}
use Rattle.std.proofs.lemmas.List.{FromFn.{get_or-range_with_len, length-range_with_len}, Sums.{sum_by-cons}}
use Rattle.tariff_check.{specs.Cuts.{IsRising}, proofs.Laws.{cuts_are_in_order-numbers}}
use Rattle.{tariff_calendar.proofs.Laws.{lists_are_ordered-few}, tariff_compare.specs.Common.{count_at_most, with_each}}
use Rattle.tariff_compare.specs.Grids.{listed, up_to}

-- ---- being among numbers

abbrev pub IsIn : {X : Type 0} → X → List X → Type 0
IsIn n [] = ⊥
IsIn n (x ∷ xs) = (n ≡ x) ⊎ IsIn n xs

contained : (n : ℕ) (xs : List ℕ) → IsIn n xs → Contains xs n
contained n [] h = absurd h
contained n (x ∷ xs) (inl e) = (0, omega arith, sym e)
contained n (x ∷ xs) (inr h) = let there = contained n xs h in (suc there.0, omega (arith, there.1), there.2)

in_at : (n k : ℕ) (xs : List ℕ) → k < length xs → get_or xs k n ≡ n → IsIn n xs
in_at n k [] h e = absurd (omega arith)
in_at n zero (x ∷ xs) h e = inl (sym e)
in_at n (suc k) (x ∷ xs) h e = inr (in_at n k xs (omega arith) e)

-- a number in a list has a place there, and at each place there is one
pub place_in : (n : ℕ) (xs : List ℕ) → IsIn n xs → (i : ℕ) × (i < length xs) × (get_or xs i 0 ≡ n)
place_in n [] h = absurd h
place_in n (x ∷ xs) (inl e) = (0, omega arith, sym e)
place_in n (x ∷ xs) (inr h) = let there = place_in n xs h in (suc there.0, omega (arith, there.1), there.2)

pub at_place : (xs : List ℕ) (i : ℕ) → i < length xs → IsIn (get_or xs i 0) xs
at_place [] i h = absurd (omega arith)
at_place (x ∷ xs) zero h = inl refl
at_place (x ∷ xs) (suc i) h = inr (at_place xs i (omega arith))

in_left : (n : ℕ) (xs ys : List ℕ) → IsIn n xs → IsIn n (xs ++ ys)
in_left n [] ys h = absurd h
in_left n (x ∷ xs) ys (inl e) = inl e
in_left n (x ∷ xs) ys (inr h) = inr (in_left n xs ys h)

in_right : (n : ℕ) (xs ys : List ℕ) → IsIn n ys → IsIn n (xs ++ ys)
in_right n [] ys h = h
in_right n (x ∷ xs) ys h = inr (in_right n xs ys h)

in_either : (n : ℕ) (xs ys : List ℕ) → IsIn n (xs ++ ys) → IsIn n xs ⊎ IsIn n ys
in_either n [] ys h = inr h
in_either n (x ∷ xs) ys (inl e) = inl (inl e)
in_either n (x ∷ xs) ys (inr h) = elim (in_either n xs ys h) [ inl l ↦ inl (inr l) | inr r ↦ inr r ]

-- of numbers that are at most another, those are kept
in_up_to : (n most : ℕ) (xs : List ℕ) → n ≤ most → IsIn n xs → IsIn n (up_to most xs)
in_up_to n most [] le h = absurd h
in_up_to n most (x ∷ xs) le (inl e) =
    let small : leb x most ≡ true = le-leb x most (omega (arith, e, le)) in
    rw small (inl e)
in_up_to n most (x ∷ xs) le (inr h) = by (leb x most) (in_up_to n most xs le h)
  where
    by : (b : Bool) → IsIn n (up_to most xs) → IsIn n (cond b (x ∷ up_to most xs) (up_to most xs))
    by true there = inr there
    by false there = there

up_to_le : (n most : ℕ) (xs : List ℕ) → IsIn n (up_to most xs) → n ≤ most
up_to_le n most [] h = absurd h
up_to_le n most (x ∷ xs) h = by (leb x most) refl h (λ there. up_to_le n most xs there)
  where
    by : (b : Bool) → leb x most ≡ b → IsIn n (cond b (x ∷ up_to most xs) (up_to most xs))
        → (IsIn n (up_to most xs) → n ≤ most) → n ≤ most
    by true is (inl e) later = omega (arith, e, leb-true x most is)
    by true is (inr there) later = later there
    by false is there later = later there

-- ---- the lists of the grid

each_append : (ks a b : List ℕ) → with_each (with_each ks a) b ≡ with_each ks (a ++ b)
each_append ks [] b = refl
each_append ks (x ∷ a) b = each_append (insert_key nat_cmp ks x) a b

-- all that is put into a list of the grid
abbrev pub all_of : (most : ℕ) (beginnings one other : List ℕ) → List ℕ
all_of most beginnings one other = (up_to most beginnings ++ up_to most one) ++ up_to most other

pub listed_is : (most : ℕ) (beginnings one other : List ℕ)
    → listed most beginnings one other ≡ with_each [] (all_of most beginnings one other)
listed_is most beginnings one other =
    ap (λ (ks : List ℕ). with_each ks (up_to most other)) (each_append [] (up_to most beginnings) (up_to most one))
    ∙ each_append [] (up_to most beginnings ++ up_to most one) (up_to most other)

pub in_listed : (n most : ℕ) (beginnings one other : List ℕ) → n ≤ most
    → (IsIn n beginnings ⊎ IsIn n one) ⊎ IsIn n other → IsIn n (listed most beginnings one other)
in_listed n most beginnings one other le h =
    let numbers = all_of most beginnings one other in
    let there : IsIn n numbers = elim h [
      | inl first ↦ in_left n (up_to most beginnings ++ up_to most one) (up_to most other) (elim first [
        | inl b ↦ in_left n (up_to most beginnings) (up_to most one) (in_up_to n most beginnings le b)
        | inr o ↦ in_right n (up_to most beginnings) (up_to most one) (in_up_to n most one le o)
      ])
      | inr o ↦ in_right n (up_to most beginnings ++ up_to most one) (up_to most other) (in_up_to n most other le o)
    ] in
    let c = ((cuts_are_in_order-numbers numbers).same n).0 (contained n numbers there) in
    subst (IsIn n) (sym (listed_is most beginnings one other)) (in_at n c.0 (with_each [] numbers) c.1 c.2)

listed_le : (n most : ℕ) (beginnings one other : List ℕ)
    → Contains (with_each [] (all_of most beginnings one other)) n → n ≤ most
listed_le n most beginnings one other c =
    let numbers = all_of most beginnings one other in
    let there = ((cuts_are_in_order-numbers numbers).same n).1 c in
    elim (in_either n (up_to most beginnings ++ up_to most one) (up_to most other)
    (in_at n there.0 numbers there.1 there.2)) [
      | inl first ↦ elim (in_either n (up_to most beginnings) (up_to most one) first) [
        | inl b ↦ up_to_le n most beginnings b
        | inr o ↦ up_to_le n most one o
      ]
      | inr o ↦ up_to_le n most other o
    ]

-- none is greater than the most
pub listed_most : (most : ℕ) (beginnings one other : List ℕ) → All (λ n. n ≤ most) (listed most beginnings one other)
listed_most most beginnings one other =
    let list = with_each [] (all_of most beginnings one other) in
    subst (All (λ n. n ≤ most)) (sym (listed_is most beginnings one other))
    (All-from_get_or (λ n. n ≤ most) list 0
    (λ i within. listed_le (get_or list i 0) most beginnings one other (i, within, same list i within)))
  where
    same : (xs : List ℕ) (i : ℕ) → i < length xs → get_or xs i (get_or xs i 0) ≡ get_or xs i 0
    same [] i h = absurd (omega arith)
    same (x ∷ xs) zero h = refl
    same (x ∷ xs) (suc i) h = same xs i (omega arith)

-- they rise
pub listed_rises : (most : ℕ) (beginnings one other : List ℕ) → IsRising (listed most beginnings one other)
listed_rises most beginnings one other =
    let numbers = all_of most beginnings one other in
    subst IsRising (sym (listed_is most beginnings one other)) (cuts_are_in_order-numbers numbers).rising

pub range_rises : (a n : ℕ) → IsRising (range_with_len a n)
range_rises a n = λ i j lt within.
    let last = length-range_with_len a n in
    omega (
      arith,
      get_or-range_with_len a n i 0 (omega (arith, lt, within, last)),
      get_or-range_with_len a n j 0 (omega (arith, within, last)),
    )

-- they are no more than were put in
up_to_few : (most : ℕ) (xs : List ℕ) → length (up_to most xs) ≤ length xs
up_to_few most [] = omega arith
up_to_few most (x ∷ xs) = by (leb x most) (up_to_few most xs)
  where
    by : (b : Bool) → length (up_to most xs) ≤ length xs
        → length (cond b (x ∷ up_to most xs) (up_to most xs)) ≤ length (x ∷ xs)
    by true few = omega (arith, few)
    by false few = omega (arith, few)

pub listed_few : (most : ℕ) (beginnings one other : List ℕ)
    → length (listed most beginnings one other) ≤ length beginnings + length one + length other
listed_few most beginnings one other =
    let first = with_each [] (up_to most beginnings) in
    let second = with_each first (up_to most one) in
    omega (
      arith,
      lists_are_ordered-few [] (up_to most beginnings),
      lists_are_ordered-few first (up_to most one),
      lists_are_ordered-few second (up_to most other),
      up_to_few most beginnings,
      up_to_few most one,
      up_to_few most other,
    )

pub range_within : (a n m : ℕ) → a ≤ m → m < a + n → IsIn m (range_with_len a n)
range_within a zero m from to = absurd (omega arith)
range_within a (suc n) m from to =
    elim (cases_lt a m) [
      | inl lt ↦ inr (range_within (a + 1) n m (omega arith) (omega arith))
      | inr ge ↦ inl (omega arith)
    ]

-- ---- the greatest number that a value has reached

-- a number is the greatest of some that is at most a value
pub record IsReached (v : ℕ) (xs : List ℕ) (w : ℕ) : Type 0 where
  pub there : IsIn w xs
  pub le : w ≤ v
  pub greatest : (x : ℕ) → IsIn x xs → x ≤ v → x ≤ w

reached_more : (v x : ℕ) (xs : List ℕ) (w : ℕ) → IsReached v xs w → (w : ℕ) × IsReached v (x ∷ xs) w
reached_more v x xs w is =
    elim (cases_lt v x) [
      | inl beyond ↦ (
        w,
        record {
          there = inr is.there;
          le = is.le;
          greatest =
              λ y there le. elim there [ inl e ↦ absurd (omega (arith, e, le)) | inr later ↦ is.greatest y later le ];
        },
      )
      | inr within ↦ elim (cases_lt w x) [
        | inl above ↦ (
          x,
          record {
            there = inl refl;
            le = within;
            greatest = λ y there le. elim there
                [ inl e ↦ omega (arith, e) | inr later ↦ omega (arith, is.greatest y later le) ];
          },
        )
        | inr under ↦ (
          w,
          record {
            there = inr is.there;
            le = is.le;
            greatest = λ y there le. elim there [ inl e ↦ omega (arith, e) | inr later ↦ is.greatest y later le ];
          },
        )
      ]
    ]

none_or_reached : (v : ℕ) (xs : List ℕ) → ((x : ℕ) → IsIn x xs → v < x) ⊎ ((w : ℕ) × IsReached v xs w)
none_or_reached v [] = inl (λ x there. absurd there)
none_or_reached v (x ∷ xs) =
    elim (none_or_reached v xs) [
      | inl none ↦ elim (cases_lt v x) [
        | inl beyond ↦ inl (λ y there. elim there [ inl e ↦ omega (arith, e) | inr later ↦ none y later ])
        | inr within ↦ inr (
          x,
          record {
            there = inl refl;
            le = within;
            greatest = λ y there le. elim there
                [ inl e ↦ omega (arith, e) | inr later ↦ absurd (omega (arith, none y later)) ];
          },
        )
      ]
      | inr some ↦ inr (reached_more v x xs some.0 some.1)
    ]

-- there is one if some number is at most the value
pub reached : (v first : ℕ) (xs : List ℕ) → IsIn first xs → first ≤ v → (w : ℕ) × IsReached v xs w
reached v first xs there le =
    elim (none_or_reached v xs) [ inl none ↦ absurd (omega (arith, none first there)) | inr some ↦ some ]

counted : (v x : ℕ) (xs : List ℕ) → x ≤ v → count_at_most v (x ∷ xs) ≡ suc (count_at_most v xs)
counted v x xs le = sum_by-cons (λ cut. cond (leb cut v) 1 0) x xs ∙ (rw (le-leb x v le) (omega arith))

passed : (v x : ℕ) (xs : List ℕ) → v < x → count_at_most v (x ∷ xs) ≡ count_at_most v xs
passed v x xs lt = sum_by-cons (λ cut. cond (leb cut v) 1 0) x xs ∙ (rw (lt-leb x v lt) (omega arith))

-- as many cuts are at most it as at most the value
pub count_same : (v w : ℕ) (xs : List ℕ) → w ≤ v → ((x : ℕ) → IsIn x xs → x ≤ v → x ≤ w)
    → count_at_most v xs ≡ count_at_most w xs
count_same v w [] le upper = refl
count_same v w (x ∷ xs) le upper =
    let rest = count_same v w xs le (λ y there. upper y (inr there)) in
    elim (cases_lt v x) [
      | inl beyond ↦ passed v x xs beyond ∙ (rest ∙ sym (passed w x xs (omega (arith, le, beyond))))
      | inr within ↦ counted v x xs within ∙ (ap suc rest ∙ sym (counted w x xs (upper x (inl refl) within)))
    ]

-- what holds of all of a list holds of a number that is in it
pub all_in : (P : ℕ → Type 0) (xs : List ℕ) → All P xs → (x : ℕ) → IsIn x xs → P x
all_in P xs all x there =
    let c = contained x xs there in
    subst P c.2 (All-get_or P xs c.0 x c.1 all)

pub in_all : (P : ℕ → Type 0) (xs : List ℕ) → ((x : ℕ) → IsIn x xs → P x) → All P xs
in_all P xs each = All-from_get_or P xs 0 (λ i within. each (get_or xs i 0) (at_place xs i within))

pub range_in : (a n m : ℕ) → IsIn m (range_with_len a n) → (a ≤ m) × (m < a + n)
range_in a zero m h = absurd h
range_in a (suc n) m (inl e) = (omega (arith, e), omega (arith, e))
range_in a (suc n) m (inr h) = let later = range_in (a + 1) n m h in (omega (arith, later.0), omega (arith, later.1))
