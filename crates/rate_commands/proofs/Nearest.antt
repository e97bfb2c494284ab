-- The first of a range of numbers that passes a test, and the nearest constants.
use Rattle.std.{specs.{List.{range_with_len}, Option.{option_map}}, proofs.lemmas.Bool.{cases_lt}}
use Rattle.std.{specs.Prelude.{Bool, None, Option, Some, find}, proofs.Common.{refl, subst, suc, sym, true, zero}}
use Rattle.std.proofs.Common.{[], ℕ, ◌+◌, ◌-◌, ◌<◌, ◌∙◌, ◌∷◌, ◌≡◌, ◌≤◌, ◌⊎◌, List, ap, arith, false, inl, inr, map}

-- a number is the first from `a` on, of so many, that passes
pub record IsFirst (test : ℕ → Bool) (a n d : ℕ) : Type 0 where
  pub from : a ≤ d
  pub below : d < a + n
  pub passes : test d ≡ true
  pub first : (other : ℕ) → a ≤ other → other < d → test other ≡ true → ⊥

-- a test has one answer
not_both : (b : Bool) → b ≡ true → b ≡ false → ⊥
not_both b good bad = absurd cc

-- the first of a range is the number in front if that passes, and else the first of the others
found_front : (test : ℕ → Bool) (a n : ℕ) → test a ≡ true → find test (range_with_len a (suc n)) ≡ Some a
found_front test a n passes = rw passes refl

found_behind : (test : ℕ → Bool) (a n : ℕ) → test a ≡ false
    → find test (range_with_len a (suc n)) ≡ find test (range_with_len (a + 1) n)
found_behind test a n fails = rw fails refl

same_some : (x y : ℕ) → Some x ≡ Some y → x ≡ y
same_some x y e = cc

front_first : (test : ℕ → Bool) (a n d : ℕ) → test a ≡ true → a ≡ d → IsFirst test a (suc n) d
front_first test a n d passes is = record {
  from = omega (arith, is);
  below = omega (arith, is);
  passes = subst (λ (x : ℕ). test x ≡ true) is passes;
  first = λ other from less good. absurd (omega (arith, is));
}

behind_first : (test : ℕ → Bool) (a n d : ℕ) → test a ≡ false → IsFirst test (a + 1) n d → IsFirst test a (suc n) d
behind_first test a n d fails is = record {
  from = omega (arith, is.from);
  below = omega (arith, is.below);
  passes = is.passes;
  first = λ other from less good. by other from less good (cases_lt a other);
}
  where
    by : (other : ℕ) → a ≤ other → other < d → test other ≡ true → (a < other) ⊎ (other ≤ a) → ⊥
    by other from less good (inl later) = is.first other (omega arith) less good
    by other from less good (inr same) =
        let e : other ≡ a = omega arith in
        not_both (test a) (subst (λ (x : ℕ). test x ≡ true) e good) fails

-- the test of the number in front says where the first is
abbrev Finds : (test : ℕ → Bool) (a n d : ℕ) → Type 0
Finds test a n d = find test (range_with_len a n) ≡ Some d

first_by : (test : ℕ → Bool) (a n d : ℕ) (b : Bool) → test a ≡ b
    → (Finds test (a + 1) n d → IsFirst test (a + 1) n d) → Finds test a (suc n) d → IsFirst test a (suc n) d
first_by test a n d true passes behind e =
    front_first test a n d passes (same_some a d (sym (found_front test a n passes) ∙ e))
first_by test a n d false fails behind e =
    behind_first test a n d fails (behind (sym (found_behind test a n fails) ∙ e))

pub first_found : (test : ℕ → Bool) (a n d : ℕ) → Finds test a n d → IsFirst test a n d
first_found test a zero d e = absurd cc
first_found test a (suc n) d e = first_by test a n d (test a) refl (first_found test (a + 1) n d) e

-- the first behind the number in front
first_of_rest : (test : ℕ → Bool) (a n d : ℕ) → a < d → IsFirst test a (suc n) d → IsFirst test (a + 1) n d
first_of_rest test a n d later is = record {
  from = omega arith;
  below = omega (arith, is.below);
  passes = is.passes;
  first = λ other from less good. is.first other (omega arith) less good;
}

found_by : (test : ℕ → Bool) (a n d : ℕ) (b : Bool) → test a ≡ b → (a < d) ⊎ (d ≤ a)
    → (IsFirst test (a + 1) n d → Finds test (a + 1) n d) → IsFirst test a (suc n) d → Finds test a (suc n) d
found_by test a n d true passes (inl later) behind is = absurd (is.first a (omega arith) later passes)
found_by test a n d true passes (inr same) behind is =
    let e : a ≡ d = omega (arith, is.from) in
    found_front test a n passes ∙ ap (λ (x : ℕ). Some x) e
found_by test a n d false fails (inl later) behind is =
    found_behind test a n fails ∙ behind (first_of_rest test a n d later is)
found_by test a n d false fails (inr same) behind is =
    let e : d ≡ a = omega (arith, is.from) in
    absurd (not_both (test a) (subst (λ (x : ℕ). test x ≡ true) e is.passes) fails)

pub found_first : (test : ℕ → Bool) (a n d : ℕ) → IsFirst test a n d → Finds test a n d
found_first test a zero d is = absurd (omega (arith, is.from, is.below))
found_first test a (suc n) d is =
    found_by test a n d (test a) refl (cases_lt a d) (found_first test (a + 1) n d) is

-- if none is found, none passes
some_not_none : (x : ℕ) → Some x ≡ None → ⊥
some_not_none x e = absurd cc

abbrev FindsNone : (test : ℕ → Bool) (a n : ℕ) → Type 0
FindsNone test a n = find test (range_with_len a n) ≡ None

none_by : (test : ℕ → Bool) (a n other : ℕ) (b : Bool) → test a ≡ b → (a < other) ⊎ (other ≤ a)
    → (FindsNone test (a + 1) n → a + 1 ≤ other → other < a + 1 + n → ¬ (test other ≡ true))
    → FindsNone test a (suc n) → a ≤ other → other < a + suc n → ¬ (test other ≡ true)
none_by test a n other true passes place behind e from less = λ good.
    some_not_none a (sym (found_front test a n passes) ∙ e)
none_by test a n other false fails (inl later) behind e from less = λ good.
    behind (sym (found_behind test a n fails) ∙ e) (omega arith) (omega arith) good
none_by test a n other false fails (inr same) behind e from less = λ good.
    let here : other ≡ a = omega arith in
    not_both (test a) (subst (λ (x : ℕ). test x ≡ true) here good) fails

pub none_found : (test : ℕ → Bool) (a n other : ℕ) → FindsNone test a n → a ≤ other → other < a + n
    → ¬ (test other ≡ true)
none_found test a zero other e from less = absurd (omega arith)
none_found test a (suc n) other e from less =
    none_by test a n other (test a) refl (cases_lt a other) (none_found test (a + 1) n other) e from less

-- ---- numbers that are made of a range

abbrev MadeAlike : (test : ℕ → Bool) (at : ℕ → ℕ) (xs : List ℕ) → Type 0
MadeAlike test at xs = find test (map at xs) ≡ option_map at (find (λ (i : ℕ). test (at i)) xs)

made_by : (test : ℕ → Bool) (at : ℕ → ℕ) (x : ℕ) (xs : List ℕ) (b : Bool) → test (at x) ≡ b → MadeAlike test at xs
    → MadeAlike test at (x ∷ xs)
made_by test at x xs true passes behind = rw passes refl
made_by test at x xs false fails behind = rw fails behind

find_made : (test : ℕ → Bool) (at : ℕ → ℕ) (xs : List ℕ) → MadeAlike test at xs
find_made test at [] = refl
find_made test at (x ∷ xs) = made_by test at x xs (test (at x)) refl (find_made test at xs)

-- the place of what was found
record IsMadeOf (at : ℕ → ℕ) (found : Option ℕ) (d : ℕ) : Type 0 where
  place : ℕ
  there : found ≡ Some place
  is : at place ≡ d

made_of : (at : ℕ → ℕ) (found : Option ℕ) (d : ℕ) → option_map at found ≡ Some d → IsMadeOf at found d
made_of at None d e = absurd cc
made_of at (Some i) d e = record { place = i; there = refl; is = same_some (at i) d e }

none_made : (at : ℕ → ℕ) (found : Option ℕ) → option_map at found ≡ None → found ≡ None
none_made at None e = refl
none_made at (Some i) e = absurd cc

pub first_made : (test : ℕ → Bool) (at : ℕ → ℕ) (n d : ℕ) → find test (map at (range_with_len 0 n)) ≡ Some d
    → (i : ℕ) × IsFirst (λ (j : ℕ). test (at j)) 0 n i × (at i ≡ d)
first_made test at n d e =
    let m = made_of at (find (λ (i : ℕ). test (at i)) (range_with_len 0 n)) d
    (sym (find_made test at (range_with_len 0 n)) ∙ e) in
    (m.place, first_found (λ (j : ℕ). test (at j)) 0 n m.place m.there, m.is)

pub made_first : (test : ℕ → Bool) (at : ℕ → ℕ) (n i : ℕ) → IsFirst (λ (j : ℕ). test (at j)) 0 n i
    → find test (map at (range_with_len 0 n)) ≡ Some (at i)
made_first test at n i is =
    find_made test at (range_with_len 0 n)
    ∙ ap (option_map at) (found_first (λ (j : ℕ). test (at j)) 0 n i is)

pub none_of_made : (test : ℕ → Bool) (at : ℕ → ℕ) (n other : ℕ)
    → find test (map at (range_with_len 0 n)) ≡ None → other < n → ¬ (test (at other) ≡ true)
none_of_made test at n other e less =
    none_found (λ (j : ℕ). test (at j)) 0 n other
    (none_made at _ (sym (find_made test at (range_with_len 0 n)) ∙ e)) (omega arith) (omega arith)

-- ---- number after number

-- the number in front is found if it passes
pub here_made : (test : ℕ → Bool) (at : ℕ → ℕ) (a n : ℕ) (all : Option ℕ) → 0 < n → test (at a) ≡ true
    → find test (map at (range_with_len a n)) ≡ all → Some (at a) ≡ all
here_made test at a zero all some passes is = absurd (omega arith)
here_made test at a (suc n) all some passes is = sym (rw passes refl) ∙ is

-- and else those behind it are left
pub left_made : (test : ℕ → Bool) (at : ℕ → ℕ) (a n less : ℕ) (all : Option ℕ) → less + 1 ≡ n → test (at a) ≡ false
    → find test (map at (range_with_len a n)) ≡ all → find test (map at (range_with_len (a + 1) less)) ≡ all
left_made test at a zero less all one fails is = absurd (omega arith)
left_made test at a (suc n) less all one fails is =
    let same : less ≡ n = omega arith in
    let behind : find test (map at (range_with_len a (suc n))) ≡ find test (map at (range_with_len (a + 1) n)) =
    rw fails refl in
    subst (λ (m : ℕ). find test (map at (range_with_len (a + 1) m)) ≡ all) (sym same) (sym behind ∙ is)

-- with none left there is none
pub no_more_made : (test : ℕ → Bool) (at : ℕ → ℕ) (a n : ℕ) (all : Option ℕ) → n ≡ 0
    → find test (map at (range_with_len a n)) ≡ all → None ≡ all
no_more_made test at a n all none is =
    subst (λ (m : ℕ). find test (map at (range_with_len a m)) ≡ all) none is
