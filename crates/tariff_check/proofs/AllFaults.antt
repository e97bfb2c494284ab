-- All faults of a tariff: the first of them is the one that is answered, and each that is there is named.
use Rattle.std.specs.{List.{Contains, list_any, slice_get, slice_index_or}, Prelude.{◌^◌, AllPairs, nat_lt, not}}
use Rattle.std.{specs.Option.{option_or}, proofs.lemmas.{Bool.{eqb-true}, List.Kept.{AllPairs-cons}}}
use Rattle.std.proofs.Common.{[], ℕ, ◌++◌, ◌+◌, ◌<◌, ◌==◌, ◌||◌, ◌↔◌, ◌∙◌, ◌∷◌, ◌≡◌, ◌≤◌, All, Bool, List, None, Option}
use Rattle.std.proofs.Common.{Some, ap, arith, false, length, refl, subst, suc, sym, true, zero}
use Rattle.std.proofs.{Math.Nat.{mul-zero, zero-div, zero-mul}, lemmas.List.Elements.{Contains-append_right}}
use Rattle.std.proofs.lemmas.List.Elements.{All-cons, All-head, All-nil, All-tail, All-weaker, Contains-append_left}
use Rattle.tariff_check.specs.AllFaults.{all_faults, or_others, row_of_fault, those_there}
use Rattle.tariff_check.specs.Common.{CheckFault, Entry, Line, Tree, rate}
use Rattle.tariff_check.specs.Faults.{HasNone, IsSound, fault_at, fault_if, fault_of, faults_before_cuts}
use Rattle.tariff_check.specs.Faults.{faults_from_cuts, faults_of, first_some}
use Rattle.tariff_check.specs.{Lines.{is_for_nothing}, Measure.{common_with, gcd_of, lcm_of, measure_of, measures_of}}
use Rattle.tariff_check.proofs.FaultStages.{none_if_sound, or_assoc, sound_if_none}

-- ---- the first of them

first_there : {A : Type 0} (xs : List (Option A)) → slice_get (those_there xs) 0 ≡ first_some xs
first_there [] = refl
first_there (None ∷ xs) = first_there xs
first_there (Some x ∷ xs) = refl

first_of_others : (faults others : List CheckFault)
    → slice_get (or_others faults others) 0 ≡ option_or (slice_get faults 0) (slice_get others 0)
first_of_others [] others = refl
first_of_others (fault ∷ faults) others = refl

first_joined : {A : Type 0} (xs ys : List (Option A))
    → first_some (xs ++ ys) ≡ option_or (first_some xs) (first_some ys)
first_joined [] ys = refl
first_joined (x ∷ xs) ys = ap (option_or x) (first_joined xs ys) ∙ sym (or_assoc x (first_some xs) (first_some ys))

pub first_named : (t : Tree) → slice_get (all_faults t.lines) 0 ≡ fault_of t
first_named t =
    let before = faults_before_cuts t.lines in
    let after = faults_from_cuts t.lines in
    first_of_others (those_there before) (those_there after)
    ∙ (ap (λ (o : Option CheckFault). option_or o (slice_get (those_there after) 0)) (first_there before)
    ∙ (ap (λ (o : Option CheckFault). option_or (first_some before) o) (first_there after)
    ∙ sym (first_joined before after)))

none_first : (faults : List CheckFault) → slice_get faults 0 ≡ None → faults ≡ []
none_first [] e = refl
none_first (fault ∷ faults) e = absurd cc

-- none is named exactly if the tariff is sound
pub none_named : (t : Tree) → (all_faults t.lines ≡ []) ↔ IsSound t
none_named t = (
  λ e. sound_if_none t (sym (first_named t) ∙ ap (λ (faults : List CheckFault). slice_get faults 0) e),
  λ sound. none_first (all_faults t.lines) (first_named t ∙ none_if_sound t sound),
)

-- ---- each of them is there

contains_behind : {A : Type 0} (x : A) (xs : List A) (y : A) → Contains xs y → Contains (x ∷ xs) y
contains_behind x xs y h = (suc h.0, omega (arith, h.1), h.2)

each_by : {A : Type 0} (x : Option A) (xs : List (Option A))
    → All (λ (y : A). Contains (x ∷ xs) (Some y)) (those_there xs)
    → All (λ (y : A). Contains (x ∷ xs) (Some y)) (those_there (x ∷ xs))
each_by None xs h = h
each_by (Some y) xs h =
    All-cons (λ (z : _). Contains (Some y ∷ xs) (Some z)) y (those_there xs) (0, omega arith, refl) h

each_there : {A : Type 0} (xs : List (Option A)) → All (λ (x : A). Contains xs (Some x)) (those_there xs)
each_there {A} [] = All-nil (λ (x : A). Contains [] (Some x))
each_there {A} (x ∷ xs) =
    each_by x xs (All-weaker (λ (y : A). Contains xs (Some y)) (λ (y : A). Contains (x ∷ xs) (Some y))
    (λ y h. contains_behind x xs (Some y) h) (those_there xs) (each_there xs))

abbrev IsThere : List (Option CheckFault) → CheckFault → Type 0
IsThere some fault = Contains some (Some fault)

others_by : (P : CheckFault → Type 0) (faults others : List CheckFault) → All P faults → All P others
    → All P (or_others faults others)
others_by P [] others here there = there
others_by P (fault ∷ faults) others here there = here

pub each_named_is_there : (ls : List Line) → All (λ (fault : CheckFault). Contains (faults_of ls) (Some fault))
    (all_faults ls)
each_named_is_there ls =
    let before = faults_before_cuts ls in
    let after = faults_from_cuts ls in
    others_by (IsThere (faults_of ls)) (those_there before) (those_there after)
    (All-weaker (IsThere before) (IsThere (faults_of ls))
    (λ fault h. Contains-append_left before after (Some fault) h) (those_there before) (each_there before))
    (All-weaker (IsThere after) (IsThere (faults_of ls))
    (λ fault h. Contains-append_right before after (Some fault) h) (those_there after) (each_there after))

-- ---- each that is there is named

found_by : {A : Type 0} (x : Option A) (xs : List (Option A)) (y : A) → x ≡ Some y
    → Contains (those_there (x ∷ xs)) y
found_by None xs y e = absurd cc
found_by (Some z) xs y e =
    let same : z ≡ y = cc in
    subst (λ (w : _). Contains (z ∷ those_there xs) w) same (0, omega arith, refl)

found_behind : {A : Type 0} (x : Option A) (xs : List (Option A)) (y : A) → Contains (those_there xs) y
    → Contains (those_there (x ∷ xs)) y
found_behind None xs y h = h
found_behind (Some z) xs y h = contains_behind z (those_there xs) y h

found_at : {A : Type 0} (xs : List (Option A)) (y : A) (k : ℕ) → k < length xs → slice_index_or xs k (Some y) ≡ Some y
    → Contains (those_there xs) y
found_at [] y k within e = absurd (omega arith)
found_at (x ∷ xs) y zero within e = found_by x xs y e
found_at (x ∷ xs) y (suc k) within e = found_behind x xs y (found_at xs y k (omega arith) e)

found_there : {A : Type 0} (xs : List (Option A)) (y : A) → Contains xs (Some y) → Contains (those_there xs) y
found_there xs y h = found_at xs y h.0 h.1 h.2

or_first : (faults others : List CheckFault) (fault : CheckFault) → Contains faults fault
    → Contains (or_others faults others) fault
or_first [] others fault h = absurd (omega (arith, h.1))
or_first (first ∷ faults) others fault h = h

pub each_before_cuts_is_named : (ls : List Line) (fault : CheckFault) → Contains (faults_before_cuts ls) (Some fault)
    → Contains (all_faults ls) fault
each_before_cuts_is_named ls fault h =
    or_first (those_there (faults_before_cuts ls)) (those_there (faults_from_cuts ls)) fault
    (found_there (faults_before_cuts ls) fault h)

none_there : {A : Type 0} (xs : List (Option A)) → All (λ (x : Option A). x ≡ None) xs → those_there xs ≡ []
none_there {A} [] h = refl
none_there {A} (x ∷ xs) h =
    rw (All-head (λ (y : Option A). y ≡ None) x xs h) (none_there xs (All-tail (λ (y : Option A). y ≡ None) x xs h))

pub each_of_cuts_is_named : (ls : List Line) (fault : CheckFault) → HasNone (faults_before_cuts ls)
    → Contains (faults_from_cuts ls) (Some fault) → Contains (all_faults ls) fault
each_of_cuts_is_named ls fault none h =
    subst (λ (faults : List CheckFault). Contains (or_others faults (those_there (faults_from_cuts ls))) fault)
    (sym (none_there (faults_before_cuts ls) none)) (found_there (faults_from_cuts ls) fault h)

-- ---- they are in the order of the table of faults, each kind once

-- a fault that may be there has a row of the table
abbrev HasRow : ℕ → Option CheckFault → Type 0
HasRow row None = Unit {0}
HasRow row (Some fault) = row_of_fault fault ≡ row

-- faults that are each there or not have the rows of the table one after the other
abbrev HaveRows : ℕ → List (Option CheckFault) → Type 0
HaveRows row [] = Unit {0}
HaveRows row (fault ∷ faults) = HasRow row fault × HaveRows (row + 1) faults

abbrev IsAbove : CheckFault → CheckFault → Type 0
IsAbove above below = row_of_fault above < row_of_fault below

abbrev IsFrom : ℕ → CheckFault → Type 0
IsFrom row fault = row ≤ row_of_fault fault

from_later : (row : ℕ) (faults : List CheckFault) → All (IsFrom (row + 1)) faults → All (IsFrom row) faults
from_later row faults later =
    All-weaker (IsFrom (row + 1)) (IsFrom row) (λ fault h. omega (arith, h)) faults later

rows_by : (row : ℕ) (x : Option CheckFault) (xs : List (Option CheckFault)) → HasRow row x
    → All (IsFrom (row + 1)) (those_there xs) × AllPairs IsAbove (those_there xs)
    → All (IsFrom row) (those_there (x ∷ xs)) × AllPairs IsAbove (those_there (x ∷ xs))
rows_by row None xs has rest = (from_later row (those_there xs) rest.0, rest.1)
rows_by row (Some fault) xs has rest = (
  All-cons (IsFrom row) fault (those_there xs) (omega (arith, has)) (from_later row (those_there xs) rest.0),
  AllPairs-cons IsAbove fault (those_there xs) (All-weaker (IsFrom (row + 1)) (IsAbove fault)
      (λ later h. omega (arith, h, has)) (those_there xs) rest.0) rest.1,
)

by_rows : (row : ℕ) (xs : List (Option CheckFault)) → HaveRows row xs
    → All (IsFrom row) (those_there xs) × AllPairs IsAbove (those_there xs)
by_rows row [] have = (All-nil (IsFrom row), λ i j d lt within. absurd (omega (arith, within)))
by_rows row (x ∷ xs) have = rows_by row x xs have.0 (by_rows (row + 1) xs have.1)

row_if : (row : ℕ) (there : Bool) (fault : CheckFault) → row_of_fault fault ≡ row → HasRow row (fault_if there fault)
row_if row true fault is = is
row_if row false fault is = tt

row_at : (row : ℕ) (fault : ℕ → CheckFault) (line : Option ℕ) → ((number : ℕ) → row_of_fault (fault number) ≡ row)
    → HasRow row (fault_at fault line)
row_at row fault None is = tt
row_at row fault (Some number) is = is number

rows_before : (ls : List Line) → HaveRows 0 (faults_before_cuts ls)
rows_before ls = (
  row_if 0 _ _ refl,
  (
    row_if 1 _ _ refl,
    (
      row_at 2 _ _ (λ n. refl),
      (
        row_at 3 _ _ (λ n. refl),
        (
          row_at 4 _ _ (λ n. refl),
          (
            row_if 5 _ _ refl,
            (
              row_if 6 _ _ refl,
              (
                row_at 7 _ _ (λ n. refl),
                (
                  row_at 8 _ _ (λ n. refl),
                  (
                    row_at 9 _ _ (λ n. refl),
                    (
                      row_at 10 _ _ (λ n. refl),
                      (row_if 11 _ _ refl, tt),
                    ),
                  ),
                ),
              ),
            ),
          ),
        ),
      ),
    ),
  ),
)

rows_from : (ls : List Line) → HaveRows 12 (faults_from_cuts ls)
rows_from ls = (
  row_if 12 _ _ refl,
  (
    row_if 13 _ _ refl,
    (
      row_if 14 _ _ refl,
      (
        row_if 15 _ _ refl,
        (row_if 16 _ _ refl, tt),
      ),
    ),
  ),
)

others_in_order : (faults others : List CheckFault) → AllPairs IsAbove faults → AllPairs IsAbove others
    → AllPairs IsAbove (or_others faults others)
others_in_order [] others first second = second
others_in_order (fault ∷ faults) others first second = first

pub named_in_order : (ls : List Line)
    → AllPairs (λ (above below : CheckFault). row_of_fault above < row_of_fault below) (all_faults ls)
named_in_order ls =
    others_in_order (those_there (faults_before_cuts ls)) (those_there (faults_from_cuts ls))
    (by_rows 0 (faults_before_cuts ls) (rows_before ls)).1 (by_rows 12 (faults_from_cuts ls) (rows_from ls)).1

-- ---- the common measure is 0 if a measure is

zero_first : (n : ℕ) → lcm_of 0 n ≡ 0
zero_first n = rw (zero-div (gcd_of 0 n)) (zero-mul n)

zero_second : (n : ℕ) → lcm_of n 0 ≡ 0
zero_second n = mul-zero _

zero_on : (ns : List ℕ) → common_with 0 ns ≡ 0
zero_on [] = refl
zero_on (n ∷ ns) = rw (zero_first n) (zero_on ns)

zero_at : (first : ℕ) (ns : List ℕ) (k : ℕ) → k < length ns → slice_index_or ns k 0 ≡ 0 → common_with first ns ≡ 0
zero_at first [] k within e = absurd (omega arith)
zero_at first (n ∷ ns) zero within e = rw (e, zero_second first) (zero_on ns)
zero_at first (n ∷ ns) (suc k) within e = zero_at (lcm_of first n) ns k (omega arith) e

pub zero_measure : (ls : List Line) → Contains (measures_of ls) 0 → measure_of ls ≡ 0
zero_measure ls h = zero_at 1 (measures_of ls) h.0 h.1 h.2

-- so it is if a rate has a measure of 0
two_behind : (b e : ℕ) (ns : List ℕ) (n : ℕ) → Contains ns n → Contains (b ∷ e ∷ ns) n
two_behind b e ns n h = contains_behind b (e ∷ ns) n (contains_behind e ns n h)

zero_of_two : (b e : ℕ) (ns : List ℕ) (first second : Bool) → (b == 0) ≡ first → (e == 0) ≡ second
    → (first || second) ≡ true → Contains (b ∷ e ∷ ns) 0
zero_of_two b e ns true second f s h = (0, omega arith, eqb-true b 0 f)
zero_of_two b e ns false true f s h = (1, omega arith, eqb-true e 0 s)
zero_of_two b e ns false false f s h = absurd cc

nothing_by : (number : ℕ) (x : Entry) (ls : List Line) (here : Bool) → is_for_nothing x ≡ here
    → (here || list_any (λ (l : Line). is_for_nothing l.entry) ls) ≡ true
    → (list_any (λ (l : Line). is_for_nothing l.entry) ls ≡ true → Contains (measures_of ls) 0)
    → Contains (measures_of (record { line = number; entry = x } ∷ ls)) 0
nothing_by number (rate a b c e when) ls true is h rest =
    zero_of_two b e (measures_of ls) (b == 0) (e == 0) refl refl is
nothing_by number (rate a b c e when) ls false is h rest = two_behind b e (measures_of ls) 0 (rest h)
nothing_by number x ls true is h rest = absurd cc
nothing_by number x ls false is h rest = rest h

nothing_is_zero : (ls : List Line) → list_any (λ (l : Line). is_for_nothing l.entry) ls ≡ true
    → Contains (measures_of ls) 0
nothing_is_zero [] h = absurd cc
nothing_is_zero (l ∷ ls) h = nothing_by l.line l.entry ls (is_for_nothing l.entry) refl h (nothing_is_zero ls)

pub nothing_measured : (ls : List Line) → list_any (λ (l : Line). is_for_nothing l.entry) ls ≡ true
    → measure_of ls ≡ 0
nothing_measured ls h = zero_measure ls (nothing_is_zero ls h)

-- so that it isn't too great there
pub not_great : (ls : List Line) (any : Bool) → any ≡ list_any (λ (l : Line). is_for_nothing l.entry) ls
    → any ≡ true → not any ≡ nat_lt (10 ^ 18) (measure_of ls)
not_great ls any e h = rw (h, nothing_measured ls (sym e ∙ h)) refl

-- and no rate has a measure of 0 if none does
measured_by : (l : Line) (ls : List Line) (here : Bool) → is_for_nothing l.entry ≡ here
    → (here || list_any (λ (m : Line). is_for_nothing m.entry) ls) ≡ false
    → (list_any (λ (m : Line). is_for_nothing m.entry) ls ≡ false
    → All (λ (m : Line). is_for_nothing m.entry ≡ false) ls)
    → All (λ (m : Line). is_for_nothing m.entry ≡ false) (l ∷ ls)
measured_by l ls true is h rest = absurd cc
measured_by l ls false is h rest = All-cons (λ (m : Line). is_for_nothing m.entry ≡ false) l ls is (rest h)

pub all_measured : (ls : List Line) → list_any (λ (l : Line). is_for_nothing l.entry) ls ≡ false
    → All (λ (l : Line). is_for_nothing l.entry ≡ false) ls
all_measured [] h = All-nil (λ (l : Line). is_for_nothing l.entry ≡ false)
all_measured (l ∷ ls) h = measured_by l ls (is_for_nothing l.entry) refl h (all_measured ls)

-- ---- the list that is made of those before the cuts

some_first : (faults others : List CheckFault) → (length faults == 0) ≡ false → or_others faults others ≡ faults
some_first [] others some = absurd cc
some_first (fault ∷ faults) others some = refl

pub all_before : (ls : List Line) (faults : List CheckFault) (len : ℕ) → len ≡ length faults
    → faults ≡ those_there (faults_before_cuts ls) → (len == 0) ≡ false → faults ≡ all_faults ls
all_before ls faults len is made some =
    let more : (length (those_there (faults_before_cuts ls)) == 0) ≡ false = rw (← made, ← is) some in
    made ∙ sym (some_first (those_there (faults_before_cuts ls)) (those_there (faults_from_cuts ls)) more)
