-- The drivers' sums grow by one shift after the other.
use Rattle.std.{specs.{BTreeMap.{insert_entry, is_at}, List.{list_any, sum_by}}, proofs.lemmas.List.Sums.{sum_by-cons}}
use Rattle.std.specs.{Cmp.{IsTotalOrder, on_total}, Map.{lookup, values_of}, Prelude.{is_some, unwrap_or}}
use Rattle.{std.specs.{Option.{option_map}, Ordering.{is_eq}}, shift_book.specs.{MarkOrder.{Fit}, Shares.{sum_for}}}
use Rattle.std.proofs.Common.{[], ℕ, ◌+◌, ◌||◌, ◌∙◌, ◌∷◌, ◌≡◌, ◌≤◌, Bool, List, None, Option, Some, ap, arith, cond}
use Rattle.std.proofs.{Common.{false, refl, subst, sym, true}, lemmas.Map.Entries.{sum_by-insert_entry}}
use Rattle.std.proofs.lemmas.{Cmp.{nat_list_cmp_total}, Map.Text.{is_eq-slice_cmp}, Slice.Eq.{bytes_eq-Decides}}
use Rattle.shift_book.{specs.Common.{Numbers, Shift}, proofs.GrowthSums.{at-nothing, at-plus, at-total, fit_under}}
use Rattle.shift_book.specs.ShareStages.{sum_so_far, total_of}
use Rattle.shift_book.specs.Shares.{AreOrdered, AreSums, Column, Driver, at, driver_cmp, gives, is_of, nothing, plus}

-- the sums of the shifts that are passed if these are left of all
pub record SoFar (sums : List (Driver × Numbers)) (left all : List Shift) : Type 0 where
  pub drivers : (d : Driver)
      → (is_some (lookup (is_at (driver_cmp d)) sums) || list_any (is_of d) left) ≡ list_any (is_of d) all
  pub each : (d : Driver) (c : Column) → sum_for d c sums + sum_by (gives d c) left ≡ sum_by (gives d c) all
  pub total : (c : Column)
      → sum_by (λ n. at c n) (values_of sums) + sum_by (λ s. at c s.growth) left ≡ sum_by (λ s. at c s.growth) all

pub driver_total : IsTotalOrder driver_cmp
driver_total = on_total (λ (d : Driver). d.items) nat_list_cmp_total

pub none_yet : (sums : List (Driver × Numbers)) (all : List Shift) → sums ≡ [] → SoFar sums all all
none_yet sums all e =
    subst (λ (l : List (Driver × Numbers)). SoFar l all all) (sym e)
    (record { drivers = λ d. refl; each = λ d c. omega arith; total = λ c. omega arith })

or_false : (b : Bool) → (b || false) ≡ b
or_false true = refl
or_false false = refl

or_true : (b : Bool) → (b || true) ≡ true
or_true true = refl
or_true false = refl

pub none_left : (sums : List (Driver × Numbers)) (all : List Shift) → SoFar sums [] all → AreSums sums all
none_left sums all h =
    record {
      drivers = λ d. sym (or_false (is_some (lookup (is_at (driver_cmp d)) sums))) ∙ h.drivers d;
      each = λ d c. omega (arith, h.each d c);
      all = λ c. omega (arith, h.total c);
    }

same_driver : (a b : Driver) → is_eq (driver_cmp a b) ≡ true → a ≡ b
same_driver a b e =
    ap (λ (l : List ℕ). record { items = l })
    ((bytes_eq-Decides a.items b.items).0 (sym (is_eq-slice_cmp a.items b.items) ∙ e))

at_option : (c : Column) (o : Option Numbers) → at c (unwrap_or o nothing) ≡ unwrap_or (option_map (at c) o) 0
at_option c None = at-nothing c
at_option c (Some n) = refl

-- a driver's sum so far, column by column
at-so_far : (c : Column) (d : Driver) (sums : List (Driver × Numbers)) → at c (sum_so_far d sums) ≡ sum_for d c sums
at-so_far c d sums = at_option c (lookup (is_at (driver_cmp d)) sums)

-- one sum is no greater than all of them
below_all : (c : Column) (d : Driver) (sums : List (Driver × Numbers)) → AreOrdered sums
    → sum_for d c sums ≤ sum_by (λ n. at c n) (values_of sums)
below_all c d sums ordered =
    omega (arith, sum_by-insert_entry (λ (n : Numbers). at c n) driver_total sums d nothing ordered, at-nothing c)

-- the next sum fits
pub sum_fits : (sums : List (Driver × Numbers)) (s : Shift) (rest all : List Shift) → AreOrdered sums
    → SoFar sums (s ∷ rest) all
    → Fit (total_of all) → Fit (plus (sum_so_far s.driver sums) s.growth)
sum_fits sums s rest all ordered h fit =
    fit_under (plus (sum_so_far s.driver sums) s.growth) (total_of all)
    (λ c. omega (
      arith,
      at-plus c (sum_so_far s.driver sums) s.growth,
      at-so_far c s.driver sums,
      below_all c s.driver sums ordered,
      h.total c,
      sum_by-cons (λ (x : Shift). at c x.growth) s rest,
      at-total c all,
    )) fit

drivers_more : (b : Bool) (d : Driver) (s : Shift) (sums next : List (Driver × Numbers)) (rest : List Shift)
    (all : Bool) (w : Numbers) → is_of d s ≡ b
    → lookup (is_at (driver_cmp d)) next ≡ cond b (Some w) (lookup (is_at (driver_cmp d)) sums)
    → (is_some (lookup (is_at (driver_cmp d)) sums) || (is_of d s || list_any (is_of d) rest)) ≡ all
    → (is_some (lookup (is_at (driver_cmp d)) next) || list_any (is_of d) rest) ≡ all
drivers_more true d s sums next rest all w e found h =
    let one : (is_some (lookup (is_at (driver_cmp d)) sums) || (true || list_any (is_of d) rest)) ≡ all = rw e at h in
    rw found (sym (or_true (is_some (lookup (is_at (driver_cmp d)) sums))) ∙ one)
drivers_more false d s sums next rest all w e found h =
    let one : (is_some (lookup (is_at (driver_cmp d)) sums) || (false || list_any (is_of d) rest)) ≡ all = rw e at h in
    rw found one

each_more : (b : Bool) (d : Driver) (c : Column) (s : Shift) (sums next : List (Driver × Numbers)) (rest : List Shift)
    (all : ℕ) (w : Numbers) → is_of d s ≡ b
    → lookup (is_at (driver_cmp d)) next ≡ cond b (Some w) (lookup (is_at (driver_cmp d)) sums)
    → at c w ≡ sum_for s.driver c sums + at c s.growth
    → sum_for d c sums + (cond (is_of d s) (at c s.growth) 0 + sum_by (gives d c) rest) ≡ all
    → sum_for d c next + sum_by (gives d c) rest ≡ all
each_more true d c s sums next rest all w e found grew h =
    let same : sum_for s.driver c sums ≡ sum_for d c sums =
    ap (λ (x : Driver). sum_for x c sums) (same_driver s.driver d e) in
    let now : sum_for d c next ≡ at c w = ap (λ (o : Option Numbers). unwrap_or (option_map (at c) o) 0) found in
    let one : sum_for d c sums + (at c s.growth + sum_by (gives d c) rest) ≡ all = rw e at h in
    omega (arith, same, now, grew, one)
each_more false d c s sums next rest all w e found grew h =
    let now : sum_for d c next ≡ sum_for d c sums =
    ap (λ (o : Option Numbers). unwrap_or (option_map (at c) o) 0) found in
    let one : sum_for d c sums + (0 + sum_by (gives d c) rest) ≡ all = rw e at h in
    omega (arith, now, one)

-- the sums with one shift more
pub one_more : (sums next : List (Driver × Numbers)) (s : Shift) (rest all : List Shift) → AreOrdered sums
    → SoFar sums (s ∷ rest) all
    → next ≡ insert_entry driver_cmp sums s.driver (plus (sum_so_far s.driver sums) s.growth)
    → ((d : Driver) → lookup (is_at (driver_cmp d)) next
    ≡ cond (is_of d s) (Some (plus (sum_so_far s.driver sums) s.growth)) (lookup (is_at (driver_cmp d)) sums))
    → SoFar next rest all
one_more sums next s rest all ordered h e found =
    let w = plus (sum_so_far s.driver sums) s.growth in
    let grew = λ (c : Column). at-plus c (sum_so_far s.driver sums) s.growth
    ∙ ap (λ (n : ℕ). n + at c s.growth) (at-so_far c s.driver sums) in
    record {
      drivers =
          λ d. drivers_more (is_of d s) d s sums next rest (list_any (is_of d) all) w refl (found d) (h.drivers d);
      each = λ d c. each_more (is_of d s) d c s sums next rest (sum_by (gives d c) all) w refl (found d) (grew c)
          (ap (λ (n : ℕ). sum_for d c sums + n) (sym (sum_by-cons (gives d c) s rest)) ∙ h.each d c);
      total = λ c.
          let inserted = sum_by-insert_entry (λ (n : Numbers). at c n) driver_total sums s.driver w ordered in
          let here : sum_by (λ (n : Numbers). at c n) (values_of next)
          ≡ sum_by (λ (n : Numbers). at c n) (values_of (insert_entry driver_cmp sums s.driver w)) =
          ap (λ (l : List (Driver × Numbers)). sum_by (λ (n : Numbers). at c n) (values_of l)) e in
          omega (arith, inserted, here, grew c, h.total c, sum_by-cons (λ (x : Shift). at c x.growth) s rest);
    }
