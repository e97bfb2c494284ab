-- The fine constants that are found are the nearest ones.
use Rattle.{std.specs.List.{list_all}, rate_commands.specs.Fineness.{weights_under}}
use Rattle.std.{specs.Prelude.{◌↔◌, All, Bool, None, Some, nat_le}, proofs.lemmas.Bool.{le-leb, leb-true}}
use Rattle.std.proofs.Common.{[], ℕ, ◌&&◌, ◌+◌, ◌-◌, ◌<◌, ◌∙◌, ◌∷◌, ◌≡◌, ◌≤◌, List, ap, arith, false, refl, subst, sym}
use Rattle.std.proofs.{Common.{true}, lemmas.List.Elements.{All-cons, All-head, All-nil, All-tail}}
use Rattle.rate_commands.specs.Common.{RateNumbers, greatest_constant, least_constant}
use Rattle.rate_commands.specs.Fineness.{IsNearestAbove, IsNearestBelow, excess_of, fine_above, fine_below, is_fine}
use Rattle.rate_commands.proofs.Nearest.{IsFirst, first_made, made_first, none_of_made}

-- a constant is fine if the excess of each rate is at most 10 percent
abbrev Within : (k : ℕ) → RateNumbers → Type 0
Within k r = excess_of (weights_under k r) ≤ 100

and_true : (a b : Bool) → (a && b) ≡ true → (a ≡ true) × (b ≡ true)
and_true true b e = (refl, e)
and_true false b e = absurd cc

all_of : (rates : List RateNumbers) (k : ℕ) → is_fine rates k ≡ true → All (Within k) rates
all_of [] k fine = All-nil (Within k)
all_of (r ∷ rates) k fine =
    let both = and_true (nat_le (excess_of (weights_under k r)) 100) (is_fine rates k) fine in
    All-cons (Within k) r rates (leb-true _ _ both.0) (all_of rates k both.1)

of_all : (rates : List RateNumbers) (k : ℕ) → All (Within k) rates → is_fine rates k ≡ true
of_all [] k within = refl
of_all (r ∷ rates) k within =
    let here : nat_le (excess_of (weights_under k r)) 100 ≡ true = le-leb _ _ (All-head (Within k) r rates within) in
    rw here (of_all rates k (All-tail (Within k) r rates within))

pub fine_all : (rates : List RateNumbers) (k : ℕ) → (is_fine rates k ≡ true) ↔ All (Within k) rates
fine_all rates k = (all_of rates k, of_all rates k)

-- the test of a constant
tested : (rates : List RateNumbers) (x y : ℕ) → x ≡ y → is_fine rates x ≡ true → is_fine rates y ≡ true
tested rates x y e fine = subst (λ (z : ℕ). is_fine rates z ≡ true) e fine

-- from a constant down
pub below_nearest : (rates : List RateNumbers) (k d : ℕ) → fine_below rates k ≡ Some d → IsNearestBelow rates k d
below_nearest rates k d e =
    let made = first_made (is_fine rates) (λ (n : ℕ). k - n) (k + 1 - least_constant) d e in
    let is = made.1 in
    let here = made.2 in
    record {
      from = omega (arith, is.below, here);
      to = omega (arith, here);
      fine = tested rates (k - made.0) d here is.passes;
      nearest = λ other less upto fine. is.first (k - other) (omega arith) (omega (arith, here))
          (tested rates other (k - (k - other)) (omega arith) fine);
    }

pub nearest_below : (rates : List RateNumbers) (k d : ℕ) → IsNearestBelow rates k d → fine_below rates k ≡ Some d
nearest_below rates k d is =
    let back : k - (k - d) ≡ d = omega (arith, is.to) in
    let first : IsFirst (λ (j : ℕ). is_fine rates (k - j)) 0 (k + 1 - least_constant) (k - d) = record {
      from = omega arith;
      below = omega (arith, is.from, is.to);
      passes = tested rates d (k - (k - d)) (sym back) is.fine;
      first = λ other from less fine. is.nearest (k - other) (omega (arith, is.to)) (omega arith) fine;
    } in
    made_first (is_fine rates) (λ (n : ℕ). k - n) (k + 1 - least_constant) (k - d) first
    ∙ ap (λ (x : ℕ). Some x) back

pub none_below : (rates : List RateNumbers) (k other : ℕ) → fine_below rates k ≡ None → least_constant ≤ other
    → other ≤ k → ¬ (is_fine rates other ≡ true)
none_below rates k other e from upto = λ fine.
    none_of_made (is_fine rates) (λ (n : ℕ). k - n) (k + 1 - least_constant) (k - other) e (omega arith)
    (tested rates other (k - (k - other)) (omega arith) fine)

-- from a constant up
pub above_nearest : (rates : List RateNumbers) (k e : ℕ) → fine_above rates k ≡ Some e → IsNearestAbove rates k e
above_nearest rates k e found =
    let made = first_made (is_fine rates) (λ (n : ℕ). k + n) (greatest_constant + 1 - k) e found in
    let is = made.1 in
    let here = made.2 in
    record {
      from = omega (arith, here);
      to = omega (arith, is.below, here);
      fine = tested rates (k + made.0) e here is.passes;
      nearest = λ other from less fine. is.first (other - k) (omega arith) (omega (arith, here))
          (tested rates other (k + (other - k)) (omega arith) fine);
    }

pub nearest_above : (rates : List RateNumbers) (k e : ℕ) → IsNearestAbove rates k e → fine_above rates k ≡ Some e
nearest_above rates k e is =
    let back : k + (e - k) ≡ e = omega (arith, is.from) in
    let first : IsFirst (λ (j : ℕ). is_fine rates (k + j)) 0 (greatest_constant + 1 - k) (e - k) = record {
      from = omega arith;
      below = omega (arith, is.from, is.to);
      passes = tested rates e (k + (e - k)) (sym back) is.fine;
      first = λ other from less fine. is.nearest (k + other) (omega arith) (omega (arith, is.from)) fine;
    } in
    made_first (is_fine rates) (λ (n : ℕ). k + n) (greatest_constant + 1 - k) (e - k) first
    ∙ ap (λ (x : ℕ). Some x) back

pub none_above : (rates : List RateNumbers) (k other : ℕ) → fine_above rates k ≡ None → k ≤ other
    → other ≤ greatest_constant → ¬ (is_fine rates other ≡ true)
none_above rates k other e from upto = λ fine.
    none_of_made (is_fine rates) (λ (n : ℕ). k + n) (greatest_constant + 1 - k) (other - k) e (omega arith)
    (tested rates other (k + (other - k)) (omega arith) fine)
