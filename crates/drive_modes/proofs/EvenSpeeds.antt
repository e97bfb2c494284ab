-- Mode S charges even speeds nearly what their intervals come to as one.
use Rattle.std.proofs.Common.{[], ℕ, ◌%◌, ◌*◌, ◌+◌, ◌-◌, ◌<◌, ◌∙◌, ◌∷◌, ◌≡◌, ◌≤◌, ◌⊎◌, List, ap, arith, inl, inr}
use Rattle.std.proofs.{Common.{length, max, sum, sym}, lemmas.{Bool.{cases_lt}, List.Elements.{All-head, All-tail}}}
use Rattle.{std.proofs.lemmas.Nat.{mod-mul-add, mul-le}, drive_modes.proofs.Crossover.{charge-greater}}
use Rattle.drive_modes.specs.{Charge.{charge_of}, Common.{Single, Weights}}
use Rattle.drive_modes.specs.Speeds.{IsEvenSpeed, charge_as_one, charged, coarseness, distance_alone, time_alone}
use Rattle.drive_modes.proofs.Charged.{both_most, charged_cons, distance_cons, distance_least, time_cons, time_least}

-- the first interval of an even speed, and the others
first_of : (n p : ℕ) (pulses : List ℕ) → IsEvenSpeed n (p ∷ pulses) → (p ≡ n) ⊎ (p ≡ n + 1)
first_of n p pulses even = All-head (λ (x : ℕ). (x ≡ n) ⊎ (x ≡ n + 1)) p pulses even

others_of : (n p : ℕ) (pulses : List ℕ) → IsEvenSpeed n (p ∷ pulses) → IsEvenSpeed n pulses
others_of n p pulses even = All-tail (λ (x : ℕ). (x ≡ n) ⊎ (x ≡ n + 1)) p pulses even

-- if n pulses cost an interval or more, the distance is charged
above_one : (w : Weights) (n p : ℕ) → (p ≡ n) ⊎ (p ≡ n + 1) → w.per_tick ≤ n * w.per_pulse
    → charge_of Single w p ≡ p * w.per_pulse
above_one w n p (inl same) above =
    let cost = ap (λ (x : ℕ). x * w.per_pulse) same in
    omega (arith, cost, charge-greater w p)
above_one w n p (inr more) above =
    let cost = ap (λ (x : ℕ). x * w.per_pulse) more in
    omega (arith, cost, charge-greater w p)

distance_charged : (w : Weights) (n : ℕ) (pulses : List ℕ) → IsEvenSpeed n pulses → w.per_tick ≤ n * w.per_pulse
    → charged Single w pulses ≡ distance_alone w pulses
distance_charged w n [] even above = omega arith
distance_charged w n (p ∷ pulses) even above =
    let one = above_one w n p (first_of n p pulses even) above in
    let rest = distance_charged w n pulses (others_of n p pulses even) above in
    omega (arith, one, rest, charged_cons Single w p pulses, distance_cons w p pulses)

pub exact_above : (w : Weights) (n : ℕ) (pulses : List ℕ) → IsEvenSpeed n pulses → w.per_tick ≤ n * w.per_pulse
    → charged Single w pulses ≡ charge_as_one w pulses
exact_above w n pulses even above = omega (arith, distance_charged w n pulses even above, time_least w pulses)

-- if n + 1 pulses cost an interval or less, the time is charged
below_one : (w : Weights) (n p : ℕ) → (p ≡ n) ⊎ (p ≡ n + 1)
    → (n + 1) * w.per_pulse ≤ w.per_tick → charge_of Single w p ≡ w.per_tick
below_one w n p (inl same) below =
    let cost = ap (λ (x : ℕ). x * w.per_pulse) same in
    omega (arith, cost, charge-greater w p)
below_one w n p (inr more) below =
    let cost = ap (λ (x : ℕ). x * w.per_pulse) more in
    omega (arith, cost, charge-greater w p)

time_charged : (w : Weights) (n : ℕ) (pulses : List ℕ) → IsEvenSpeed n pulses → (n + 1) * w.per_pulse ≤ w.per_tick
    → charged Single w pulses ≡ time_alone w pulses
time_charged w n [] even below = omega arith
time_charged w n (p ∷ pulses) even below =
    let one = below_one w n p (first_of n p pulses even) below in
    let rest = time_charged w n pulses (others_of n p pulses even) below in
    omega (arith, one, rest, charged_cons Single w p pulses, time_cons w p pulses)

pub exact_below : (w : Weights) (n : ℕ) (pulses : List ℕ) → IsEvenSpeed n pulses → (n + 1) * w.per_pulse ≤ w.per_tick
    → charged Single w pulses ≡ charge_as_one w pulses
exact_below w n pulses even below = omega (arith, time_charged w n pulses even below, distance_least w pulses)

-- if pulses cost nothing, the time is charged too
pub exact_free : (w : Weights) (pulses : List ℕ) → w.per_pulse ≡ 0
    → charged Single w pulses ≡ charge_as_one w pulses
exact_free w pulses free =
    let none = ap (λ (c : ℕ). sum pulses * c) free in
    omega (arith, none, time_least w pulses, both_most w pulses)

-- between these, n pulses cost `u` less than an interval, and n + 1 pulses `v` more
record IsBetween (w : Weights) (n u v : ℕ) : Type 0 where
  low : w.per_tick ≡ n * w.per_pulse + u
  high : w.per_pulse ≡ u + v
  some : 0 < v

-- `fewer` intervals have n pulses, and `more` have n + 1: each of the first is charged u more than its distance, and
-- each of the others v more than its time
record Parts (w : Weights) (u v : ℕ) (pulses : List ℕ) : Type 0 where
  fewer : ℕ
  more : ℕ
  all : fewer + more ≡ length pulses
  distance : charged Single w pulses ≡ distance_alone w pulses + fewer * u
  time : charged Single w pulses ≡ time_alone w pulses + more * v

parts_cons : (w : Weights) (n u v p : ℕ) (pulses : List ℕ) → IsBetween w n u v → (p ≡ n) ⊎ (p ≡ n + 1)
    → Parts w u v pulses → Parts w u v (p ∷ pulses)
parts_cons w n u v p pulses is (inl same) rest =
    let cost = ap (λ (x : ℕ). x * w.per_pulse) same in
    let one = charge-greater w p in
    let sums = charged_cons Single w p pulses in
    record {
      fewer = rest.fewer + 1;
      more = rest.more;
      all = omega (arith, rest.all);
      distance = omega (arith, rest.distance, cost, one, sums, is.low, distance_cons w p pulses);
      time = omega (arith, rest.time, cost, one, sums, is.low, time_cons w p pulses);
    }
parts_cons w n u v p pulses is (inr next) rest =
    let cost = ap (λ (x : ℕ). x * w.per_pulse) next in
    let one = charge-greater w p in
    let sums = charged_cons Single w p pulses in
    record {
      fewer = rest.fewer;
      more = rest.more + 1;
      all = omega (arith, rest.all);
      distance = omega (arith, rest.distance, cost, one, sums, is.low, is.high, distance_cons w p pulses);
      time = omega (arith, rest.time, cost, one, sums, is.low, is.high, time_cons w p pulses);
    }

parts_of : (w : Weights) (n u v : ℕ) (pulses : List ℕ) → IsBetween w n u v → IsEvenSpeed n pulses → Parts w u v pulses
parts_of w n u v [] is even = record {
  fewer = 0;
  more = 0;
  all = omega arith;
  distance = omega arith;
  time = omega arith;
}
parts_of w n u v (p ∷ pulses) is even =
    let rest = parts_of w n u v pulses is (others_of n p pulses even) in
    parts_cons w n u v p pulses is (first_of n p pulses even) rest

-- a sum that is `k * u` above one number and `m * v` above another is above the greater of them by the lesser of both
-- differences, and u + v times the lesser is at most (k + m) * (u * v)
lesser_difference : (k m u v s d t : ℕ) → s ≡ d + k * u → s ≡ t + m * v
    → (u + v) * (s - max d t) ≤ (k + m) * (u * v)
lesser_difference k m u v s d t distance time = either (cases_lt (k * u) (m * v))
  where
    either : (k * u < m * v) ⊎ (m * v ≤ k * u) → (u + v) * (s - max d t) ≤ (k + m) * (u * v)
    either (inl less) =
        let above : (u + v) * (s - max d t) ≤ (u + v) * (k * u) =
        mul-le (u + v) (s - max d t) (u + v) (k * u) (omega arith) (omega arith) in
        let turned : u * (k * u) ≤ u * (m * v) = mul-le u (k * u) u (m * v) (omega arith) (omega arith) in
        omega (arith, above, turned)
    either (inr upto) =
        let above : (u + v) * (s - max d t) ≤ (u + v) * (m * v) =
        mul-le (u + v) (s - max d t) (u + v) (m * v) (omega arith) (omega arith) in
        let turned : v * (m * v) ≤ v * (k * u) = mul-le v (m * v) v (k * u) (omega arith) (omega arith) in
        omega (arith, above, turned)

-- the coarseness of such weights is the product of both
coarse_between : (w : Weights) (n u v : ℕ) → IsBetween w n u v → coarseness w ≡ u * v
coarse_between w n u v is =
    let below : u < w.per_pulse = omega (arith, is.high, is.some) in
    let rest : w.per_tick % w.per_pulse ≡ u =
    ap (λ (x : ℕ). x % w.per_pulse) is.low ∙ mod-mul-add n w.per_pulse u below in
    let left : w.per_pulse - u ≡ v = omega (arith, is.high) in
    cc

-- the bound in the words of a stretch
in_words : (p q x k l c d : ℕ) → p ≡ q → k ≡ l → c ≡ d → q * x ≤ l * d → p * x ≤ k * c
in_words p q x k l c d e f g bound = rw (e, f, g) bound

nearly_between : (w : Weights) (n u v : ℕ) (pulses : List ℕ) → IsBetween w n u v → IsEvenSpeed n pulses
    → w.per_pulse * (charged Single w pulses - charge_as_one w pulses) ≤ length pulses * coarseness w
nearly_between w n u v pulses is even =
    let parts = parts_of w n u v pulses is even in
    let bound = lesser_difference parts.fewer parts.more u v (charged Single w pulses) (distance_alone w pulses)
    (time_alone w pulses) parts.distance parts.time in
    in_words _ _ _ _ _ _ _ is.high (sym parts.all) (coarse_between w n u v is) bound

-- if nothing is charged too much, each bound holds
pub none_above : (w x y n : ℕ) → x ≡ y → w * (x - y) ≤ n
none_above w x y n same =
    let none : x - y ≡ 0 = omega (arith, same) in
    let nothing = ap (λ (d : ℕ). w * d) none in
    omega (arith, nothing)

-- so an even speed is charged nearly what its intervals come to as one
pub nearly : (w : Weights) (n : ℕ) (pulses : List ℕ) → IsEvenSpeed n pulses
    → w.per_pulse * (charged Single w pulses - charge_as_one w pulses) ≤ length pulses * coarseness w
nearly w n pulses even =
    either (cases_lt w.per_tick (n * w.per_pulse)) (cases_lt w.per_tick ((n + 1) * w.per_pulse))
  where
    either : (w.per_tick < n * w.per_pulse) ⊎ (n * w.per_pulse ≤ w.per_tick)
        → (w.per_tick < (n + 1) * w.per_pulse) ⊎ ((n + 1) * w.per_pulse ≤ w.per_tick)
        → w.per_pulse * (charged Single w pulses - charge_as_one w pulses) ≤ length pulses * coarseness w
    either (inl above) next = none_above _ _ _ _ (exact_above w n pulses even (omega arith))
    either (inr some) (inr below) = none_above _ _ _ _ (exact_below w n pulses even below)
    either (inr some) (inl next) =
        let is : IsBetween w n (w.per_tick - n * w.per_pulse) ((n + 1) * w.per_pulse - w.per_tick) =
        record { low = omega arith; high = omega arith; some = omega arith } in
        nearly_between w n (w.per_tick - n * w.per_pulse) ((n + 1) * w.per_pulse - w.per_tick) pulses is even
