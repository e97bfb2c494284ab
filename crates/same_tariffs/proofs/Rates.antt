-- Rates that cost the same make charges of the same money.
use Rattle.{std.specs.{List.{flat_map}, Option.{unwrap_or}}, tariff_check.specs.Measure.{measure_of}}
use Rattle.std.proofs.Common.{[], ℕ, ◌*◌, ◌/◌, ◌<◌, ◌∙◌, ◌∷◌, ◌≡◌, All, Bool, List, Option, Some, ap, arith, false}
use Rattle.std.proofs.Common.{get_or, if◌then◌else◌, mul-pos, mul_comm, nat_lt, subst, sym, true}
use Rattle.std.proofs.lemmas.{Grind.{common_steps}, List.Elements.{All-cons, All-get_or, All-head, All-nil, All-tail}}
use Rattle.{drive_modes.specs.declared.charges.Mode.TheVariants.{Double, Single}, tariff_compare.specs.Same.{cost_same}}
use Rattle.tariff_check.specs.{Parts.{RateNumbers, rates_of}, declared.choice.ChoiceKind.TheVariants.{Rate}}
use Rattle.{tariff_check.specs.Sound.{IsSoundRate}, meter_model.specs.Charge.{charge_by, distance_charge, time_charge}}
use Rattle.tariff_check.{specs.SoundLookups.{rate_in_force}, proofs.Laws.{sound_tariffs_have_sound_parts-parts}}
use Rattle.tariff_check.proofs.Laws.{lines_that_hold_are_there-rate, measures_are_least-least, measures_are_least-sound}
use Rattle.same_tariffs.specs.{Alike.{IsSameMoney}, Common.{Context, IsSound, IsWritable, Mode, Tree, sound_of}}
use Rattle.same_tariffs.proofs.Money.{sum-same, test-same}

-- ---- a rate of a sound tariff

-- a rate fits a common measure if it has measures above 0, which divide it
pub record FitsMeasure (common : ℕ) (r : RateNumbers) : Type 0 where
  pub distance : 0 < r.b
  pub time : 0 < r.e
  pub by_distance : common / r.b * r.b ≡ common
  pub by_time : common / r.e * r.e ≡ common

-- what holds of each measure of rates holds of both of each rate
both-measures : (P : ℕ → Type 0) (rs : List RateNumbers) → All P (flat_map (λ (r : RateNumbers). r.b ∷ r.e ∷ []) rs)
    → All (λ (r : RateNumbers). P r.b × P r.e) rs
both-measures P [] each = All-nil (λ (r : RateNumbers). P r.b × P r.e)
both-measures P (r ∷ rs) each =
    let rest = flat_map (λ (q : RateNumbers). q.b ∷ q.e ∷ []) rs in
    let later = All-tail P r.b (r.e ∷ rest) each in
    All-cons (λ (q : RateNumbers). P q.b × P q.e) r rs (All-head P r.b (r.e ∷ rest) each, All-head P r.e rest later)
    (both-measures P rs (All-tail P r.e rest later))

pub rate-fits : (t : Tree) (x : Context) → IsWritable t → IsSound t
    → FitsMeasure (measure_of t.lines) (rate_in_force (sound_of t) x)
rate-fits t x writable sound =
    let found = lines_that_hold_are_there-rate t x sound in
    let common = measure_of t.lines in
    let none : RateNumbers = record { a = 0; b = 0; c = 0; e = 0 } in
    let least = measures_are_least-least t.lines (measures_are_least-sound t sound) in
    let numbers = All-get_or IsSoundRate (rates_of t.lines) found.0 none found.2
    ((sound_tariffs_have_sound_parts-parts t writable sound).choices Rate) in
    let divide = All-get_or (λ (r : RateNumbers). (common / r.b * r.b ≡ common) × (common / r.e * r.e ≡ common))
    (rates_of t.lines) found.0 none found.2
    (both-measures (λ n. common / n * n ≡ common) (rates_of t.lines) least.multiple) in
    let there : FitsMeasure common (get_or (rates_of t.lines) (unwrap_or (Some found.0) 0) none) =
    record { distance = numbers.distance.0; time = numbers.time.0; by_distance = divide.0; by_time = divide.1 } in
    subst (λ (place : Option ℕ). FitsMeasure common (get_or (rates_of t.lines) (unwrap_or place 0) none)) (sym found.1)
    there

-- ---- rates that cost the same

record CostSame (r q : RateNumbers) : Type 0 where
  pub distance : r.a * q.b ≡ q.a * r.b
  pub time : r.c * q.e ≡ q.c * r.e

cost-is : (r q : RateNumbers) → cost_same r q ≡ true → CostSame r q
cost-is r q is = record { distance = grind (arith, common_steps); time = grind (arith, common_steps) }

turn : (p a x k y b : ℕ) → p * (10000 * a * x) * (k * (y * b)) ≡ p * 10000 * k * (x * y) * (a * b)
turn p a x k y b = omega arith

distance-same : (k m n p : ℕ) (r q : RateNumbers) → FitsMeasure m r → FitsMeasure n q → CostSame r q
    → IsSameMoney (k * m) (k * n) (distance_charge m r p) (distance_charge n q p)
distance-same k m n p r q fits also same =
    let x = m / r.b in
    let y = n / q.b in
    record {
      scaled = ap (λ (w : ℕ). p * (10000 * r.a * x) * (k * w)) (sym also.by_distance)
          ∙ turn p r.a x k y q.b
          ∙ ap (λ (w : ℕ). p * 10000 * k * (x * y) * w) same.distance
          ∙ ap (λ (w : ℕ). p * 10000 * k * w * (q.a * r.b)) (mul_comm x y)
          ∙ sym (turn p q.a y k x r.b)
          ∙ ap (λ (w : ℕ). p * (10000 * q.a * y) * (k * w)) fits.by_distance;
    }

turn-time : (c k x y e : ℕ) → c * k * x * (k * (y * e)) ≡ k * k * (x * y) * (c * e)
turn-time c k x y e = omega arith

time-same : (k m n : ℕ) (r q : RateNumbers) → FitsMeasure m r → FitsMeasure n q → CostSame r q
    → IsSameMoney (k * m) (k * n) (time_charge k m r) (time_charge k n q)
time-same k m n r q fits also same =
    let x = m / r.e in
    let y = n / q.e in
    record {
      scaled = ap (λ (w : ℕ). r.c * k * x * (k * w)) (sym also.by_time)
          ∙ turn-time r.c k x y q.e
          ∙ ap (λ (w : ℕ). k * k * (x * y) * w) same.time
          ∙ ap (λ (w : ℕ). k * k * w * (q.c * r.e)) (mul_comm x y)
          ∙ sym (turn-time q.c k y x r.e)
          ∙ ap (λ (w : ℕ). q.c * k * y * (k * w)) fits.by_time;
    }

-- both sides of the cross-over, in one money
side-distance : (p a b e a' b' e' : ℕ) → a * b' ≡ a' * b → 10000 * p * a * e * (b' * e') ≡ 10000 * p * a' * e' * (b * e)
side-distance p a b e a' b' e' same =
    let one : 10000 * p * a * e * (b' * e') ≡ 10000 * p * e * e' * (a * b') = omega arith in
    let other : 10000 * p * e * e' * (a' * b) ≡ 10000 * p * a' * e' * (b * e) = omega arith in
    one ∙ ap (λ (w : ℕ). 10000 * p * e * e' * w) same ∙ other

side-time : (k c b e c' b' e' : ℕ) → c * e' ≡ c' * e → c * k * b * (b' * e') ≡ c' * k * b' * (b * e)
side-time k c b e c' b' e' same =
    let one : c * k * b * (b' * e') ≡ k * b * b' * (c * e') = omega arith in
    let other : k * b * b' * (c' * e) ≡ c' * k * b' * (b * e) = omega arith in
    one ∙ ap (λ (w : ℕ). k * b * b' * w) same ∙ other

either-money : (u v : ℕ) (b : Bool) (x y x' y' : ℕ) → IsSameMoney u v x x' → IsSameMoney u v y y'
    → IsSameMoney u v (if b then x else y) (if b then x' else y')
either-money u v true x y x' y' p q = p
either-money u v false x y x' y' p q = q

pub charge-same : (mode : Mode) (k m n p : ℕ) (r q : RateNumbers) → FitsMeasure m r → FitsMeasure n q
    → cost_same r q ≡ true
    → IsSameMoney (k * m) (k * n) (charge_by mode k m r p) (charge_by mode k n q p)
charge-same Double k m n p r q fits also is =
    let same = cost-is r q is in
    sum-same (k * m) (k * n) (distance_charge m r p) (distance_charge n q p) (time_charge k m r) (time_charge k n q)
    (distance-same k m n p r q fits also same)
    (time-same k m n r q fits also same)
charge-same Single k m n p r q fits also is =
    let same = cost-is r q is in
    let u = r.b * r.e in
    let v = q.b * q.e in
    let below : nat_lt (10000 * p * r.a * r.e) (r.c * k * r.b) ≡ nat_lt (10000 * p * q.a * q.e) (q.c * k * q.b) =
    test-same u v (10000 * p * r.a * r.e) (10000 * p * q.a * q.e) (r.c * k * r.b) (q.c * k * q.b)
    (mul-pos fits.distance fits.time) (mul-pos also.distance also.time)
    (record { scaled = side-distance p r.a r.b r.e q.a q.b q.e same.distance })
    (record { scaled = side-time k r.c r.b r.e q.c q.b q.e same.time }) in
    let charges = either-money (k * m) (k * n) (nat_lt (10000 * p * r.a * r.e) (r.c * k * r.b)) (time_charge k m r)
    (distance_charge m r p) (time_charge k n q) (distance_charge n q p)
    (time-same k m n r q fits also same) (distance-same k m n p r q fits also same) in
    subst (λ (b : Bool). IsSameMoney (k * m) (k * n) (charge_by Single k m r p)
    (if b then time_charge k n q else distance_charge n q p)) below charges
