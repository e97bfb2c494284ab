-- The excess of weights is the most that mode S charges an even speed above what its intervals cost as one.
use Rattle.std.{specs.Prelude.{◌↔◌, Bool, nat_le}, proofs.lemmas.Bool.{cases_lt, le-leb, leb-false, leb-true, lt-leb}}
use Rattle.std.proofs.Common.{[], ℕ, ◌%◌, ◌*◌, ◌+◌, ◌-◌, ◌/◌, ◌<◌, ◌∙◌, ◌∷◌, ◌≡◌, ◌≤◌, ◌⊎◌, List, ap, ap₂, arith, false}
use Rattle.std.proofs.{Common.{inl, inr, length, max, min, refl, subst, sum, sym, true}, lemmas.List.Sums.{sum_by-cons}}
use Rattle.{std.proofs.Math.Nat.{le_of_mul-le-mul_left, zero-div, zero-mod}, drive_modes.proofs.Laws.{charge-greater}}
use Rattle.std.proofs.lemmas.Nat.{div-add-mod', mod_below, mul-le}
use Rattle.drive_modes.specs.{Charge.{charge_of}, declared.charges.Mode.TheVariants.{Single}}
use Rattle.drive_modes.specs.Speeds.{IsEvenSpeed, at_cross_over, charge_as_one, charged, coarseness}
use Rattle.rate_commands.specs.{Common.{Weights}, Fineness.{StaysWithin, excess_of, rounded_up}}

-- ---- a quotient that is rounded up

-- `q` whole times and a rest `r` are at most `y` times a number if q, and one for a rest, are at most y
up_most : (d q r y : ℕ) → r < d → q + min 1 r ≤ y → d * q + r ≤ y * d
up_most d q r y less upto = either (cases_lt 0 r)
  where
    either : (0 < r) ⊎ (r ≤ 0) → d * q + r ≤ y * d
    either (inl some) =
        let times : d * (q + 1) ≤ d * y = mul-le d (q + 1) d y (omega arith) (omega arith) in
        omega (arith, times)
    either (inr none) =
        let times : d * q ≤ d * y = mul-le d q d y (omega arith) (omega arith) in
        omega (arith, times)

-- and are more if q, and one for a rest, are more
up_above : (d q r y : ℕ) → r < d → y < q + min 1 r → y * d < d * q + r
up_above d q r y less above = either (cases_lt 0 r)
  where
    either : (0 < r) ⊎ (r ≤ 0) → y * d < d * q + r
    either (inl some) =
        let times : d * y ≤ d * q = mul-le d y d q (omega arith) (omega arith) in
        omega (arith, times)
    either (inr none) =
        let times : d * (y + 1) ≤ d * q = mul-le d (y + 1) d q (omega arith) (omega arith) in
        omega (arith, times)

up_least : (d q r y : ℕ) → r < d → d * q + r ≤ y * d → q + min 1 r ≤ y
up_least d q r y less upto = either (cases_lt y (q + min 1 r))
  where
    either : (y < q + min 1 r) ⊎ (q + min 1 r ≤ y) → q + min 1 r ≤ y
    either (inr is) = is
    either (inl above) = absurd (omega (arith, up_above d q r y less above))

pub up_is : (n d y : ℕ) → 0 < d → (rounded_up n d ≤ y) ↔ (n ≤ y * d)
up_is n d y some =
    let whole : d * (n / d) + n % d ≡ n = omega (arith, div-add-mod' n d) in
    let below : n % d < d = mod_below n d some in (
      (λ upto. let h = up_most d (n / d) (n % d) y below upto in omega (arith, h, whole)),
      (λ upto. up_least d (n / d) (n % d) y below (omega (arith, upto, whole))),
    )

-- ---- the excess of weights

zero_right : (r x : ℕ) → x ≡ 0 → r * x ≡ 0
zero_right r x e = omega (arith, ap (λ (z : ℕ). r * z) e)

zero_left : (x r : ℕ) → x ≡ 0 → x * r ≡ 0
zero_left x r e = omega (arith, ap (λ (z : ℕ). z * r) e)

none_up : (n d : ℕ) → n ≡ 0 → rounded_up n d ≡ 0
none_up n d e =
    let whole : n / d ≡ 0 = ap (λ (x : ℕ). x / d) e ∙ zero-div d in
    let rest : n % d ≡ 0 = ap (λ (x : ℕ). x % d) e ∙ zero-mod d in
    omega (arith, whole, rest)

-- weights of which one is 0 are not coarse
coarse_free : (w : Weights) → w.per_pulse ≡ 0 → coarseness w ≡ 0
coarse_free w free =
    let none : w.per_pulse - w.per_tick % w.per_pulse ≡ 0 = omega (arith, free) in
    zero_right (w.per_tick % w.per_pulse) (w.per_pulse - w.per_tick % w.per_pulse) none

coarse_still : (w : Weights) → w.per_tick ≡ 0 → coarseness w ≡ 0
coarse_still w still =
    zero_left (w.per_tick % w.per_pulse) (w.per_pulse - w.per_tick % w.per_pulse)
    (ap (λ (x : ℕ). x % w.per_pulse) still ∙ zero-mod w.per_pulse)

-- so the excess of weights is at most a number exactly if their coarseness is at most that share of their product
excess_none : (w : Weights) (y : ℕ) → coarseness w ≡ 0
    → (excess_of w ≤ y) ↔ (1000 * coarseness w ≤ y * (w.per_pulse * w.per_tick))
unfolding excess_of
excess_none w y smooth =
    let none : 1000 * coarseness w ≡ 0 = zero_right 1000 (coarseness w) smooth in
    let is : excess_of w ≡ 0 = none_up (1000 * coarseness w) (w.per_pulse * w.per_tick) none in (
      (λ upto. subst (λ (x : ℕ). x ≤ y * (w.per_pulse * w.per_tick)) (sym none) (omega arith)),
      (λ upto. subst (λ (x : ℕ). x ≤ y) (sym is) (omega arith)),
    )

excess_some : (w : Weights) (y : ℕ) → 0 < w.per_pulse * w.per_tick
    → (excess_of w ≤ y) ↔ (1000 * coarseness w ≤ y * (w.per_pulse * w.per_tick))
unfolding excess_of
excess_some w y some = up_is (1000 * coarseness w) (w.per_pulse * w.per_tick) y some

pub excess_is : (w : Weights) (y : ℕ)
    → (excess_of w ≤ y) ↔ (1000 * coarseness w ≤ y * (w.per_pulse * w.per_tick))
excess_is w y = by (cases_lt 0 w.per_pulse) (cases_lt 0 w.per_tick)
  where
    by : (0 < w.per_pulse) ⊎ (w.per_pulse ≤ 0) → (0 < w.per_tick) ⊎ (w.per_tick ≤ 0)
        → (excess_of w ≤ y) ↔ (1000 * coarseness w ≤ y * (w.per_pulse * w.per_tick))
    by (inr free) time = excess_none w y (coarse_free w (omega arith))
    by (inl some) (inr still) = excess_none w y (coarse_still w (omega arith))
    by (inl some) (inl time) =
        let both : 1 * 1 ≤ w.per_pulse * w.per_tick =
        mul-le 1 1 w.per_pulse w.per_tick (omega arith) (omega arith) in
        excess_some w y (omega (arith, both))

-- the excess is at most the whole of what is charged
share_most : (c t p : ℕ) → c ≤ t * p → 1000 * c ≤ 1000 * (p * t)
share_most c t p most = omega (arith, most)

pub excess_most : (w : Weights) → excess_of w ≤ 1000
excess_most w = (excess_is w 1000).1 (share_most (coarseness w) w.per_tick w.per_pulse
    (mul-le (w.per_tick % w.per_pulse) (w.per_pulse - w.per_tick % w.per_pulse) w.per_tick w.per_pulse
    (rest_most w.per_tick w.per_pulse) (omega arith)))
  where
    rest_most : (t p : ℕ) → t % p ≤ t
    rest_most t p = omega (arith, div-add-mod' t p)

-- tests of two orders that are the same have one answer
also_above : (a b c d : ℕ) → b < a → (c ≤ d → a ≤ b) → (d < c) ⊎ (c ≤ d) → d < c
also_above a b c d above same (inl less) = less
also_above a b c d above same (inr upto) = absurd (omega (arith, above, same upto))

test_by : (a b c d : ℕ) (t : Bool) → nat_le a b ≡ t → (a ≤ b) ↔ (c ≤ d) → nat_le a b ≡ nat_le c d
test_by a b c d true passes same = passes ∙ sym (le-leb c d (same.0 (leb-true a b passes)))
test_by a b c d false fails same =
    fails ∙ sym (lt-leb c d (also_above a b c d (leb-false a b fails) same.1 (cases_lt d c)))

pub same_test : (a b c d : ℕ) → (a ≤ b) ↔ (c ≤ d) → nat_le a b ≡ nat_le c d
same_test a b c d same = test_by a b c d (nat_le a b) refl same

-- so weights are tested by their products
product_test : (rest lacks coarse y p t : ℕ) → rest * lacks ≡ coarse
    → (1000 * rest * lacks ≤ y * p * t) ↔ (1000 * coarse ≤ y * (p * t))
product_test rest lacks coarse y p t is = ((λ upto. omega (arith, upto, is)), (λ upto. omega (arith, upto, is)))

pub excess_tested : (w : Weights) (y rest lacks : ℕ) → rest ≡ w.per_tick % w.per_pulse → lacks ≡ w.per_pulse - rest
    → nat_le (1000 * rest * lacks) (y * w.per_pulse * w.per_tick) ≡ nat_le (excess_of w) y
excess_tested w y rest lacks is less =
    let lacking : lacks ≡ w.per_pulse - w.per_tick % w.per_pulse = less ∙ ap (λ (x : ℕ). w.per_pulse - x) is in
    let test = product_test rest lacks (coarseness w) y w.per_pulse w.per_tick
    (ap₂ (λ (a b : ℕ). a * b) is lacking) in
    same_test (1000 * rest * lacks) (y * w.per_pulse * w.per_tick) (excess_of w) y (
      (λ upto. (excess_is w y).1 (test.0 upto)),
      (λ upto. test.1 ((excess_is w y).0 upto)),
    )

pub excess_free : (w : Weights) (y : ℕ) → w.per_pulse ≡ 0 → nat_le (excess_of w) y ≡ true
excess_free w y free =
    let none : 1000 * coarseness w ≡ 0 = zero_right 1000 (coarseness w) (coarse_free w free) in
    le-leb (excess_of w) y ((excess_is w y).1
    (subst (λ (x : ℕ). x ≤ y * (w.per_pulse * w.per_tick)) (sym none) (omega arith)))

-- a number that is enough, and of which no smaller one is, is the excess
pub excess_here : (w : Weights) (y : ℕ) → y ≤ excess_of w → nat_le (excess_of w) y ≡ true → y ≡ excess_of w
excess_here w y least enough = omega (arith, leb-true _ _ enough)

pub excess_later : (w : Weights) (y : ℕ) → nat_le (excess_of w) y ≡ false → y + 1 ≤ excess_of w
excess_later w y not_enough = omega (arith, leb-false _ _ not_enough)

-- ---- weights that are multiples of others

-- weights times s are others times m
pub record IsInScale (s m : ℕ) (w own : Weights) : Type 0 where
  pub some : 0 < s
  pub more : 0 < m
  pub pulse : s * w.per_pulse ≡ m * own.per_pulse
  pub tick : s * w.per_tick ≡ m * own.per_tick

-- so is the greater of two numbers
max_times : (s x y : ℕ) → s * max x y ≡ max (s * x) (s * y)
max_times s x y = either (cases_lt x y)
  where
    either : (x < y) ⊎ (y ≤ x) → s * max x y ≡ max (s * x) (s * y)
    either (inl less) =
        let times : s * x ≤ s * y = mul-le s x s y (omega arith) (omega arith) in
        let greater : max x y ≡ y = omega arith in
        omega (arith, ap (λ (z : ℕ). s * z) greater, times)
    either (inr upto) =
        let times : s * y ≤ s * x = mul-le s y s x (omega arith) (omega arith) in
        let greater : max x y ≡ x = omega arith in
        omega (arith, ap (λ (z : ℕ). s * z) greater, times)

max_scale : (s m x y a b : ℕ) → s * x ≡ m * a → s * y ≡ m * b → s * max x y ≡ m * max a b
max_scale s m x y a b left right = omega (arith, max_times s x y, max_times m a b, left, right)

times_scale : (s m x a n : ℕ) → s * x ≡ m * a → s * (n * x) ≡ m * (n * a)
times_scale s m x a n is = omega (arith, ap (λ (z : ℕ). n * z) is)

sum_scale : (s m x y a b : ℕ) → s * x ≡ m * a → s * y ≡ m * b → s * (x + y) ≡ m * (a + b)
sum_scale s m x y a b left right = omega (arith, left, right)

-- what mode S charges is in scale, and what the intervals cost as one
charge_scale : (s m : ℕ) (w own : Weights) (p : ℕ) → IsInScale s m w own
    → s * charge_of Single w p ≡ m * charge_of Single own p
charge_scale s m w own p is =
    ap (λ (z : ℕ). s * z) (charge-greater w p)
    ∙ (max_scale s m (p * w.per_pulse) w.per_tick (p * own.per_pulse) own.per_tick
    (times_scale s m w.per_pulse own.per_pulse p is.pulse) is.tick
    ∙ sym (ap (λ (z : ℕ). m * z) (charge-greater own p)))

charged_scale : (s m : ℕ) (w own : Weights) (pulses : List ℕ) → IsInScale s m w own
    → s * charged Single w pulses ≡ m * charged Single own pulses
charged_scale s m w own [] is = omega arith
charged_scale s m w own (p ∷ ps) is =
    ap (λ (z : ℕ). s * z) (sum_by-cons (charge_of Single w) p ps)
    ∙ (sum_scale s m (charge_of Single w p) (charged Single w ps) (charge_of Single own p) (charged Single own ps)
    (charge_scale s m w own p is) (charged_scale s m w own ps is)
    ∙ sym (ap (λ (z : ℕ). m * z) (sum_by-cons (charge_of Single own) p ps)))

as_one_scale : (s m : ℕ) (w own : Weights) (pulses : List ℕ) → IsInScale s m w own
    → s * charge_as_one w pulses ≡ m * charge_as_one own pulses
as_one_scale s m w own pulses is =
    max_scale s m (sum pulses * w.per_pulse) (length pulses * w.per_tick) (sum pulses * own.per_pulse)
    (length pulses * own.per_tick) (times_scale s m w.per_pulse own.per_pulse (sum pulses) is.pulse)
    (times_scale s m w.per_tick own.per_tick (length pulses) is.tick)

-- so a bound of what is charged is the same for both
bound_scale : (s m c one d other y : ℕ) → 0 < m → s * c ≡ m * d → s * one ≡ m * other
    → 1000 * c ≤ (1000 + y) * one → 1000 * d ≤ (1000 + y) * other
bound_scale s m c one d other y more charge cost bound =
    let times : s * (1000 * c) ≤ s * ((1000 + y) * one) =
    mul-le s (1000 * c) s ((1000 + y) * one) (omega arith) bound in
    let scaled : m * (1000 * d) ≤ m * ((1000 + y) * other) =
    omega (arith, times, charge, ap (λ (z : ℕ). (1000 + y) * z) cost) in
    le_of_mul-le-mul_left scaled more

pub scale_turned : {s m : ℕ} {w own : Weights} → IsInScale s m w own → IsInScale m s own w
scale_turned is = record { some = is.more; more = is.some; pulse = sym is.pulse; tick = sym is.tick }

pub within_scale : (s m y : ℕ) (w own : Weights) → IsInScale s m w own → StaysWithin y w → StaysWithin y own
within_scale s m y w own is within = λ n pulses even.
    bound_scale s m (charged Single w pulses) (charge_as_one w pulses) (charged Single own pulses)
    (charge_as_one own pulses) y is.more (charged_scale s m w own pulses is) (as_one_scale s m w own pulses is)
    (within n pulses even)

-- ---- even speeds

-- what mode S charges even speeds is known by the laws of even speeds
pub record AreCharged (w : Weights) : Type 0 where
  pub share : (n : ℕ) (pulses : List ℕ) → IsEvenSpeed n pulses
      → w.per_pulse * w.per_tick * (charged Single w pulses - charge_as_one w pulses)
      ≤ coarseness w * charge_as_one w pulses
  pub above : (n : ℕ) (pulses : List ℕ) → IsEvenSpeed n pulses → w.per_tick ≤ n * w.per_pulse
      → charged Single w pulses ≡ charge_as_one w pulses
  pub free : (pulses : List ℕ) → w.per_pulse ≡ 0 → charged Single w pulses ≡ charge_as_one w pulses
  pub even : 0 < w.per_pulse → IsEvenSpeed (w.per_tick / w.per_pulse) (at_cross_over w)
  pub as_one : 0 < w.per_pulse → charge_as_one w (at_cross_over w) ≡ w.per_pulse * w.per_tick
  pub reached : 0 < w.per_pulse
      → charged Single w (at_cross_over w) ≡ charge_as_one w (at_cross_over w) + coarseness w

-- a share of a product bounds what is charged
part_bound : (p x one coarse y : ℕ) → 0 < p → p * x ≤ coarse * one → 1000 * coarse ≤ y * p → 1000 * x ≤ y * one
part_bound p x one coarse y some share upto =
    let wide : 1000 * coarse * one ≤ y * p * one =
    mul-le (1000 * coarse) one (y * p) one upto (omega arith) in
    let above : p * (1000 * x) ≤ p * (y * one) = omega (arith, share, wide) in
    le_of_mul-le-mul_left above some

whole_bound : (c one y : ℕ) → 1000 * (c - one) ≤ y * one → 1000 * c ≤ (1000 + y) * one
whole_bound c one y part = omega (arith, part)

same_bound : (c one y : ℕ) → c ≡ one → 1000 * c ≤ (1000 + y) * one
same_bound c one y same = omega (arith, ap (λ (z : ℕ). 1000 * z) same)

within_by : (w : Weights) (y : ℕ) → AreCharged w → 1000 * coarseness w ≤ y * (w.per_pulse * w.per_tick)
    → StaysWithin y w
within_by w y are upto = λ n pulses even. by n pulses even (cases_lt 0 w.per_pulse) (cases_lt 0 w.per_tick)
  where
    by : (n : ℕ) (pulses : List ℕ) → IsEvenSpeed n pulses → (0 < w.per_pulse) ⊎ (w.per_pulse ≤ 0)
        → (0 < w.per_tick) ⊎ (w.per_tick ≤ 0)
        → 1000 * charged Single w pulses ≤ (1000 + y) * charge_as_one w pulses
    by n pulses even (inr free) time = same_bound _ _ y (are.free pulses (omega arith))
    by n pulses even (inl some) (inr still) = same_bound _ _ y (are.above n pulses even (omega arith))
    by n pulses even (inl some) (inl time) =
        let both : 1 * 1 ≤ w.per_pulse * w.per_tick =
        mul-le 1 1 w.per_pulse w.per_tick (omega arith) (omega arith) in
        whole_bound (charged Single w pulses) (charge_as_one w pulses) y
        (part_bound (w.per_pulse * w.per_tick) (charged Single w pulses - charge_as_one w pulses)
        (charge_as_one w pulses) (coarseness w) y (omega (arith, both)) (are.share n pulses even) upto)

reached_by : (c one coarse p y : ℕ) → one ≡ p → c ≡ one + coarse → 1000 * c ≤ (1000 + y) * one → 1000 * coarse ≤ y * p
reached_by c one coarse p y cost charge bound = omega (arith, charge, bound, ap (λ (z : ℕ). y * z) cost)

by_within : (w : Weights) (y : ℕ) → AreCharged w → StaysWithin y w
    → 1000 * coarseness w ≤ y * (w.per_pulse * w.per_tick)
by_within w y are within = by (cases_lt 0 w.per_pulse)
  where
    by : (0 < w.per_pulse) ⊎ (w.per_pulse ≤ 0) → 1000 * coarseness w ≤ y * (w.per_pulse * w.per_tick)
    by (inr free) = (excess_is w y).0 (leb-true _ _ (excess_free w y (omega arith)))
    by (inl some) =
        reached_by (charged Single w (at_cross_over w)) (charge_as_one w (at_cross_over w)) (coarseness w)
        (w.per_pulse * w.per_tick) y (are.as_one some) (are.reached some)
        (within (w.per_tick / w.per_pulse) (at_cross_over w) (are.even some))

-- so the excess is at most a number exactly if weights stay within it
pub excess_stays : (w : Weights) (y : ℕ) → AreCharged w → (excess_of w ≤ y) ↔ StaysWithin y w
excess_stays w y are = (
  (λ upto. within_by w y are ((excess_is w y).0 upto)),
  (λ within. (excess_is w y).1 (by_within w y are within)),
)

-- and if weights in scale do
pub excess_scaled : (s m y : ℕ) (w own : Weights) → IsInScale s m w own → AreCharged own
    → (excess_of own ≤ y) ↔ StaysWithin y w
excess_scaled s m y w own is are = (
  (λ upto. within_scale m s y own w (scale_turned is) ((excess_stays own y are).0 upto)),
  (λ within. (excess_stays own y are).1 (within_scale s m y w own is within)),
)
