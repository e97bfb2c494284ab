-- Sums, quotients and rests of the same money.
use Rattle.std.proofs.Common.{[], ℕ, ◌%◌, ◌*◌, ◌+◌, ◌-◌, ◌/◌, ◌<◌, ◌∙◌, ◌≡◌, ◌≤◌, add-mul, ap, arith}
use Rattle.std.proofs.Common.{le_of_mul-le-mul_right, lt_of_mul-lt-mul_right, mul-le-mul_right, mul-lt-mul_of_pos_right}
use Rattle.std.proofs.{Common.{mul_assoc, mul_comm, mul_right_comm, nat_lt, sym}, lemmas.Nat.{div-mul-add, mod-mul-add}}
use Rattle.std.proofs.{Math.Nat.{div-add-mod, mul-sub}, lemmas.Grind.{common_steps}}
use Rattle.drive_modes.{specs.Fare.{above_cover, opening_of, quotient, saved, steps_of}, proofs.Laws.{shown-sum}}
use Rattle.drive_modes.specs.declared.meterage.Rounding.TheVariants.{Ahead, Behind}
use Rattle.same_tariffs.specs.Alike.{AreMeteragesAlike, AreOpeningsAlike, IsSameMoney}
use Rattle.same_tariffs.specs.Common.{Meterage, Opening, Rounding, steps_above}

pub none-same : (u v : ℕ) → IsSameMoney u v 0 0
none-same u v = record { scaled = omega arith }

pub sum-same : (u v a b c d : ℕ) → IsSameMoney u v a b → IsSameMoney u v c d → IsSameMoney u v (a + c) (b + d)
sum-same u v a b c d p q = record { scaled = omega (arith, add-mul a c v, add-mul b d u, p.scaled, q.scaled) }

sub-mul : (a c v : ℕ) → (a - c) * v ≡ a * v - c * v
sub-mul a c v =
    mul_comm (a - c) v ∙ mul-sub v a c ∙ ap (λ (x : ℕ). x - v * c) (mul_comm v a)
    ∙ ap (λ (x : ℕ). a * v - x) (mul_comm v c)

pub less-same : (u v a b c d : ℕ) → IsSameMoney u v a b → IsSameMoney u v c d → IsSameMoney u v (a - c) (b - d)
less-same u v a b c d p q =
    record {
      scaled = sub-mul a c v ∙ ap (λ (x : ℕ). x - c * v) p.scaled ∙ ap (λ (x : ℕ). b * u - x) q.scaled
          ∙ sym (sub-mul b d u);
    }

-- so many of one unit of money
pub times-same : (u v n : ℕ) → IsSameMoney u v (n * u) (n * v)
times-same u v n = record { scaled = mul_right_comm n u v }

pub times-money : (u v n a b : ℕ) → IsSameMoney u v a b → IsSameMoney u v (n * a) (n * b)
times-money u v n a b p = record { scaled = mul_assoc n a v ∙ ap (λ (x : ℕ). n * x) p.scaled ∙ sym (mul_assoc n b u) }

pub zero-same : (u v a b : ℕ) → 0 < u → 0 < v → IsSameMoney u v a b → a ≡ 0 → b ≡ 0
zero-same u v a b some also p none =
    let e : b * u ≡ 0 * u = sym p.scaled ∙ ap (λ (x : ℕ). x * v) none ∙ omega arith in
    let below : b ≤ 0 = le_of_mul-le-mul_right {k = u} (omega (arith, e)) some in
    omega (arith, below)

turned : (u v a b : ℕ) → IsSameMoney u v a b → IsSameMoney v u b a
turned u v a b p = record { scaled = sym p.scaled }

pub le-same : (u v a b c d : ℕ) → 0 < u → IsSameMoney u v a b → IsSameMoney u v c d → a ≤ c → b ≤ d
le-same u v a b c d some p q below =
    let scaled : a * v ≤ c * v = mul-le-mul_right v below in
    le_of_mul-le-mul_right {k = u} (omega (arith, scaled, p.scaled, q.scaled)) some

pub lt-same : (u v a b c d : ℕ) → 0 < v → IsSameMoney u v a b → IsSameMoney u v c d → a < c → b < d
lt-same u v a b c d some p q below =
    let scaled : a * v < c * v = mul-lt-mul_of_pos_right below some in
    lt_of_mul-lt-mul_right u (omega (arith, scaled, p.scaled, q.scaled))

-- a test of which is less has one answer in both units
pub test-same : (u v a b c d : ℕ) → 0 < u → 0 < v → IsSameMoney u v a b → IsSameMoney u v c d → nat_lt a c ≡ nat_lt b d
test-same u v a b c d some also p q =
    let there : a < c → b < d = λ below. lt-same u v a b c d also p q below in
    let back : b < d → a < c = λ below. lt-same v u b a d c some (turned u v a b p) (turned u v c d q) below in
    grind (arith, common_steps)

-- what display steps of the same money are full, and what is left of one
record Parted (u v a b m n : ℕ) : Type 0 where
  pub quotient : a / m ≡ b / n
  pub rest : IsSameMoney u v (a % m) (b % n)

parted : (u v a b m n : ℕ) → 0 < u → 0 < v → 0 < m → IsSameMoney u v a b → IsSameMoney u v m n → Parted u v a b m n
parted u v a b m n some also step p q =
    let k = a / m in
    let r = a % m in
    let whole : k * m + r ≡ a = omega (arith, div-add-mod a m, mul_comm m k) in
    let small : r < m = omega (arith, step) in
    let full = times-money u v k m n q in
    let rest : IsSameMoney u v (a - k * m) (b - k * n) = less-same u v a b (k * m) (k * n) p full in
    let left : a - k * m ≡ r = omega (arith, whole) in
    let upto : k * n ≤ b = le-same u v (k * m) (k * n) a b some full p (omega (arith, whole)) in
    let below : b - k * n < n = lt-same u v (a - k * m) (b - k * n) m n also rest q (omega (arith, left, small)) in
    let split : b ≡ k * n + (b - k * n) = omega (arith, upto) in
    let steps : b / n ≡ k = ap (λ (x : ℕ). x / n) split ∙ div-mul-add k n (b - k * n) below in
    let remains : b % n ≡ b - k * n = ap (λ (x : ℕ). x % n) split ∙ mod-mul-add k n (b - k * n) below in
    record {
      quotient = sym steps;
      rest = record { scaled = ap (λ (x : ℕ). x * v) (sym left) ∙ rest.scaled ∙ ap (λ (x : ℕ). x * u) (sym remains) };
    }

-- charges that are the same money leave meterages that are alike
pub saved-same : (u v : ℕ) (o p : Opening) (a b : ℕ) → 0 < u → 0 < v → AreOpeningsAlike u v o p → IsSameMoney u v a b
    → AreMeteragesAlike u v (saved o a) (saved p b)
saved-same u v o p a b some also opens same =
    let more = less-same u v a b o.cover p.cover same opens.cover in
    let above = sum-same u v o.above p.above (a - o.cover) (b - p.cover) opens.above more in
    let parts = parted u v (above_cover o a) (above_cover p b) o.modulus p.modulus some also opens.some above
    opens.modulus in
    record { cover = less-same u v o.cover p.cover a b opens.cover same; steps = parts.quotient; rest = parts.rest }

-- meterages that are alike show the same steps
steps-alike : (u v : ℕ) (r : Rounding) (m n : Meterage) → 0 < u → 0 < v → AreMeteragesAlike u v m n
    → steps_of r m ≡ steps_of r n
steps-alike u v Behind m n some also same = same.steps
steps-alike u v Ahead m n some also same =
    let there = zero-same u v m.rest n.rest some also same.rest in
    let back = zero-same v u n.rest m.rest also some (turned u v m.rest n.rest same.rest) in
    let steps = same.steps in
    grind (arith, common_steps)

-- the steps that are shown are those of the meterage that is saved
steps-saved : (r : Rounding) (o : Opening) (charged : ℕ) → 0 < o.modulus → steps_of r (saved o charged) ≡ steps_above r
    o charged
steps-saved r o charged some =
    let m = saved o charged in
    let small : m.rest < o.modulus = omega (arith, some) in
    let whole : above_cover (opening_of o.modulus m) 0 ≡ above_cover o charged =
    omega (
      arith,
      div-add-mod (above_cover o charged) o.modulus,
      mul_comm (above_cover o charged / o.modulus)
          o.modulus,
    ) in
    (shown-sum 0 0 0 o.modulus r m [] small).0 ∙ ap (λ (x : ℕ). quotient r x o.modulus) whole

pub steps-same : (u v : ℕ) (r : Rounding) (o p : Opening) (a b : ℕ) → 0 < u → 0 < v → AreOpeningsAlike u v o p
    → IsSameMoney u v a b → steps_above r o a ≡ steps_above r p b
steps-same u v r o p a b some also opens same =
    sym (steps-saved r o a opens.some) ∙ steps-alike u v r (saved o a) (saved p b) some also
    (saved-same u v o p a b some also opens same) ∙ steps-saved r p b opens.also
