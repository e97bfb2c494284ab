-- The least common multiple of two numbers is what its name says.
use Rattle.std.{specs.Int.{IsGcd}, proofs.lemmas.Nat.Gcd.{IsGcd-from_mod, IsGcd-from_zero, le_of_dvd, same_from_IsGcd}}
use Rattle.std.proofs.Common.{ℕ, ◌%◌, ◌*◌, ◌+◌, ◌/◌, ◌<◌, ◌∙◌, ◌≡◌, ◌≤◌, ap, arith, refl, subst, suc, sym, zero}
use Rattle.std.proofs.Math.Nat.{div-add-mod, div-mul_cancel, dvd-add_iff_right, dvd-mul_left, dvd-mul_right_of_dvd}
use Rattle.std.proofs.Math.Nat.{dvd_of_mul-dvd-mul_right, mul-add, mul-dvd-mul_right, mul-pos, mul-zero, mul_assoc}
use Rattle.std.proofs.Math.Nat.{mul_comm, mul_left_comm, mul_right_comm, zero-mul}
use Rattle.tariff_check.specs.Measure.{gcd_in, gcd_of, lcm_of}
use Prim.Native.Nat.{◌∣◌}

-- a divisor of a number above 0 is above 0
pub divisor_positive : (a b g : ℕ) → 0 < a → IsGcd a b g → 0 < g
divisor_positive a b zero pos h = absurd (omega (arith, div-mul_cancel zero h.0, mul-zero (a / zero)))
divisor_positive a b (suc g) pos h = omega arith

is_gcd_in : (fuel a b : ℕ) → b < fuel → IsGcd a b (gcd_in fuel a b)
unfolding gcd_in
is_gcd_in zero a b h = absurd (omega arith)
is_gcd_in (suc fuel) a zero h = IsGcd-from_zero a zero refl
is_gcd_in (suc fuel) a (suc b) h =
    IsGcd-from_mod a (suc b) (gcd_in fuel (suc b) (a % suc b)) (is_gcd_in fuel (suc b) (a % suc b) (omega arith))

-- what Euclid's remainders end at is the greatest common divisor
pub is_gcd_of : (a b : ℕ) → IsGcd a b (gcd_of a b)
unfolding gcd_of
is_gcd_of a b = is_gcd_in (b + 1) a b (omega arith)

pub gcd_same : (a b g : ℕ) → IsGcd a b g → g ≡ gcd_of a b
gcd_same a b g h = same_from_IsGcd a b g (gcd_of a b) h (is_gcd_of a b)

quotient_some : (q g a : ℕ) → 0 < a → q * g ≡ a → 0 < q
quotient_some zero g a pos e = absurd (omega (arith, zero-mul g))
quotient_some (suc q) g a pos e = omega arith

pub lcm_positive : (a b g : ℕ) → 0 < a → 0 < b → IsGcd a b g → 0 < a / g * b
lcm_positive a b g first second h = mul-pos (quotient_some (a / g) g a first (div-mul_cancel g h.0)) second

parted : (m b q r : ℕ) → m * b * q + m * r ≡ m * (b * q + r)
parted m b q r = rw (mul_assoc m b q) (sym (mul-add m (b * q) r))

-- a number that divides m * a and m * b divides m times the remainders of a and b
divides_remainder : (a b d m : ℕ) → d ∣ m * a → d ∣ m * b → d ∣ m * (a % b)
divides_remainder a b d m first second =
    let apart : m * b * (a / b) + m * (a % b) ≡ m * a =
    parted m b (a / b) (a % b) ∙ ap (λ (n : ℕ). m * n) (div-add-mod a b) in
    (dvd-add_iff_right d (dvd-mul_right_of_dvd d second (a / b))).1 (subst (λ (n : ℕ). d ∣ n) (sym apart) first)

divides_in : (fuel a b d m : ℕ) → d ∣ m * a → d ∣ m * b → d ∣ m * gcd_in fuel a b
unfolding gcd_in
divides_in zero a b d m first second = first
divides_in (suc fuel) a zero d m first second = first
divides_in (suc fuel) a (suc b) d m first second =
    divides_in fuel (suc b) (a % suc b) d m second (divides_remainder a (suc b) d m first second)

pub divides_gcd : (a b d m : ℕ) → d ∣ m * a → d ∣ m * b → d ∣ m * gcd_of a b
unfolding gcd_of
divides_gcd a b d m first second = divides_in (b + 1) a b d m first second

-- a whole multiple is one that the number divides
pub divides : (m a : ℕ) → m / a * a ≡ m → a ∣ m
divides m a e = subst (λ (n : ℕ). a ∣ n) e (dvd-mul_left a (m / a))

product : (a b g : ℕ) → g ∣ a → a / g * b * g ≡ a * b
product a b g h = mul_right_comm (a / g) b g ∙ ap (λ (n : ℕ). n * b) (div-mul_cancel g h)

crossed : (p q g a b : ℕ) → p * g ≡ a → q * g ≡ b → p * b ≡ q * a
crossed p q g a b first second =
    ap (λ (n : ℕ). p * n) (sym second) ∙ (mul_left_comm p q g ∙ ap (λ (n : ℕ). q * n) first)

-- the least common multiple is a whole multiple of the first number
pub lcm_of-multiple_of_first : (a b : ℕ) → lcm_of a b / a * a ≡ lcm_of a b
lcm_of-multiple_of_first a b =
    let h = is_gcd_of a b in
    let swapped = crossed (a / gcd_of a b) (b / gcd_of a b) (gcd_of a b) a b (div-mul_cancel (gcd_of a b) h.0)
    (div-mul_cancel (gcd_of a b) h.1) in
    div-mul_cancel a (subst (λ (n : ℕ). a ∣ n) (sym swapped) (dvd-mul_left a (b / gcd_of a b)))

-- and of the second
pub lcm_of-multiple_of_second : (a b : ℕ) → lcm_of a b / b * b ≡ lcm_of a b
lcm_of-multiple_of_second a b = div-mul_cancel b (dvd-mul_left b (a / gcd_of a b))

-- and a number that both divide is a whole multiple of it
pub lcm_divides : (a b n : ℕ) → 0 < a → a ∣ n → b ∣ n → lcm_of a b ∣ n
lcm_divides a b n first da db =
    let g = gcd_of a b in
    let h = is_gcd_of a b in
    let with_first : a * b ∣ n * a = subst (λ (m : ℕ). m ∣ n * a) (mul_comm b a) (mul-dvd-mul_right b db a) in
    let with_both : a * b ∣ n * g = divides_gcd a b (a * b) n with_first (mul-dvd-mul_right a da b) in
    dvd_of_mul-dvd-mul_right (lcm_of a b) (divisor_positive a b g first h)
    (subst (λ (m : ℕ). m ∣ n * g) (sym (product a b g h.0)) with_both)

-- m is a whole multiple of both a and b, above 0, and no smaller number is
pub record IsLeastCommonMeasure (a b m : ℕ) : Type 0 where
  pub positive : 0 < m
  pub of_first : m / a * a ≡ m
  pub of_second : m / b * b ≡ m
  pub least : (n : ℕ) → 0 < n → n / a * a ≡ n → n / b * b ≡ n → m ≤ n

-- so is the least common multiple
pub lcm_is_least : (a b : ℕ) → 0 < a → 0 < b → IsLeastCommonMeasure a b (lcm_of a b)
lcm_is_least a b first second = record {
  positive = lcm_positive a b (gcd_of a b) first second (is_gcd_of a b);
  of_first = lcm_of-multiple_of_first a b;
  of_second = lcm_of-multiple_of_second a b;
  least = λ n some da db. le_of_dvd some (lcm_divides a b n first (divides n a da) (divides n b db));
}
