-- One bit of a word as a mark, through each operation.
use Rattle.std.{specs.Int.{bit_at}, proofs.lemmas.Nat.Bits.{bit_at-lt, bit_at_and, bit_at_not, bit_at_or}}
use Rattle.std.proofs.Common.{ℕ, ◌&&◌, ◌-◌, ◌<◌, ◌==◌, ◌^◌, ◌||◌, ◌∙◌, ◌≡◌, Bool, ap, bit_and, bit_or, false}
use Rattle.std.proofs.Common.{le_of_suc-le-suc, max, min, not, not-suc-le-zero, refl, suc, true, w64, zero}

-- what holds of 0 and of 1 holds of a bit
of_bit : (P : ℕ → Type 0) → P 0 → P 1 → (x : ℕ) → x < 2 → P x
of_bit P none one zero below = none
of_bit P none one (suc zero) below = one
of_bit P none one (suc (suc x)) below = absurd (not-suc-le-zero (le_of_suc-le-suc (le_of_suc-le-suc below)))

-- and what holds of each two of them holds of two bits at a place
of_bits : (P : ℕ → ℕ → Type 0) → P 0 0 → P 0 1 → P 1 0 → P 1 1 → (a b i : ℕ) → P (bit_at a i) (bit_at b i)
of_bits P none second first both a b i =
    of_bit (λ x. P x (bit_at b i)) (of_bit (P 0) none second (bit_at b i) (bit_at-lt b i))
    (of_bit (P 1) first both (bit_at b i) (bit_at-lt b i)) (bit_at a i) (bit_at-lt a i)

pub bit_both : (a b i : ℕ) → (bit_at (bit_and a b) i == 1) ≡ ((bit_at a i == 1) && (bit_at b i == 1))
bit_both a b i = ap (λ n. n == 1) (bit_at_and a b i)
    ∙ of_bits (λ x y. (min x y == 1) ≡ ((x == 1) && (y == 1))) refl refl refl refl a b i

pub bit_either : (a b i : ℕ) → (bit_at (bit_or a b) i == 1) ≡ ((bit_at a i == 1) || (bit_at b i == 1))
bit_either a b i = ap (λ n. n == 1) (bit_at_or a b i)
    ∙ of_bits (λ x y. (max x y == 1) ≡ ((x == 1) || (y == 1))) refl refl refl refl a b i

pub bit_other : (a i : ℕ) → a < 2 ^ 64 → i < 64 → (bit_at (2 ^ 64 - 1 - a) i == 1) ≡ not (bit_at a i == 1)
bit_other a i fits within = ap (λ n. n == 1) (bit_at_not w64 a i fits within)
    ∙ of_bit (λ x. ((1 - x) == 1) ≡ not (x == 1)) refl refl (bit_at a i) (bit_at-lt a i)

pub or_true : (b : Bool) → true ≡ (b || true)
or_true true = refl
or_true false = refl
