-- Counts that a tariff allows, and the sum of their amounts.
use Rattle.std.{specs.List.{AllByRecursion}, proofs.Math.Nat.{mul-le-mul_right}}
use Rattle.std.proofs.Common.{[], ℕ, ◌*◌, ◌+◌, ◌<◌, ◌∷◌, ◌≡◌, ◌≤◌, All, List, Option, ap, arith, get_or, length, set}
use Rattle.std.proofs.{Common.{subst, suc, zero}, lemmas.List.Elements.{All-from_recursion}}
use Rattle.meter_states.specs.Common.{AreAllowed, Supplement, amount_in, amounts_from, most_in}

-- what every supplement of a tariff keeps to
pub record AreBounded (supplement : ℕ → Option Supplement) : Type 0 where
  pub amount : (n : ℕ) → amount_in (supplement n) ≤ 1000000
  pub most : (n : ℕ) → most_in (supplement n) ≤ 99

each-few : (supplement : ℕ → Option Supplement) (n : ℕ) (counts : List ℕ) → AreBounded supplement
    → AreAllowed supplement n counts
    → AllByRecursion (λ count. count ≤ 99) counts
each-few supplement n [] bounded allowed = tt
each-few supplement n (count ∷ counts) bounded allowed =
    (omega (arith, allowed.0, bounded.most n), each-few supplement (n + 1) counts bounded allowed.1)

-- no count is above 99
pub allowed-few : (supplement : ℕ → Option Supplement) (n : ℕ) (counts : List ℕ) → AreBounded supplement
    → AreAllowed supplement n counts
    → All (λ count. count ≤ 99) counts
allowed-few supplement n counts bounded allowed =
    All-from_recursion (λ count. count ≤ 99) counts (each-few supplement n counts bounded allowed)

one-most : (count amount most : ℕ) → count ≤ most → most ≤ 99 → amount ≤ 1000000 → count * amount ≤ 99000000
one-most count amount most within few small =
    let first : count * amount ≤ 99 * amount = mul-le-mul_right amount (omega arith) in
    omega arith

-- and the sum has a most
pub amounts-most : (supplement : ℕ → Option Supplement) (n : ℕ) (counts : List ℕ) → AreBounded supplement
    → AreAllowed supplement n counts
    → amounts_from supplement n counts ≤ length counts * 99000000
amounts-most supplement n [] bounded allowed = omega arith
amounts-most supplement n (count ∷ counts) bounded allowed =
    let here =
    one-most count (amount_in (supplement n)) (most_in (supplement n)) allowed.0 (bounded.most n) (bounded.amount n) in
    let there = amounts-most supplement (n + 1) counts bounded allowed.1 in
    omega (arith, here, there)

-- one more of a supplement that isn't at its most is allowed
pub allowed-more : (supplement : ℕ → Option Supplement) (n i : ℕ) (counts : List ℕ) → i < length counts
    → get_or counts i 0 < most_in (supplement (n + i))
    → AreAllowed supplement n counts → AreAllowed supplement n (set counts i (get_or counts i 0 + 1))
allowed-more supplement n i [] within few allowed = absurd (omega arith)
allowed-more supplement n zero (count ∷ counts) within few allowed =
    let same : n + 0 ≡ n = omega arith in
    let here : count < most_in (supplement n) = subst (λ (k : ℕ). count < most_in (supplement k)) same few in
    (omega arith, allowed.1)
allowed-more supplement n (suc i) (count ∷ counts) within few allowed =
    let same : n + suc i ≡ n + 1 + i = omega arith in (
      allowed.0,
      allowed-more supplement (n + 1) i counts (omega arith)
          (subst (λ (k : ℕ). get_or counts i 0 < most_in (supplement k)) same few) allowed.1,
    )

-- and adds its amount
pub amounts-more : (supplement : ℕ → Option Supplement) (n i : ℕ) (counts : List ℕ) → i < length counts
    → amounts_from supplement n (set counts i (get_or counts i 0 + 1))
    ≡ amounts_from supplement n counts + amount_in (supplement (n + i))
amounts-more supplement n i [] within = absurd (omega arith)
amounts-more supplement n zero (count ∷ counts) within =
    let same : amount_in (supplement (n + 0)) ≡ amount_in (supplement n) =
    ap (λ (k : ℕ). amount_in (supplement k)) (omega arith) in
    let one : (count + 1) * amount_in (supplement n) ≡ count * amount_in (supplement n) + amount_in (supplement n) =
    omega arith in
    omega (arith, same, one)
amounts-more supplement n (suc i) (count ∷ counts) within =
    let same : amount_in (supplement (n + suc i)) ≡ amount_in (supplement (n + 1 + i)) =
    ap (λ (k : ℕ). amount_in (supplement k)) (omega arith) in
    omega (arith, same, amounts-more supplement (n + 1) i counts (omega arith))

-- these counts are allowed, and their amounts come to the sum
abbrev pub AddUp : (ℕ → Option Supplement) → ℕ → List ℕ → ℕ → Type 0
AddUp supplement first counts sum = AreAllowed supplement first counts × (sum ≡ amounts_from supplement first counts)
