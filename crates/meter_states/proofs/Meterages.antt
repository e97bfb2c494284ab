-- A charge more.
use Rattle.std.proofs.Common.{[], ℕ, ◌%◌, ◌*◌, ◌+◌, ◌-◌, ◌/◌, ◌<◌, ◌^◌, ◌∙◌, ◌∷◌, ◌≡◌, ◌≤◌, ap, arith, sum, sym}
use Rattle.{std.proofs.lemmas.Grind.{common_steps}, drive_modes.proofs.Laws.{saved-sum}}
use Rattle.meter_states.specs.Common.{Meterage, Rounding, added, saved, steps_of}
use Rattle.drive_modes.specs.Fare as fares

small-div : (x y : ℕ) → x < y → x / y ≡ 0
small-div x y below = grind (arith, common_steps)

small-mod : (x y : ℕ) → x < y → x % y ≡ x
small-mod x y below = grind (arith, common_steps)

-- a charge that fills no display step
pub added-less : (modulus q : ℕ) (m : Meterage) → m.rest + (q - m.cover_left) < modulus
    → ◌≡◌ {A = Meterage}
    (record { cover_left = m.cover_left - q; steps_full = m.steps_full; rest = m.rest + (q - m.cover_left) })
    (added modulus m q)
added-less modulus q m below =
    let steps : m.steps_full ≡ m.steps_full + (m.rest + (q - m.cover_left)) / modulus =
    omega (arith, small-div (m.rest + (q - m.cover_left)) modulus below) in
    let rest = sym (small-mod (m.rest + (q - m.cover_left)) modulus below) in
    cc

-- a charge more is a charge more of the sum
pub sum-added : (o : fares.Opening) (charged q : ℕ) → 0 < o.modulus
    → added o.modulus (saved o charged) q ≡ saved o (charged + q)
sum-added o charged q some =
    let both = saved-sum o (charged ∷ q ∷ []) some in
    let first = saved-sum o (charged ∷ []) some in
    let one : sum (charged ∷ []) ≡ charged = grind (arith, common_steps) in
    let two : sum (charged ∷ q ∷ []) ≡ charged + q = grind (arith, common_steps) in
    ap (λ (n : ℕ). added o.modulus (saved o n) q) (sym one)
    ∙ ap (λ (m : Meterage). added o.modulus m q) (sym first)
    ∙ both
    ∙ ap (saved o) two

-- the display steps that a trip in range has filled
pub steps-few : {ticks full : ℕ} → ticks ≤ 8640000 → full ≤ 41000000000 * ticks → full ≤ 4 * 10 ^ 17
steps-few few steps = omega (arith, few, steps)

pub steps-below : (n : ℕ) (r : Rounding) (m : Meterage) → n ≡ steps_of r m → m.steps_full ≤ 4 * 10 ^ 17 → n < 10 ^ 18
steps-below n r m is few = grind (arith, common_steps)
