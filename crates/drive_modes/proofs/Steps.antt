-- Display steps are whole steps.
use Rattle.std.proofs.Common.{ℕ, ◌%◌, ◌*◌, ◌+◌, ◌-◌, ◌/◌, ◌<◌, ◌==◌, ◌↔◌, ◌∙◌, ◌≡◌, ◌≤◌, ap, arith, if◌then◌else◌, refl}
use Rattle.std.proofs.{Common.{suc, sym, zero}, lemmas.Nat.{div-add-mod', div-mul-add, mod_below}}
use Rattle.{std.proofs.lemmas.Grind.{common_steps}, drive_modes.specs.Common.{Ahead, Behind, Rounding}}
use Rattle.drive_modes.specs.Fare.{Opening, above_cover, quotient, saved, steps_above, steps_of}

-- behind, the most that an amount fills
pub quotient-behind : (n x y : ℕ) → 0 < y → (n ≤ quotient Behind x y) ↔ (n * y ≤ x)
quotient-behind n x y some = grind (arith, common_steps)

-- ahead, the fewest that hold it
pub quotient-ahead : (n x y : ℕ) → 0 < y → (quotient Ahead x y ≤ n) ↔ (x ≤ n * y)
quotient-ahead n x y some = grind (arith, common_steps)

one-more : (q rest : ℕ) → (if suc rest == 0 then q else q + 1) ≡ q + 1
one-more q rest = grind (arith, common_steps)

-- rounded up, a whole quotient is itself, and any other one more
rounded-up : (q rest y : ℕ) → rest < y → (if rest == 0 then q else q + 1) ≡ (q * y + rest + (y - 1)) / y
rounded-up q zero y below =
    let whole : q * y + 0 + (y - 1) ≡ q * y + (y - 1) = omega arith in
    sym (ap (λ (n : ℕ). n / y) whole ∙ div-mul-add q y (y - 1) (omega arith))
rounded-up q (suc rest) y below =
    let more : q * y + suc rest + (y - 1) ≡ (q + 1) * y + rest = omega arith in
    one-more q rest ∙ sym (ap (λ (n : ℕ). n / y) more ∙ div-mul-add (q + 1) y rest (omega arith))

-- the display steps of what is kept are those of all that is above the cover
pub steps-quotient : (rounding : Rounding) (opening : Opening) (charged : ℕ) → 0 < opening.modulus
    → steps_of rounding (saved opening charged) ≡ steps_above rounding opening charged
steps-quotient Behind opening charged some = refl
steps-quotient Ahead opening charged some =
    let x = above_cover opening charged in
    rounded-up (x / opening.modulus) (x % opening.modulus) opening.modulus (mod_below x opening.modulus some)
    ∙ ap (λ (n : ℕ). (n + (opening.modulus - 1)) / opening.modulus) (div-add-mod' x opening.modulus)
