-- A meterage that is kept from charge to charge is what their sum alone makes of it.
use Rattle.std.{specs.List.{fold}, proofs.Math.Nat.{div-add-mod, mul-add-div, mul-add-mod_self_left}}
use Rattle.std.proofs.Common.{[], ℕ, ◌%◌, ◌*◌, ◌+◌, ◌-◌, ◌/◌, ◌<◌, ◌∙◌, ◌∷◌, ◌≡◌, List, ap, arith, refl, sum, sym}
use Rattle.{std.proofs.lemmas.Nat.{div-mul-add, mod-mul-add}, drive_modes.specs.Common.{Meterage, Rounding}}
use Rattle.drive_modes.specs.Fare.{Opening, above_cover, added, opening_of, saved, shown_fare, steps_above, steps_of}
use Rattle.drive_modes.proofs.Steps.{steps-quotient}

-- x units more, beside the display steps and the rest of g units
together : (g x modulus : ℕ) → modulus * (g / modulus) + (g % modulus + x) ≡ g + x
together g x modulus = omega (arith, div-add-mod g modulus)

steps-together : (g x modulus : ℕ) → 0 < modulus → g / modulus + (g % modulus + x) / modulus ≡ (g + x) / modulus
steps-together g x modulus some =
    sym (mul-add-div some (g / modulus) (g % modulus + x)) ∙ ap (λ (n : ℕ). n / modulus) (together g x modulus)

rest-together : (g x modulus : ℕ) → (g % modulus + x) % modulus ≡ (g + x) % modulus
rest-together g x modulus = sym (mul-add-mod_self_left modulus (g / modulus) (g % modulus + x))
    ∙ ap (λ (n : ℕ). n % modulus) (together g x modulus)

above-together : (opening : Opening) (f c : ℕ)
    → above_cover opening f + (c - (opening.cover - f)) ≡ above_cover opening (f + c)
above-together opening f c = omega arith

-- a further charge adds to the sum
pub added-saved : (opening : Opening) (f c : ℕ) → 0 < opening.modulus
    → added opening.modulus (saved opening f) c ≡ saved opening (f + c)
added-saved opening f c some =
    let cover : opening.cover - f - c ≡ opening.cover - (f + c) = omega arith in
    let above = above-together opening f c in
    let steps = steps-together (above_cover opening f) (c - (opening.cover - f)) opening.modulus some in
    let rest = rest-together (above_cover opening f) (c - (opening.cover - f)) opening.modulus in
    cc

fold-saved : (opening : Opening) (f : ℕ) (charges : List ℕ) → 0 < opening.modulus
    → fold (added opening.modulus) (saved opening f) charges ≡ saved opening (fold (λ a x. a + x) f charges)
fold-saved opening f [] some = refl
fold-saved opening f (c ∷ charges) some =
    ap (λ (m : Meterage). fold (added opening.modulus) m charges) (added-saved opening f c some)
    ∙ fold-saved opening (f + c) charges some

-- what charges make of a trip is what their sum makes of it
pub saved-sum : (opening : Opening) (charges : List ℕ) → 0 < opening.modulus
    → fold (added opening.modulus) (saved opening 0) charges ≡ saved opening (sum charges)
saved-sum opening charges some = fold-saved opening 0 charges some

-- a meterage whose rest is below a display step is one that was saved
pub saved-any : (modulus : ℕ) (m : Meterage) → m.rest < modulus → m ≡ saved (opening_of modulus m) 0
saved-any modulus m below =
    let above : m.steps_full * modulus + m.rest + (0 - m.cover_left) ≡ m.steps_full * modulus + m.rest = omega arith in
    let cover : m.cover_left - 0 ≡ m.cover_left = omega arith in
    let steps = ap (λ (n : ℕ). n / modulus) above ∙ div-mul-add m.steps_full modulus m.rest below in
    let rest = ap (λ (n : ℕ). n % modulus) above ∙ mod-mul-add m.steps_full modulus m.rest below in
    let whole : saved (opening_of modulus m) 0
    ≡ record { cover_left = m.cover_left; steps_full = m.steps_full; rest = m.rest } = cc in
    sym whole

-- so from every state on the display steps and the fare that are shown are those of the sum
pub shown-sum : (initial minimum step modulus : ℕ) (rounding : Rounding) (m : Meterage) (charges : List ℕ)
    → m.rest < modulus
    → (steps_of rounding (fold (added modulus) m charges) ≡ steps_above rounding (opening_of modulus m) (sum charges))
    × (shown_fare initial minimum step (steps_of rounding (fold (added modulus) m charges))
    ≡ shown_fare initial minimum step (steps_above rounding (opening_of modulus m) (sum charges)))
shown-sum initial minimum step modulus rounding m charges below =
    let opening = opening_of modulus m in
    let some : 0 < modulus = omega arith in
    let kept : fold (added modulus) m charges ≡ saved opening (sum charges) = ap (λ (start : Meterage).
    fold (added modulus) start charges) (saved-any modulus m below) ∙ saved-sum opening charges some in
    let steps : steps_of rounding (fold (added modulus) m charges) ≡ steps_above rounding opening (sum charges) =
    ap (steps_of rounding) kept ∙ steps-quotient rounding opening (sum charges) some in
    (steps, ap (shown_fare initial minimum step) steps)
