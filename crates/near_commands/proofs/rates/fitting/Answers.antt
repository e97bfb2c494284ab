use Rattle.std.{specs.{Option.{option_map}, Prelude.{find}}, proofs.Common.{false, refl, subst, suc, sym, true, zero}}
use Rattle.std.proofs.Common.{[], ℕ, ◌+◌, ◌-◌, ◌<◌, ◌∙◌, ◌∷◌, ◌≡◌, ◌≤◌, Bool, List, None, Option, Some, ap, arith, drop}
use Rattle.near_commands.specs.{NearTariff.{fit, numbers_of}, Nearest.{measures_at}}
use Rattle.near_commands.proofs.rates.fitting.Goals as goal

abbrev exponents : List ℕ
exponents = 7 ∷ 6 ∷ 5 ∷ 4 ∷ 3 ∷ 2 ∷ []

-- the exponents from one on
front : (i : ℕ) → i < 6 → drop i exponents ≡ (7 - i) ∷ drop (i + 1) exponents
front zero less = refl
front (suc zero) less = refl
front (suc (suc zero)) less = refl
front (suc (suc (suc zero))) less = refl
front (suc (suc (suc (suc zero)))) less = refl
front (suc (suc (suc (suc (suc zero))))) less = refl
front (suc (suc (suc (suc (suc (suc i)))))) less = absurd (omega (arith, less))

here : (p : ℕ → Bool) (i : ℕ) (all : Option ℕ) → i < 6 → p (7 - i) ≡ true → find p (drop i exponents) ≡ all
    → Some (7 - i) ≡ all
here p i all less is h =
    let split : find p (drop i exponents) ≡ find p ((7 - i) ∷ drop (i + 1) exponents) =
    ap (find p) (front i less) in
    let found : find p ((7 - i) ∷ drop (i + 1) exponents) ≡ Some (7 - i) = rw is refl in
    sym found ∙ sym split ∙ h

later : (p : ℕ → Bool) (i : ℕ) (all : Option ℕ) → i < 6 → p (7 - i) ≡ false → find p (drop i exponents) ≡ all
    → find p (drop (i + 1) exponents) ≡ all
later p i all less is h =
    let split : find p (drop i exponents) ≡ find p ((7 - i) ∷ drop (i + 1) exponents) =
    ap (find p) (front i less) in
    let found : find p ((7 - i) ∷ drop (i + 1) exponents) ≡ find p (drop (i + 1) exponents) = rw is refl in
    sym found ∙ sym split ∙ h

pub returns-then-fit : goal.returns-then-fit
returns-then-fit c =
    let rates = numbers_of c.args.rates.now in
    ap Some c.measures_at-measures.ensures
    ∙ ap (option_map measures_at) (here (λ j. fit (measures_at j) rates) c.loop-less.less _ (omega arith)
    (ap (λ m. fit m rates) (sym c.measures_at-measures.ensures) ∙ sym c.fit.ensures ∙ c.if-fit.true)
    c.loop-less.invariant)

pub loop-less-preserved : goal.loop-less-preserved
loop-less-preserved c =
    let rates = numbers_of c.args.rates.now in
    later (λ j. fit (measures_at j) rates) c.loop-less.less _ (omega arith)
    (ap (λ m. fit m rates) (sym c.measures_at-measures.ensures) ∙ sym c.fit.ensures ∙ c.if-fit.false)
    c.loop-less.invariant
