-- Reading a condition, a step at a time.
use Rattle.std.proofs.Common.{ℕ, ◌+◌, ◌<◌, ◌≡◌, List, None, Option, Some, arith, refl, subst, suc, zero}
use Rattle.tariff_syntax.specs.{Built.{Builds, Built, IsBuilt, IsFront}, Common.{◌>>=◌, Condition}, Words.{after_word}}
use Rattle.tariff_syntax.specs.{Grammar.{Reader, chain_on, condition_by, factor_by, factor_first}, Token.{Token}}

pub none_deep : (d : ℕ) (ts : List Token) → d ≡ 0 → factor_first d ts ≡ None
unfolding factor_first
none_deep zero ts e = refl
none_deep (suc d) ts e = absurd (omega arith)

pub factor_step : (d e : ℕ) (ts : List Token) → d ≡ e + 1
    → factor_first d ts ≡ factor_by (factor_first e) (condition_by (factor_first e)) ts
unfolding factor_first
factor_step zero e ts h = absurd (omega arith)
factor_step (suc d) e ts h = let same : e ≡ d = omega arith in rw same refl

pub chain_none : (joint : List ℕ) (joined : Condition → Reader) (most : ℕ) (left : Condition) (ts : List Token)
    → most ≡ 0 → chain_on joint joined most left ts ≡ None
unfolding chain_on
chain_none joint joined zero left ts e = refl
chain_none joint joined (suc most) left ts e = absurd (omega arith)

pub chain_ends : (joint : List ℕ) (joined : Condition → Reader) (most : ℕ) (left : Condition) (ts : List Token)
    → 0 < most → after_word joint ts ≡ None → chain_on joint joined most left ts ≡ Some (left, ts)
unfolding chain_on
chain_ends joint joined zero left ts h e = absurd (omega arith)
chain_ends joint joined (suc most) left ts h e = rw (e, chain_on) refl

pub chain_goes : (joint : List ℕ) (joined : Condition → Reader) (most less : ℕ) (left : Condition)
    (ts rest : List Token) → most ≡ less + 1 → after_word joint ts ≡ Some rest
    → chain_on joint joined most left ts ≡ (joined left rest >>= λ x. chain_on joint joined less x.0 x.1)
unfolding chain_on
chain_goes joint joined zero less left ts rest h e = absurd (omega arith)
chain_goes joint joined (suc most) less left ts rest h e = let same : less ≡ most = omega arith in
    rw same (rw (e, chain_on) refl)

-- what is read behind something read is read behind what was built of it
pub then_builds : {X : Type 0} (view : X → Built × List Token) (found : Option X) (built : Built) (ts : List Token)
    (read : Option (Condition × List Token)) (f : Condition × List Token → Option (Condition × List Token))
    → IsFront (built, ts) read → ((c : Condition) → IsBuilt built c → Builds view found (f (c, ts)))
    → Builds view found (read >>= f)
then_builds view found built ts None f h g = absurd h
then_builds view found built ts (Some read) f h g =
    subst (λ (rest : List Token). Builds view found (f (read.0, rest))) h.1 (g read.0 h.0)
