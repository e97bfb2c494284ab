-- A count of faults over calls one after another.
use Rattle.std.specs.{Prelude.{IsErrAnd}, declared.result.Result.TheVariants.{Err, Ok}}
use Rattle.std.proofs.{Common.{ℕ, ◌∙◌, ◌≡◌, Result, inl, refl, subst}, lemmas.Bool.{false≢true}}
use Rattle.log_commands.specs.Common.{HasCause, MayRise, RisesOnlyIf, Rose}

-- ---- behind calls that left the count

pub rose_later : (before mid now : ℕ) → mid ≡ before → Rose mid now → Rose before now
rose_later before mid now same rose = subst (λ (n : ℕ). Rose n now) same rose

pub rises_later : {failed : Type 0} (before mid now : ℕ) → mid ≡ before → RisesOnlyIf failed mid now
    → RisesOnlyIf failed before now
rises_later before mid now same rises = record {
  kept = λ no. rises.kept no ∙ same;
  rose = λ yes. rose_later before mid now same (rises.rose yes);
}

pub cause_later : {T E : Type 0} (before mid now : ℕ) → mid ≡ before → (result : Result T E) → HasCause mid now result
    → HasCause before now result
cause_later before mid now same result cause = record {
  kept = λ ok. cause.kept ok ∙ same;
  failed = λ no. rose_later before mid now same (cause.failed no);
}

-- a failure that is passed on
pub err_later : {T E U F : Type 0} {e : E} (Q : F → Type 0) (before mid now : ℕ) → mid ≡ before
    → HasCause {T = T} {E = E} mid now (Err e) → (result : Result U F) → IsErrAnd result Q → HasCause before now result
err_later Q before mid now same cause (Ok x) never = absurd never
err_later Q before mid now same cause (Err f) is = record {
  kept = λ ok. absurd (false≢true ok);
  failed = λ _. rose_later before mid now same (cause.failed refl);
}

-- an answer behind calls that were Ok
pub cause_ok : {T E : Type 0} (before now : ℕ) (x : T) → now ≡ before → HasCause {T = T} {E = E} before now (Ok x)
cause_ok before now x same = record { kept = λ _. same; failed = λ no. absurd (false≢true no) }

-- ---- what failed, in other words

pub rises_for : {failed failed' : Type 0} (before now : ℕ) → (failed → failed') → (failed' → failed)
    → RisesOnlyIf failed before now → RisesOnlyIf failed' before now
rises_for before now to back rises = record {
  kept = λ no. rises.kept (λ yes. no (to yes));
  rose = λ yes. rises.rose (back yes);
}

pub may_rise_for : {failed failed' : Type 0} (before now : ℕ) → (failed → failed') → MayRise failed before now
    → MayRise failed' before now
may_rise_for before now to may = record { kept = λ no. may.kept (λ yes. no (to yes)); most = may.most }

-- a fault that is passed on
pub rises_passed : {T U E : Type 0} (before now : ℕ) (r : Result T E) (r' : Result U E) (e d : E) → r ≡ Err e
    → r' ≡ Err e → RisesOnlyIf (r ≡ Err d) before now → RisesOnlyIf (r' ≡ Err d) before now
rises_passed {E = E} before now r r' e d is is' rises =
    rises_for before now (λ yes. passed r r' is is' yes) (λ yes. passed r' r is' is yes) rises
  where
    passed : {A B : Type 0} (a : Result A E) (b : Result B E) → a ≡ Err e → b ≡ Err e → a ≡ Err d → b ≡ Err d
    passed a b a_is b_is fails = cc

-- an answer that is Ok has no fault
pub ok_no_err : {T E : Type 0} (r : Result T E) (x : T) (e : E) → r ≡ Ok x → r ≡ Err e → ⊥
ok_no_err r x e is err = cc

pub rises_ok : {T E : Type 0} (before now : ℕ) (r : Result T E) (x : T) (e : E) → r ≡ Ok x
    → RisesOnlyIf (r ≡ Err e) before now → now ≡ before
rises_ok before now r x e is rises = rises.kept (ok_no_err r x e is)

-- no call
pub rises_none : {failed : Type 0} (before : ℕ) → (failed → ⊥) → RisesOnlyIf failed before before
rises_none before never = record { kept = λ _. refl; rose = λ yes. absurd (never yes) }

pub may_none : {failed : Type 0} (before : ℕ) → MayRise failed before before
may_none before = record { kept = λ _. refl; most = inl refl }
