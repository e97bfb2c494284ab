-- What a call that failed leaves, and what a count of faults says of a call after others that left it.
use Rattle.std.proofs.Common.{ℕ, ◌∙◌, ◌≡◌, Err, IfOk, IsErr, Ok, Result, ap, false, inl, is_err, subst, sym, true}
use Rattle.{std.proofs.lemmas.Bool.{false≢true}, outside.specs.Faults.{HasCause, MayRise, RisesOnlyIf, Rose}}

-- nothing is said of the value of a call that failed
pub on_failed : {A E : Type 0} (r : Result A E) (P : A → Type 0) → IsErr r → IfOk r P
on_failed (Ok value) P failed = absurd (let bad : false ≡ true = failed in cc)
on_failed (Err fault) P failed = tt

-- a count that rose after calls that left it rose over all of them
pub rose_behind : (before between now : ℕ) → between ≡ before → Rose between now → Rose before now
rose_behind before between now same rose = subst (λ (count : ℕ). Rose count now) same rose

pub cause_behind : {A E : Type 0} {before between now : ℕ} (r : Result A E) → between ≡ before
    → HasCause between now r → HasCause before now r
cause_behind {now = now} r same cause = subst (λ (count : ℕ). HasCause count now r) same cause

pub rises_behind : {failed : Type 0} {before between now : ℕ} → between ≡ before
    → RisesOnlyIf failed between now → RisesOnlyIf failed before now
rises_behind {failed = failed} {now = now} same rises = subst (λ (count : ℕ). RisesOnlyIf failed count now) same rises

pub may_rise_behind : {failed : Type 0} {before between now : ℕ} → between ≡ before
    → MayRise failed between now → MayRise failed before now
may_rise_behind {failed = failed} {now = now} same may = subst (λ (count : ℕ). MayRise failed count now) same may

-- a count that is as it was rises only if nothing failed, and may rise whatever failed
pub rises_not : {failed : Type 0} {before now : ℕ} → ¬ failed → now ≡ before → RisesOnlyIf failed before now
rises_not none same = record { kept = λ _. same; rose = λ failed. absurd (none failed) }

pub may_rise_not : {failed : Type 0} {before now : ℕ} → now ≡ before → MayRise failed before now
may_rise_not same = record { kept = λ _. same; most = inl same }

-- a count that rose rises only if something failed
pub rises_by : {failed : Type 0} {before now : ℕ} → failed → Rose before now → RisesOnlyIf failed before now
rises_by failed rose = record { kept = λ none. absurd (none failed); rose = λ _. rose }

-- a count that may rise by one thing may rise by whatever that leads to
pub may_rise_more : {failed more : Type 0} {before now : ℕ} → (failed → more) → MayRise failed before now
    → MayRise more before now
may_rise_more wider may = record { kept = λ none. may.kept (λ failed. none (wider failed)); most = may.most }

-- a call that is Ok left each count
pub left_by_ok : {A E : Type 0} {before now : ℕ} (r : Result A E) (value : A) → r ≡ Ok value
    → MayRise (IsErr r) before now → now ≡ before
left_by_ok r value is may = may.kept (λ failed. false≢true (sym (ap is_err is) ∙ failed))
