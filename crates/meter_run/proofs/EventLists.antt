-- Events, intervals and runs that are carried out, one behind the other.
use Rattle.{std.specs.List.{flat_map}, outside.proofs.Laws.{rose_behind}, meter_run.specs.Drives.{IsBounded}}
use Rattle.std.{specs.Prelude.{IsErrAnd}, proofs.Common.{length-append, refl, subst, suc, sym, take, true, zero}}
use Rattle.std.proofs.Common.{[], ℕ, ◌++◌, ◌+◌, ◌<◌, ◌∙◌, ◌∷◌, ◌≡◌, ◌≢◌, ◌≤◌, Err, IfOk, IsErr, List, Ok, OnErr, OnOk}
use Rattle.std.proofs.Common.{Option, Result, Some, add-one, ap, append_assoc, arith, drop, false, get_or, length}
use Rattle.std.proofs.lemmas.{Bool.{ne_eqb}, List.{append-nil, take-append-drop, Concat.{flat_map-append}}}
use Rattle.meter_run.specs.Common.{Event, HasCause, Pulses, Run, Tick, interval_events, intervals_events, run_events}

-- what holds whatever came of a call holds if it failed
pub on_err : {A E : Type 0} (r : Result A E) (P : Type 0) → P → OnErr r P
on_err (Ok x) P h = tt
on_err (Err e) P h = h

pub on_ok : {A E : Type 0} (r : Result A E) (P : Type 0) → P → OnOk r P
on_ok (Ok x) P h = h
on_ok (Err e) P h = tt

-- what holds of a call that went well, under a premise, and together
pub on_ok_under : {T E : Type 0} (told A : Type 0) (r : Result T E) → (told → OnOk r A) → OnOk r (told → A)
on_ok_under told A (Ok x) h = h
on_ok_under told A (Err e) h = tt

pub on_ok_both : {T E : Type 0} (P Q : Type 0) (r : Result T E) → OnOk r P → OnOk r Q → OnOk r (P × Q)
on_ok_both P Q (Ok x) p q = (p, q)
on_ok_both P Q (Err e) p q = tt

-- a call that failed says nothing of what it would have answered
pub not_ok : {T E : Type 0} (Q : E → Type 0) (r : Result T E) (P : T → Type 0) → IsErrAnd r Q → IfOk r P
not_ok Q (Ok x) P err = absurd err
not_ok Q (Err e) P err = tt

-- what went well, with as many faults, has a cause
pub went_well : {T E : Type 0} (before now : ℕ) (x : T) → now ≡ before → HasCause {T = T} {E = E} before now (Ok x)
went_well before now x same = record { kept = λ ok. same; failed = λ err. absurd cc }

-- the value of a test that holds of a result
pub true_is : true ≡ true
true_is = refl

-- what failed by a last call has that call's cause
pub went_wrong : {T E U F : Type 0} (before mid now : ℕ) (e : E) (r : Result U F) → IsErr r → mid ≡ before
    → HasCause {T = T} {E = E} mid now (Err e) → HasCause before now r
went_wrong before mid now e (Ok x) wrong first cause = absurd (let bad : false ≡ true = wrong in cc)
went_wrong before mid now e (Err fault) wrong first cause =
    record {
      kept = λ ok. absurd (let bad : false ≡ true = ok in cc);
      failed = λ err. rose_behind before mid now first
          (cause.failed refl);
    }

-- what is there is one thing
pub same_stop : {A : Type 0} (o : Option A) (x y : A) → o ≡ Some x → o ≡ Some y → x ≡ y
same_stop o x y one other = by (sym one ∙ other)
  where
    by : Some x ≡ Some y → x ≡ y
    by same = cc

pub not_this : {T E : Type 0} (Q : E → Type 0) (r : Result T E) (x : T) → IsErrAnd r Q → r ≡ Ok x → ⊥
not_this Q (Ok y) x err is = absurd err
not_this Q (Err e) x err is = absurd cc

-- counts that stayed twice
pub counts_more : (x y z : ℕ) → y ≡ x → z ≡ y → z ≡ x
counts_more x y z first next = next ∙ first

pub no_more : (n : ℕ) → n ≡ n
no_more n = refl

pub one_more : (n : ℕ) → n ≤ n + 1
one_more n = omega arith

-- ---- lists of intervals and of runs

-- one interval more
pub intervals_more : (p n : ℕ) → intervals_events p (n + 1) ≡ intervals_events p n ++ interval_events p
intervals_more p zero = append-nil (interval_events p)
intervals_more p (suc n) =
    rw add-one (ap (λ (es : List Event). interval_events p ++ es) (rw add-one at (intervals_more p n))
    ∙ sym (append_assoc (interval_events p) (intervals_events p n) (interval_events p)))

-- the events of a + b intervals are those of a intervals and then those of b
pub intervals_joined : (p a b : ℕ) → intervals_events p (a + b) ≡ intervals_events p a ++ intervals_events p b
intervals_joined p zero b = ap (intervals_events p) (omega arith)
intervals_joined p (suc a) b =
    let next : suc a + b ≡ suc (a + b) = omega arith in
    ap (intervals_events p) next
    ∙ ap (λ (es : List Event). interval_events p ++ es) (intervals_joined p a b)
    ∙ sym (append_assoc (interval_events p) (intervals_events p a) (intervals_events p b))

-- the events of the first intervals, and of those that are left
pub intervals_split : (p i n : ℕ) → i ≤ n
    → (later : List Event) × (intervals_events p n ≡ intervals_events p i ++ later)
intervals_split p zero n h = (intervals_events p n, refl)
intervals_split p (suc i) zero h = absurd (omega arith)
intervals_split p (suc i) (suc n) h =
    let rest = intervals_split p i n (omega arith) in (
      rest.0,
      ap (λ (es : List Event). interval_events p ++ es) rest.1
          ∙ sym (append_assoc (interval_events p) (intervals_events p i) rest.0),
    )

-- an interval that carries pulses
pub interval_some : (p : ℕ) → p ≢ 0 → interval_events p ≡ Pulses p ∷ [] ++ Tick ∷ []
interval_some p some = rw (ne_eqb p 0 some) refl

-- the events of the first runs, of the run at a place, and of those that are left
pub runs_at : (runs : List Run) (i : ℕ) (d : Run) → i < length runs
    → flat_map run_events (take (i + 1) runs) ≡ flat_map run_events (take i runs) ++ run_events (get_or runs i d)
runs_at [] i d h = absurd (omega arith)
runs_at (run ∷ runs) zero d h = append-nil (run_events run)
runs_at (run ∷ runs) (suc i) d h =
    rw add-one (ap (λ (es : List Event). run_events run ++ es) (rw add-one at (runs_at runs i d (omega arith)))
    ∙ sym (append_assoc (run_events run) (flat_map run_events (take i runs)) (run_events (get_or runs i d))))

pub runs_split : (runs : List Run) (i : ℕ)
    → flat_map run_events runs ≡ flat_map run_events (take i runs) ++ flat_map run_events (drop i runs)
runs_split runs i =
    ap (flat_map run_events) (sym (take-append-drop i runs)) ∙ flat_map-append run_events (take i runs) (drop i runs)

-- ---- steps

pub bounded_at_interval : (p i n x y z : ℕ) → i < n → IsBounded x y (intervals_events p i)
    → IsBounded y z (interval_events p) → IsBounded x z (intervals_events p n)
bounded_at_interval p i n x y z h first next =
    let split = intervals_split p (i + 1) n (omega arith) in
    omega (
      arith,
      first,
      next,
      ap length split.1,
      length-append (intervals_events p (i + 1)) split.0,
      ap length (intervals_more p i),
      length-append (intervals_events p i) (interval_events p),
    )

-- and further intervals take none
pub bounded_further : (p i n x y : ℕ) → IsBounded x y (intervals_events p i)
    → IsBounded x y (intervals_events p (i + n))
bounded_further p i n x y first =
    omega (
      arith,
      first,
      ap length (intervals_joined p i n),
      length-append (intervals_events p i) (intervals_events p n),
    )

pub bounded_at_run : (runs : List Run) (i : ℕ) (d : Run) (x y z : ℕ) → i < length runs
    → IsBounded x y (flat_map run_events (take i runs)) → IsBounded y z (run_events (get_or runs i d))
    → IsBounded x z (flat_map run_events runs)
bounded_at_run runs i d x y z h first next =
    omega (
      arith,
      first,
      next,
      ap length (runs_split runs (i + 1)),
      length-append (flat_map run_events (take (i + 1) runs)) (flat_map run_events (drop (i + 1) runs)),
      ap length (runs_at runs i d h),
      length-append (flat_map run_events (take i runs)) (run_events (get_or runs i d)),
    )

pub bounded_run : (runs : List Run) (i : ℕ) (d : Run) (x y z : ℕ) → i < length runs
    → IsBounded x y (flat_map run_events (take i runs)) → IsBounded y z (run_events (get_or runs i d))
    → IsBounded x z (flat_map run_events (take (i + 1) runs))
bounded_run runs i d x y z h first next =
    omega (
      arith,
      first,
      next,
      ap length (runs_at runs i d h),
      length-append (flat_map run_events (take i runs)) (run_events (get_or runs i d)),
    )

-- ---- what a carrier says of lists of events

module _ {M D : Type 0} (carried : M → D → List Event → M → D → Type 0) (broke_off : M → D → List Event → D → Type 0)
    (behind : (es fs : List Event) (x : M) (a : D) (y : M) (b : D) (z : M) (c : D) → carried x a es y b
    → carried y b fs z c → carried x a (es ++ fs) z c)
    (later : (es fs : List Event) (x : M) (a : D) (y : M) (b c : D) → carried x a es y b → broke_off y b fs c
    → broke_off x a (es ++ fs) c)
    (sooner : (es fs : List Event) (x : M) (a c : D) → broke_off x a es c → broke_off x a (es ++ fs) c) where
  -- a tick behind pulses
  pub interval_carried : (p : ℕ) (x : M) (a : D) (y : M) (b : D) (z : M) (c : D) → p ≢ 0
      → carried x a (Pulses p ∷ []) y b → carried y b (Tick ∷ []) z c → carried x a (interval_events p) z c
  interval_carried p x a y b z c some first next = subst (λ (es : List Event). carried x a es z c)
      (sym (interval_some p some)) (behind (Pulses p ∷ []) (Tick ∷ []) x a y b z c first next)

  pub interval_broken : (p : ℕ) (x : M) (a : D) (y : M) (b c : D) → p ≢ 0 → carried x a (Pulses p ∷ []) y b
      → broke_off y b (Tick ∷ []) c → broke_off x a (interval_events p) c
  interval_broken p x a y b c some first next = subst (λ (es : List Event). broke_off x a es c)
      (sym (interval_some p some)) (later (Pulses p ∷ []) (Tick ∷ []) x a y b c first next)

  pub pulses_broken : (p : ℕ) (x : M) (a c : D) → p ≢ 0 → broke_off x a (Pulses p ∷ []) c
      → broke_off x a (interval_events p) c
  pulses_broken p x a c some h = subst (λ (es : List Event). broke_off x a es c) (sym (interval_some p some))
      (sooner (Pulses p ∷ []) (Tick ∷ []) x a c h)

  -- intervals behind intervals
  pub intervals_further : (p i n : ℕ) (x : M) (a : D) (y : M) (b : D) (z : M) (c : D) → carried x a
      (intervals_events p i) y b → carried y b (intervals_events p n) z c → carried x a (intervals_events p (i + n)) z c
  intervals_further p i n x a y b z c first next = subst (λ (es : List Event). carried x a es z c)
      (sym (intervals_joined p i n)) (behind (intervals_events p i) (intervals_events p n) x a y b z c first next)

  -- one interval more
  pub intervals_carried : (p i : ℕ) (x : M) (a : D) (y : M) (b : D) (z : M) (c : D) → carried x a
      (intervals_events p i) y b → carried y b (interval_events p) z c → carried x a (intervals_events p (i + 1)) z c
  intervals_carried p i x a y b z c first next = subst (λ (es : List Event). carried x a es z c)
      (sym (intervals_more p i)) (behind (intervals_events p i) (interval_events p) x a y b z c first next)

  pub intervals_broken : (p i n : ℕ) (x : M) (a : D) (y : M) (b c : D) → i < n → carried x a (intervals_events p i) y b
      → broke_off y b (interval_events p) c → broke_off x a (intervals_events p n) c
  intervals_broken p i n x a y b c h first next =
      let split = intervals_split p (i + 1) n (omega arith) in
      let here : broke_off x a (intervals_events p (i + 1)) c = subst (λ (es : List Event). broke_off x a es c)
      (sym (intervals_more p i)) (later (intervals_events p i) (interval_events p) x a y b c first next) in
      subst (λ (es : List Event). broke_off x a es c) (sym split.1)
      (sooner (intervals_events p (i + 1)) split.0 x a c here)

  -- one run more
  pub runs_carried : (runs : List Run) (i : ℕ) (d : Run) (x : M) (a : D) (y : M) (b : D) (z : M) (c : D)
      → i < length runs → carried x a (flat_map run_events (take i runs)) y b
      → carried y b (run_events (get_or runs i d)) z c
      → carried x a (flat_map run_events (take (i + 1) runs)) z c
  runs_carried runs i d x a y b z c h first next =
      subst (λ (es : List Event). carried x a es z c) (sym (runs_at runs i d h))
      (behind (flat_map run_events (take i runs)) (run_events (get_or runs i d)) x a y b z c first next)

  pub runs_broken : (runs : List Run) (i : ℕ) (d : Run) (x : M) (a : D) (y : M) (b c : D) → i < length runs
      → carried x a (flat_map run_events (take i runs)) y b → broke_off y b (run_events (get_or runs i d)) c
      → broke_off x a (flat_map run_events runs) c
  runs_broken runs i d x a y b c h first next =
      let here : broke_off x a (flat_map run_events (take (i + 1) runs)) c =
      subst (λ (es : List Event). broke_off x a es c) (sym (runs_at runs i d h))
      (later (flat_map run_events (take i runs)) (run_events (get_or runs i d)) x a y b c first next) in
      subst (λ (es : List Event). broke_off x a es c) (sym (runs_split runs (i + 1)))
      (sooner (flat_map run_events (take (i + 1) runs)) (flat_map run_events (drop (i + 1) runs)) x a c here)
