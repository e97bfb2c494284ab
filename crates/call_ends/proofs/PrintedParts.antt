-- Texts that are printed part by part.
use Rattle.std.{specs.List.{flat_map, range_with_len}, proofs.{Common.{refl, subst, sym}, lemmas.Result.{on_ok_weaker}}}
use Rattle.{std.specs.Prelude.{OnOk, is_err, is_ok}, call_ends.specs.Making.{PrintsOut}}
use Rattle.std.proofs.Common.{ℕ, ◌++◌, ◌+◌, ◌-◌, ◌<◌, ◌∙◌, ◌≡◌, ◌≤◌, Err, List, Ok, Result, ap, append_assoc, arith}
use Rattle.outside.{specs.Runs.{PrintTakes}, proofs.Laws.{begins_after, begins_more, keeps_print, keeps_then}}
use Rattle.call_ends.{specs.Common.{Begins, Ghosts, HasCause, KeepsStore, Rose}, proofs.Rows.{rows-more, rows-split}}

on_ok : {T E P : Type 0} (r : Result T E) (x : T) → r ≡ Ok x → OnOk r P → P
on_ok (Ok y) x is p = p
on_ok (Err why) x is p = absurd cc

module _ {T E D L : Type 0} {N : ℕ} {B : Ghosts D N L} {text : List ℕ} {most : ℕ} {old new : D} {before now : ℕ}
    {result : Result T E} where
  pub out-by : (B.tells_text → OnOk result (B.printed new ≡ B.printed old ++ text))
      → (B.tells_text → Begins (B.printed old) (B.printed new) text)
      → HasCause (B.faults old) (B.faults new) result → now ≤ before + most → KeepsStore B old new
      → PrintsOut B text most old new before now result
  out-by whole begun cause steps store =
      record { whole = whole; begun = begun; cause = cause; steps = steps; store = store }

  -- the same of an equal text
  pub out-as : {other : List ℕ} {more : ℕ} → text ≡ other → most ≤ more
      → PrintsOut B text most old new before now result → PrintsOut B other more old new before now result
  out-as is few o = record {
    whole = λ tells. subst (λ (x : List ℕ). OnOk result (B.printed new ≡ B.printed old ++ x)) is (o.whole tells);
    begun = λ tells. subst (λ (x : List ℕ). Begins (B.printed old) (B.printed new) x) is (o.begun tells);
    cause = o.cause;
    steps = omega (arith, o.steps, few);
    store = o.store;
  }

  -- a part was printed, and behind it comes another
  module _ {x : T} (is : result ≡ Ok x) (o : PrintsOut B text most old new before now result) where
    whole_of : B.tells_text → B.printed new ≡ B.printed old ++ text
    whole_of tells = on_ok result x is (o.whole tells)

    pub out-ok : PrintsOut {T = Unit {0}} {E = Unit {0}} B text most old new before now (Ok tt)
    out-ok = record {
      whole = whole_of;
      begun = o.begun;
      cause = record { kept = λ ok. o.cause.kept (ap is_ok is); failed = λ err. absurd cc };
      steps = o.steps;
      store = o.store;
    }

    pub out-then : {U V : Type 0} {more : List ℕ} {few : ℕ} {last : D} {end : ℕ} {other : Result U V}
        → PrintsOut B more few new last now end other
        → PrintsOut B (text ++ more) (most + few) old last before end other
    out-then {more = more} {last = last} {other = other} next =
        let left : B.faults new ≡ B.faults old = o.cause.kept (ap is_ok is) in
        record {
          whole = λ tells. on_ok_weaker other
              (λ (p : B.printed last ≡ B.printed new ++ more).
              p ∙ ap (λ (x : List ℕ). x ++ more) (whole_of tells) ∙ append_assoc (B.printed old) text more)
              (next.whole tells);
          begun = λ tells. begins_after (B.printed old) (B.printed new) (B.printed last) text more (whole_of tells)
              (next.begun tells);
          cause = record {
            kept = λ ok. next.cause.kept ok ∙ left;
            failed = λ err. subst (λ (n : ℕ). Rose n (B.faults last)) left (next.cause.failed err);
          };
          steps = omega (arith, o.steps, next.steps);
          store = keeps_then B old new last o.store next.store;
        }

  -- a part wasn't printed, so that none comes behind it
  pub out-failed : {U V : Type 0} {why : E} {fault : V} (more : List ℕ) (few : ℕ) → result ≡ Err why
      → PrintsOut B text most old new before now result
      → PrintsOut {T = U} {E = V} B (text ++ more) (most + few) old new before now (Err fault)
  out-failed more few is o = record {
    whole = λ tells. tt;
    begun = λ tells. begins_more (B.printed old) (B.printed new) text more (o.begun tells);
    cause = record { kept = λ ok. absurd cc; failed = λ err. o.cause.failed (ap is_err is) };
    steps = omega (arith, o.steps);
    store = o.store;
  }

-- one piece
pub out-print : {T E D L : Type 0} {N : ℕ} (B : Ghosts D N L) {piece : List ℕ} {old new : D} {before now : ℕ}
    {result : Result T E} → (B.tells_text → OnOk result (B.printed new ≡ B.printed old ++ piece))
    → (B.tells_text → Begins (B.printed old) (B.printed new) piece) → B.image new ≡ B.image old
    → ((place : ℕ) → B.in_flight new place → B.in_flight old place) → PrintTakes B old new piece
    → HasCause (B.faults old) (B.faults new) result → now ≡ before + 1
    → PrintsOut B piece 1 old new before now result
out-print B whole begun image flight time cause step =
    out-by whole begun cause (omega (arith, step)) (keeps_print B _ _ _ image flight time)

-- ---- rows, behind a front

module _ {T E D L : Type 0} {N : ℕ} {B : Ghosts D N L} (front : List ℕ) (row : ℕ → List ℕ) {i most : ℕ}
    {old mid new : D} {before between now : ℕ} {result : Result T E}
    (so_far : PrintsOut {T = Unit {0}} {E = Unit {0}} B (front ++ flat_map row (range_with_len 0 i)) most old mid before
    between (Ok tt))
    (next : PrintsOut B (row i) 1 mid new between now result) where
  -- a row more was printed
  pub out-row : {x : T} → result ≡ Ok x → PrintsOut {T = Unit {0}} {E = Unit {0}} B
      (front ++ flat_map row (range_with_len 0 (i + 1))) (most + 1) old new before now (Ok tt)
  out-row is = out-as (append_assoc front (flat_map row (range_with_len 0 i)) (row i)
      ∙ ap (λ (x : List ℕ). front ++ x) (sym (rows-more row i))) (omega arith)
      (out-ok is (out-then refl so_far next))

  -- or wasn't
  pub out-row_failed : {U V : Type 0} {why : E} {fault : V} (n few : ℕ) → i < n → result ≡ Err why
      → PrintsOut {T = U} {E = V} B (front ++ flat_map row (range_with_len 0 n)) (most + 1 + few) old new before now
      (Err fault)
  out-row_failed n few lt is =
      let rest = rows-split row (i + 1) (n - (i + 1)) in
      let all : i + 1 + (n - (i + 1)) ≡ n = omega (arith, lt) in
      out-as (append_assoc front (flat_map row (range_with_len 0 i)) (row i ++ rest.0)
      ∙ ap (λ (x : List ℕ). front ++ x)
      (sym (append_assoc (flat_map row (range_with_len 0 i)) (row i) rest.0)
      ∙ ap (λ (x : List ℕ). x ++ rest.0) (sym (rows-more row i)) ∙ sym rest.1
      ∙ ap (λ (m : ℕ). flat_map row (range_with_len 0 m)) all)) (omega arith)
      (out-then refl so_far (out-failed rest.0 few is next))
