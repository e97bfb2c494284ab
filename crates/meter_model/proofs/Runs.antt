-- Runs over lists of events.
use Rattle.std.proofs.Common.{[], ◌++◌, ◌∙◌, ◌∷◌, ◌≡◌, List, ap, append_assoc, refl, sym}
use Rattle.meter_model.{specs.{Common.{Act, Durable, Event}, Step.{step}}, proofs.Resumed.{begins}}
use Rattle.meter_model.specs.{KeptTrip.{HoldFits, IsTripKept}, Meter.{◌>>=◌, Meter, Outcome}, Setting.{Setting}}
use Rattle.meter_model.{specs.Run.{opened, run, run_both, whole_run}, proofs.KeptTrips.{kept-ended, kept-step}}

-- one thing after the other, and then a third
joined : (o : Outcome) (f g : Meter → Outcome) → o >>= (λ (m : Meter). f m >>= g) ≡ (o >>= f) >>= g
joined o f g = ap (λ (acts : List Act). record { next = (g (f o.next).next).next; acts = acts })
    (sym (append_assoc o.acts (f o.next).acts (g (f o.next).next).acts))

pub run-append : (s : Setting) (first second : List Event) (m : Meter)
    → run s (first ++ second) m ≡ run_both s first second m
run-append s [] second m = refl
run-append s (event ∷ events) second m =
    ap (λ (o : Outcome). record { next = o.next; acts = (step s event m).acts ++ o.acts })
    (run-append s events second (step s event m).next)
    ∙ joined (step s event m) (run s events) (run s second)

-- a run keeps the trip of the store
pub kept-run : (s : Setting) (events : List Event) (m : Meter) → IsTripKept s m → IsTripKept s (run s events m).next
kept-run s [] m kept = kept
kept-run s (event ∷ events) m kept = kept-run s events (step s event m).next (kept-step s event m kept)

pub kept-whole : (s : Setting) (durable : Durable) (events : List Event) → HoldFits s durable.hold
    → IsTripKept s (whole_run s durable events).next
kept-whole s durable events fits =
    kept-ended s (run s events (opened s durable)).next
    (kept-run s events (opened s durable) (begins s durable.hold fits))
