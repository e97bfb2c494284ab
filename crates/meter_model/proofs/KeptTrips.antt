-- Each stage of an event keeps the trip of the store.
use Rattle.std.proofs.{Common.{ℕ, ◌≡◌, ◌≢◌, arith, refl}, lemmas.Grind.{common_steps}}
use Rattle.meter_model.specs.{Common.{Event, ForHire, Hired, Off, Operating, Stopped}, KeptTrip.{IsTripKept}}
use Rattle.meter_model.specs.{Meter.{Meter}, Setting.{Setting}, Supply.{supply_came, supply_dropped}}
use Rattle.meter_model.specs.{Run.{ended, ended_in}, Step.{off_step, powered_step, step, step_in, ticked}}
use Rattle.taxi_units.specs.declared.event.Event.TheVariants as events

kept-ticked : (s : Setting) (m : Meter) → m.operating ≢ Off → IsTripKept s m → IsTripKept s (ticked s m).next
kept-ticked s m on kept = grind (arith, common_steps)

kept-dropped : (s : Setting) (m : Meter) → m.operating ≢ Off → IsTripKept s m → IsTripKept s (supply_dropped s m).next
kept-dropped s m on kept = grind (arith, common_steps)

kept-came : (s : Setting) (second : ℕ) (m : Meter) → m.operating ≡ Off → IsTripKept s m
    → IsTripKept s (supply_came s second m).next
kept-came s second m off kept = grind (arith, common_steps)

kept-powered : (s : Setting) (event : Event) (m : Meter) → m.operating ≢ Off → IsTripKept s m
    → IsTripKept s (powered_step s event m).next
kept-powered s events.Tick m on kept = kept-ticked s m on kept
kept-powered s events.Down m on kept = kept-dropped s m on kept
kept-powered s (events.Up second) m on kept = kept
kept-powered s (events.Pulses n) m on kept = kept
kept-powered s (events.Clock second) m on kept = grind (arith, common_steps)
kept-powered s (events.Key key) m on kept = grind (arith, common_steps)

kept-off : (s : Setting) (event : Event) (m : Meter) → m.operating ≡ Off → IsTripKept s m
    → IsTripKept s (off_step s event m).next
kept-off s (events.Up second) m off kept = kept-came s second m off kept
kept-off s event m off kept = kept

kept-in : (s : Setting) (operating : Operating) (event : Event) (m : Meter) → m.operating ≡ operating → IsTripKept s m
    → IsTripKept s (step_in s operating event m).next
kept-in s Off event m is kept = kept-off s event m is kept
kept-in s ForHire event m is kept = kept-powered s event m (λ off. absurd cc) kept
kept-in s Hired event m is kept = kept-powered s event m (λ off. absurd cc) kept
kept-in s Stopped event m is kept = kept-powered s event m (λ off. absurd cc) kept

-- each event keeps the trip of the store
pub kept-step : (s : Setting) (event : Event) (m : Meter) → IsTripKept s m → IsTripKept s (step s event m).next
kept-step s event m kept = kept-in s m.operating event m refl kept

kept-ended_in : (s : Setting) (operating : Operating) (m : Meter) → m.operating ≡ operating → IsTripKept s m
    → IsTripKept s (ended_in s operating m).next
kept-ended_in s Off m is kept = kept
kept-ended_in s ForHire m is kept = kept-dropped s m (λ off. absurd cc) kept
kept-ended_in s Hired m is kept = kept-dropped s m (λ off. absurd cc) kept
kept-ended_in s Stopped m is kept = kept-dropped s m (λ off. absurd cc) kept

-- and so does the drop at the end
pub kept-ended : (s : Setting) (m : Meter) → IsTripKept s m → IsTripKept s (ended s m).next
kept-ended s m kept = kept-ended_in s m.operating m refl kept
