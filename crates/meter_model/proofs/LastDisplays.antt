-- What was shown last is the display of a state that keeps its trip.
use Rattle.std.proofs.Common.{[], ℕ, ◌∷◌, ◌≡◌, ◌≢◌, List, Option, Some, arith, refl, subst, sym}
use Rattle.{std.proofs.lemmas.Grind.{common_steps}, meter_model.specs.Supply.{supply_came, supply_dropped}}
use Rattle.meter_model.specs.{Common.{Display, Event, ForHire, Hired, Off, Operating, Stopped}, KeptTrip.{IsTripKept}}
use Rattle.meter_model.specs.{Display.{display_of}, LastShown.{IsOfMeter}, Meter.{Meter}, Run.{run}, Setting.{Setting}}
use Rattle.meter_model.{specs.Step.{off_step, powered_step, step, step_in, ticked}, proofs.KeptTrips.{kept-step}}
use Rattle.taxi_units.specs.declared.event.Event.TheVariants as events

-- a display that the state behind an event shows
of-next : (s : Setting) (m : Meter) → IsTripKept s m → m.shown ≡ Some (display_of s m) → IsOfMeter s m.shown
of-next s m kept is = subst (IsOfMeter s) (sym is) (m, kept, refl)

-- one that was left as it was
of-last : (s : Setting) (old new : Option Display) → new ≡ old → IsOfMeter s old → IsOfMeter s new
of-last s old new same is = subst (IsOfMeter s) (sym same) is

ticked-shows : (s : Setting) (m : Meter) → (ticked s m).next.shown ≡ Some (display_of s (ticked s m).next)
ticked-shows s m = refl

came-shows : (s : Setting) (second : ℕ) (m : Meter)
    → (supply_came s second m).next.shown ≡ Some (display_of s (supply_came s second m).next)
came-shows s second m = refl

dropped-leaves : (s : Setting) (m : Meter) → (supply_dropped s m).next.shown ≡ m.shown
dropped-leaves s m = grind (arith, common_steps)

powered-leaves : (s : Setting) (event : Event) (m : Meter) → event ≢ events.Tick
    → (powered_step s event m).next.shown ≡ m.shown
powered-leaves s events.Tick m other = absurd (other refl)
powered-leaves s events.Down m other = dropped-leaves s m
powered-leaves s (events.Up second) m other = refl
powered-leaves s (events.Pulses n) m other = grind (arith, common_steps)
powered-leaves s (events.Clock second) m other = grind (arith, common_steps)
powered-leaves s (events.Key key) m other = grind (arith, common_steps)

last-powered : (s : Setting) (event : Event) (m : Meter) → IsTripKept s (powered_step s event m).next
    → IsOfMeter s m.shown → IsOfMeter s (powered_step s event m).next.shown
last-powered s events.Tick m kept is = of-next s (ticked s m).next kept (ticked-shows s m)
last-powered s events.Down m kept is = of-last s m.shown _ (powered-leaves s events.Down m (λ tick. absurd cc)) is
last-powered s (events.Up second) m kept is =
    of-last s m.shown _ (powered-leaves s (events.Up second) m (λ tick. absurd cc)) is
last-powered s (events.Pulses n) m kept is =
    of-last s m.shown _ (powered-leaves s (events.Pulses n) m (λ tick. absurd cc)) is
last-powered s (events.Clock second) m kept is =
    of-last s m.shown _ (powered-leaves s (events.Clock second) m (λ tick. absurd cc)) is
last-powered s (events.Key key) m kept is =
    of-last s m.shown _ (powered-leaves s (events.Key key) m (λ tick. absurd cc)) is

last-off : (s : Setting) (event : Event) (m : Meter) → IsTripKept s (off_step s event m).next
    → IsOfMeter s m.shown → IsOfMeter s (off_step s event m).next.shown
last-off s (events.Up second) m kept is = of-next s (supply_came s second m).next kept (came-shows s second m)
last-off s event m kept is = is

last-in : (s : Setting) (operating : Operating) (event : Event) (m : Meter)
    → IsTripKept s (step_in s operating event m).next → IsOfMeter s m.shown
    → IsOfMeter s (step_in s operating event m).next.shown
last-in s Off event m kept is = last-off s event m kept is
last-in s ForHire event m kept is = last-powered s event m kept is
last-in s Hired event m kept is = last-powered s event m kept is
last-in s Stopped event m kept is = last-powered s event m kept is

-- each event leaves it so
pub last-step : (s : Setting) (event : Event) (m : Meter) → IsTripKept s m → IsOfMeter s m.shown
    → IsOfMeter s (step s event m).next.shown
last-step s event m kept is = last-in s m.operating event m (kept-step s event m kept) is

-- and so does a run
pub last-run : (s : Setting) (events : List Event) (m : Meter) → IsTripKept s m → IsOfMeter s m.shown
    → IsOfMeter s (run s events m).next.shown
last-run s [] m kept is = is
last-run s (event ∷ events) m kept is =
    last-run s events (step s event m).next (kept-step s event m kept) (last-step s event m kept is)
