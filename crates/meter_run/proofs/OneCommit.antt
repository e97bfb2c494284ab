-- An event commits at most once.
use Rattle.std.proofs.Common.{[], ℕ, ◌+◌, ◌<◌, ◌∙◌, ◌≡◌, ◌≢◌, ◌≤◌, arith, refl, suc, sym, zero}
use Rattle.{std.proofs.lemmas.Grind.{common_steps}, meter_model.specs.Step.{expired_or_pressed, powered_step, ticked}}
use Rattle.meter_model.specs.{ClosedTrip.{roaming_checked}, Interval.{interval_begun, interval_counted}, Meter.{◌>>=◌}}
use Rattle.{meter_model.specs.Supply.{supply_dropped}, meter_run.specs.Common.{step_in, supply_came}}
use Rattle.meter_run.{specs.{BetweenEvents.{IsTripKept}, Commits.{commits_in}}, proofs.CommittedStates.{commits_append}}
use Rattle.meter_run.specs.Common.{Event, ForHire, Hired, Meter, Off, Operating, Outcome, Setting, Stopped, shown, step}
use Rattle.taxi_units.specs.declared.event.Event.TheVariants as events

-- ---- a tick

-- what is left of a tick after a key has acted
abbrev after_key : Setting → Meter → Outcome
after_key s m = roaming_checked s m >>= (λ m. shown s m >>= (λ m. interval_begun m))

pressed_once : (s : Setting) (m : Meter) → commits_in (expired_or_pressed s m).acts ≤ 1
pressed_once s m = grind (arith, common_steps)

-- a key that commits leaves no roaming pulses
pressed_none : (s : Setting) (m : Meter) → m.operating ≢ Off → IsTripKept s m
    → 0 < commits_in (expired_or_pressed s m).acts → (expired_or_pressed s m).next.roaming ≡ []
pressed_none s m on kept some = grind (arith, common_steps)

after_once : (s : Setting) (m : Meter) → commits_in (after_key s m).acts ≤ 1
after_once s m = grind (arith, common_steps)

after_none : (s : Setting) (m : Meter) → m.roaming ≡ [] → commits_in (after_key s m).acts ≡ 0
after_none s m none = grind (arith, common_steps)

counted_on : (s : Setting) (m : Meter) → (interval_counted s m).next.operating ≡ m.operating
counted_on s m = grind (arith, common_steps)

counted_kept : (s : Setting) (m : Meter) → IsTripKept s m → IsTripKept s (interval_counted s m).next
counted_kept s m kept = grind (arith, common_steps)

at_most_one : (a b : ℕ) → a ≤ 1 → b ≤ 1 → (0 < a → b ≡ 0) → a + b ≤ 1
at_most_one zero b few more none = omega arith
at_most_one (suc a) b few more none =
    let gone : b ≡ 0 = none (omega arith) in
    omega arith

once_ticked : (s : Setting) (m : Meter) → m.operating ≢ Off → IsTripKept s m → commits_in (ticked s m).acts ≤ 1
once_ticked s m on kept =
    let n = (interval_counted s m).next in
    let o = expired_or_pressed s n in
    let both : commits_in (ticked s m).acts ≡ commits_in o.acts + commits_in (after_key s o.next).acts =
    commits_append o.acts (after_key s o.next).acts in
    let still : n.operating ≢ Off = λ off. on (sym (counted_on s m) ∙ off) in
    let none : 0 < commits_in o.acts → commits_in (after_key s o.next).acts ≡ 0 =
    λ some. after_none s o.next (pressed_none s n still (counted_kept s m kept) some) in
    omega (
      arith,
      both,
      at_most_one (commits_in o.acts) (commits_in (after_key s o.next).acts) (pressed_once s n)
          (after_once s o.next) none,
    )

-- ---- the supply

once_dropped : (s : Setting) (m : Meter) → commits_in (supply_dropped s m).acts ≤ 1
once_dropped s m = grind (arith, common_steps)

once_came : (s : Setting) (second : ℕ) (m : Meter) → commits_in (supply_came s second m).acts ≤ 1
once_came s second m = grind (arith, common_steps)

-- ---- each event

once_powered : (s : Setting) (event : Event) (m : Meter) → m.operating ≢ Off → IsTripKept s m
    → commits_in (powered_step s event m).acts ≤ 1
once_powered s events.Tick m on kept = once_ticked s m on kept
once_powered s events.Down m on kept = once_dropped s m
once_powered s event m on kept = grind (arith, common_steps)

once_in : (s : Setting) (operating : Operating) (event : Event) (m : Meter) → m.operating ≡ operating → IsTripKept s m
    → commits_in (step_in s operating event m).acts ≤ 1
once_in s Off (events.Up second) m is kept = once_came s second m
once_in s Off event m is kept = omega arith
once_in s ForHire event m is kept = once_powered s event m (λ off. absurd cc) kept
once_in s Hired event m is kept = once_powered s event m (λ off. absurd cc) kept
once_in s Stopped event m is kept = once_powered s event m (λ off. absurd cc) kept

pub commits_once : (s : Setting) (event : Event) (m : Meter) → IsTripKept s m → commits_in (step s event m).acts ≤ 1
commits_once s event m kept = once_in s m.operating event m refl kept
