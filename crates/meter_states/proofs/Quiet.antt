-- Intervals at which nothing is done.
use Rattle.std.proofs.Common.{[], ℕ, ◌++◌, ◌+◌, ◌<◌, ◌∙◌, ◌∷◌, ◌≡◌, ◌≢◌, ◌≤◌, Bool, List, None, Option, Some, ap, arith}
use Rattle.std.proofs.Common.{false, if◌then◌else◌, nat_le, option_map, refl, subst, suc, sum, sym, true, zero}
use Rattle.{std.proofs.lemmas.Grind.{common_steps}, drive_modes.specs.Fare.{above_cover, quotient}}
use Rattle.{drive_modes.proofs.Laws.{shown-sum}, meter_model.specs.Display.{extras_shown, same_display}}
use Rattle.meter_model.{specs.ClosedTrip.{roaming_checked_in}, proofs.Laws.{above-more, run-append}}
use Rattle.{meter_model.specs.{Interval.{pulses_taken}, Setting.{rounding_of}}, meter_states.specs.Setting.{IsTariffOf}}
use Rattle.meter_states.specs.Common.{◌>>=◌, Act, CoreTrip, Display, Event, ForHire, Hired, Key, Meter, MeterTrip, Off}
use Rattle.meter_states.specs.Common.{Operating, Outcome, Rounding, Setting, Show, Stopped, TableParts, charges_of}
use Rattle.meter_states.specs.Common.{core_trip_of, counted_in, display_of, expired, expired_or_pressed, fare_by_fees}
use Rattle.meter_states.specs.Common.{fare_shown, interval_begun, is_shown, key_pressed, latch_pressed, longest_trip}
use Rattle.meter_states.specs.Common.{modulus_of, opening_of, powered_step, quiet, roaming_between, roaming_checked}
use Rattle.meter_states.specs.Common.{roaming_entered, roaming_most, run, saved, shown, step_in, steps_above, steps_of}
use Rattle.meter_states.{specs.Common.{ticked, ticks_so_far}, proofs.Settings.{decimals-is, rounding-is, step-is}}
use Rattle.meter_states.{specs.Core.{ComesToOutcome, CoreData, core_of}, proofs.Outcomes.{follows-then}}
use Rattle.meter_states.specs.Equals.{IsStill, display_by, extras_by, fare_by, interval_of, intervals_of}
use Rattle.drive_modes.specs.Fare as fares
use Rattle.taxi_units.specs.declared.event.Event.TheVariants as events

-- as many intervals as the cores that they lead through
pub intervals-follow : (s : Setting) (p k : ℕ) (f : ℕ → CoreData) (m : Meter)
    → ((i : ℕ) (n : Meter) → i < k → f i ≡ core_of s n → ComesToOutcome s (f (suc i)) [] [] (run s (interval_of p) n))
    → f 0 ≡ core_of s m → ComesToOutcome s (f k) [] [] (run s (intervals_of p k) m)
intervals-follow s p zero f m each e = record { state = e; done = refl }
intervals-follow s p (suc k) f m each e =
    let first = each 0 m (omega arith) e in
    let after = (run s (interval_of p) m).next in
    let others =
    intervals-follow s p k (λ i. f (suc i)) after (λ i n below is. each (suc i) n (omega arith) is) first.state in
    let both =
    follows-then s (f 1) (f (suc k)) [] [] [] (run s (interval_of p) m) (run s (intervals_of p k)) first others in
    subst (λ (o : Outcome). ComesToOutcome s (f (suc k)) [] [] o)
    (sym (run-append s (interval_of p) (intervals_of p k) m)) both

-- ---- a tick without acts

pub same-self : (d : Display) → same_display d d ≡ true
same-self d = grind (arith, common_steps)

roaming-few : (s : Setting) (operating : Operating) (n : Meter) → nat_le roaming_most (sum n.roaming) ≡ false
    → roaming_checked_in s operating n ≡ quiet n
roaming-few s Off n few = refl
roaming-few s ForHire n few = ap (λ (b : Bool). if b then roaming_entered s n else quiet n) few
roaming-few s Hired n few = refl
roaming-few s Stopped n few = refl

abbrev outcome : Meter → List Act → Outcome
outcome m acts = record { next = m; acts = acts }

shown-before : (s : Setting) (n : Meter) → n.shown ≡ Some (display_of s n) → shown s n ≡ quiet n
shown-before s n e =
    let d = display_of s n in
    let same : is_shown n.shown d ≡ true = ap (λ (x : Option Display). is_shown x d) e ∙ same-self d in
    let none : (if is_shown n.shown d then [] else Show d ∷ []) ≡ [] =
    ap (λ (b : Bool). if b then [] else Show d ∷ []) same in
    let first : shown s n ≡ quiet (record n { shown = Some d }) =
    ap (λ (acts : List Act). outcome (record n { shown = Some d }) acts) none in
    first ∙ ap (λ (x : Option Display). quiet (record n { shown = x })) (sym e)

-- a tick, from its end
abbrev after_checked : Setting → Meter → Outcome
after_checked s m = shown s m >>= interval_begun

abbrev after_pressed : Setting → Meter → Outcome
after_pressed s m = roaming_checked s m >>= after_checked s

tick-quiet : (s : Setting) (m n : Meter) → n ≡ counted_in s m.operating (sum m.taken) m → n.latch ≡ None
    → nat_le longest_trip (ticks_so_far n.trip) ≡ false → nat_le roaming_most (sum n.roaming) ≡ false
    → n.shown ≡ Some (display_of s n) → ticked s m ≡ quiet (record n { began = n.clock })
tick-quiet s m n is latch short few same =
    let pressed-none : expired_or_pressed s n ≡ quiet n = ap (λ (b : Bool). if b then expired s n else key_pressed s n)
    short ∙ ap (λ (l : Option Key). latch_pressed s l n) latch in
    let roamed-none : roaming_checked s n ≡ quiet n = roaming-few s n.operating n few in
    ap (λ (x : Meter). expired_or_pressed s x >>= after_pressed s) (sym is)
    ∙ ap (λ (o : Outcome). o >>= after_pressed s) pressed-none
    ∙ ap (λ (o : Outcome). o >>= after_checked s) roamed-none
    ∙ ap (λ (o : Outcome). o >>= interval_begun) (shown-before s n same)

-- ---- an interval without acts

step-on : (s : Setting) (operating : Operating) (event : Event) (m : Meter) → operating ≢ Off
    → step_in s operating event m ≡ powered_step s event m
step-on s Off event m on = absurd (on refl)
step-on s ForHire event m on = refl
step-on s Hired event m on = refl
step-on s Stopped event m on = refl

pulses-quiet : (p : ℕ) (m : Meter) → p ≤ 2000 → sum m.taken ≡ 0
    → pulses_taken p m ≡ quiet (record m { taken = m.taken ++ p ∷ [] })
pulses-quiet p m few none = grind (arith, common_steps)

taken-away : (s : Setting) (operating : Operating) (p : ℕ) (m : Meter) (taken : List ℕ) → operating ≢ Off
    → counted_in s operating p m ≡ counted_in s operating p (record m { taken = taken })
taken-away s Off p m taken on = absurd (on refl)
taken-away s ForHire p m taken on = refl
taken-away s Hired p m taken on = refl
taken-away s Stopped p m taken on = refl

counted-more : (s : Setting) (operating : Operating) (p : ℕ) (m : Meter) → operating ≢ Off → sum m.taken ≡ 0
    → counted_in s operating p m
    ≡ counted_in s operating (sum (m.taken ++ p ∷ [])) (record m { taken = m.taken ++ p ∷ [] })
counted-more s operating p m on none =
    let all : p ≡ sum (m.taken ++ p ∷ []) = grind (arith, common_steps) in
    ap (λ (q : ℕ). counted_in s operating q m) all
    ∙ taken-away s operating (sum (m.taken ++ p ∷ [])) m (m.taken ++ p ∷ []) on

interval-quiet : (s : Setting) (p : ℕ) (m n : Meter) → m.operating ≢ Off → p ≤ 2000 → sum m.taken ≡ 0
    → n ≡ counted_in s m.operating p m → n.latch ≡ None → nat_le longest_trip (ticks_so_far n.trip) ≡ false
    → nat_le roaming_most (sum n.roaming) ≡ false → n.shown ≡ Some (display_of s n)
    → run s (interval_of p) m ≡ quiet (record n { began = n.clock })
interval-quiet s zero m n on most none is latch short few same =
    ap (λ (o : Outcome). o >>= run s [])
    (step-on s m.operating events.Tick m on
    ∙ tick-quiet s m n (is ∙ ap (λ (q : ℕ). counted_in s m.operating q m) (sym none)) latch short few same)
interval-quiet s (suc p) m n on most none is latch short few same =
    let more = record m { taken = m.taken ++ suc p ∷ [] } in
    ap (λ (o : Outcome). o >>= run s (events.Tick ∷ []))
    (step-on s m.operating (events.Pulses (suc p)) m on ∙ pulses-quiet (suc p) m most none)
    ∙ ap (λ (o : Outcome). o >>= run s []) (step-on s m.operating events.Tick more on
    ∙ tick-quiet s more n (is ∙ counted-more s m.operating (suc p) m on none) latch short few same)

-- ---- at a core

-- the display steps of a meterage that was saved
steps-saved : (r : Rounding) (o : fares.Opening) (charged : ℕ) → 0 < o.modulus
    → steps_of r (saved o charged) ≡ steps_above r o charged
steps-saved r o charged some =
    let m = saved o charged in
    let all : charged + 0 ≡ charged = omega arith in
    (shown-sum 0 0 0 o.modulus r m [] (omega arith)).0
    ∙ ap (λ (n : ℕ). quotient r n o.modulus) (above-more o charged 0 ∙ ap (above_cover o) all)

fare-by : (s : Setting) (p : TableParts) (trip : Option MeterTrip) → IsTariffOf s p → 0 < modulus_of s
    → fare_by p (option_map (core_trip_of s) trip) ≡ fare_shown s trip
fare-by s p None is some = refl
fare-by s p (Some t) is some =
    let kept = (core_trip_of s t).meterage in
    ap (λ (n : ℕ). fare_by_fees t.fees n (steps_of p.rounding kept)) (step-is s p is)
    ∙ ap (λ (r : Rounding). fare_by_fees t.fees s.tariff.step.0 (steps_of r kept)) (rounding-is s p is)
    ∙ ap (fare_by_fees t.fees s.tariff.step.0)
    (steps-saved (rounding_of s) (opening_of s t) (charges_of s t) some)

extras-by : (s : Setting) (trip : Option MeterTrip) → extras_by (option_map (core_trip_of s) trip) ≡ extras_shown s trip
extras-by s None = refl
extras-by s (Some t) = refl

display-by : (s : Setting) (p : TableParts) (m : Meter) → IsTariffOf s p → 0 < modulus_of s
    → display_by p (core_of s m) ≡ display_of s m
display-by s p m is some =
    let fare = fare-by s p m.trip is some in
    let extras = extras-by s m.trip in
    let decimals = decimals-is s p is in
    cc

abbrev pub ticks_by : Option CoreTrip → ℕ
ticks_by None = 0
ticks_by (Some t) = t.ticks

ticks-by : (s : Setting) (trip : Option MeterTrip) → ticks_by (option_map (core_trip_of s) trip) ≡ ticks_so_far trip
ticks-by s None = refl
ticks-by s (Some t) = refl

below-false : (most n : ℕ) → n < most → nat_le most n ≡ false
below-false most n below = grind (arith, common_steps)

-- an interval that leads from a still core to a still core
pub interval-follows : (s : Setting) (tables : TableParts) (p : ℕ) (m : Meter) (d : CoreData) → IsTariffOf s tables
    → 0 < modulus_of s → m.operating ≢ Off → sum m.taken ≡ 0 → p ≤ 2000 → IsStill tables d → ticks_by d.trip ≤ 8639999
    → d.roam ≤ roaming_between
    → d ≡ core_of s (record (counted_in s m.operating p m) { began = (counted_in s m.operating p m).clock })
    → ComesToOutcome s d [] [] (run s (interval_of p) m)
interval-follows s tables p m d is some on none most still short few e =
    let n = counted_in s m.operating p m in
    let latch : n.latch ≡ None = sym (ap (λ (c : CoreData). c.latch) e) ∙ still.latch in
    let ticks : d.trip ≡ option_map (core_trip_of s) n.trip = ap (λ (c : CoreData). c.trip) e in
    let so_far : ticks_by d.trip ≡ ticks_so_far n.trip = ap ticks_by ticks ∙ ticks-by s n.trip in
    let roam : d.roam ≡ sum n.roaming = ap (λ (c : CoreData). c.roam) e in
    let same : n.shown ≡ Some (display_of s n) = sym (ap (λ (c : CoreData). c.shown) e) ∙ still.shown ∙ ap
    (λ (c : CoreData). Some (display_by tables c)) e ∙ ap (λ (x : Display). Some x) (display-by s tables n is some) in
    let quiet-is = interval-quiet s p m n on most none refl latch (below-false longest_trip (ticks_so_far n.trip)
    (omega (arith, so_far, short))) (below-false roaming_most (sum n.roaming) (omega (arith, roam, few))) same in
    let done : [] ≡ (run s (interval_of p) m).acts = sym (ap (λ (o : Outcome). o.acts) quiet-is) in
    record { state = e ∙ ap (λ (o : Outcome). core_of s o.next) (sym quiet-is); done = done }
