-- What a drop of the supply and its coming do in each case.
use Rattle.std.proofs.Common.{ℕ, ◌<◌, ◌∙◌, ◌≡◌, ◌≤◌, None, Option, Some, ap, arith, false, option_map, refl, sum, true}
use Rattle.{std.proofs.lemmas.Grind.{common_steps}, meter_model.specs.{Meter.{held}, Trip.{held_trip}}}
use Rattle.meter_model.specs.Supply.{aborted, held_or_closed, is_stopped, is_within_hold, resumed, trip_held_or_closed}
use Rattle.meter_states.specs.Common.{Aborted, IsHeld, IsSecond, Meter, MeterTrip, Roam, Setting, Trip, closed}
use Rattle.meter_states.specs.Common.{core_trip_of, hold_taken, last_number, quiet, roaming_entered}

pub aborted-closes : Aborted ≡ Roam → ⊥
aborted-closes is = cc

roams-some : (s : Setting) (m : Meter) → 0 < sum m.roaming → held_or_closed s None m ≡ roaming_entered s m
roams-some s m some = grind (arith, common_steps)

roams-none : (s : Setting) (m : Meter) → sum m.roaming ≤ 0 → held_or_closed s None m ≡ quiet m
roams-none s m none = grind (arith, common_steps)

pub kept-roams : (s : Setting) (m : Meter) (trip : Option MeterTrip) → option_map (core_trip_of s) trip ≡ None
    → 0 < sum m.roaming → held_or_closed s trip m ≡ roaming_entered s m
kept-roams s m None e some = roams-some s m some
kept-roams s m (Some t) e some = absurd cc

pub kept-quiet : (s : Setting) (m : Meter) (trip : Option MeterTrip) → option_map (core_trip_of s) trip ≡ None
    → sum m.roaming ≤ 0 → held_or_closed s trip m ≡ quiet m
kept-quiet s m None e none = roams-none s m none
kept-quiet s m (Some t) e none = absurd cc

trip-held : (s : Setting) (m : Meter) (t : MeterTrip) → m.durable.number < last_number
    → trip_held_or_closed s t m ≡ held (held_trip s m.clock (is_stopped m.operating) m.position m.zone t) m
trip-held s m t few = grind (arith, common_steps)

trip-closed : (s : Setting) (m : Meter) (t : MeterTrip) → last_number ≤ m.durable.number
    → trip_held_or_closed s t m ≡ closed s Aborted m.clock m
trip-closed s m t many = grind (arith, common_steps)

pub kept-held : (s : Setting) (m : Meter) (t : MeterTrip) → m.trip ≡ Some t → m.durable.number < last_number
    → held_or_closed s m.trip m ≡ held (held_trip s m.clock (is_stopped m.operating) m.position m.zone t) m
kept-held s m t is few = ap (λ (o : Option MeterTrip). held_or_closed s o m) is ∙ trip-held s m t few

pub kept-closed : (s : Setting) (m : Meter) (t : MeterTrip) → m.trip ≡ Some t → last_number ≤ m.durable.number
    → held_or_closed s m.trip m ≡ closed s Aborted m.clock m
kept-closed s m t is many = ap (λ (o : Option MeterTrip). held_or_closed s o m) is ∙ trip-closed s m t many

pub hold-resumed : (s : Setting) (second : ℕ) (h : Trip) (m : Meter) → is_within_hold s second h ≡ true
    → hold_taken s second (Some h) m ≡ resumed h m
hold-resumed s second h m within = rw within refl

pub hold-aborted : (s : Setting) (second : ℕ) (h : Trip) (m : Meter) → is_within_hold s second h ≡ false
    → hold_taken s second (Some h) m ≡ aborted s h m
hold-aborted s second h m late = rw late refl

-- a held trip was saved at a second, and began by then
pub held-second : {number : ℕ} {h : Trip} → IsHeld number h → IsSecond h.saved
held-second held = (omega (arith, held.ranges.started, held.ranges.saved), held.ranges.saved.1)

pub begun-by : {number clock second : ℕ} {h : Trip} → IsHeld number h → h.saved ≤ second → clock ≡ second
    → h.started ≤ clock
begun-by held later is = omega (arith, held.ranges.saved, later, is)
