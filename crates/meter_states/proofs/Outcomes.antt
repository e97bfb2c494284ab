-- How stages that follow one another join, and which cores meet the outcome of an event.
use Rattle.std.proofs.Common.{[], ℕ, ◌∙◌, ◌∷◌, ◌≡◌, ◌≢◌, ◌⊎◌, List, None, Option, Some, ap, append-nil, append_assoc}
use Rattle.{std.proofs.Common.{inl, inr, option_map, refl, subst, sym}, meter_model.specs.Supply.{supply_dropped}}
use Rattle.{taxi_units.specs.declared.event.Event.TheVariants.{Clock, Down, Key, Up}, meter_model.specs.Step.{off_step}}
use Rattle.meter_states.specs.Common.{◌>>=◌, Act, CoreTrip, Event, ForHire, Hired, Meter, NotNow, Off, Operating}
use Rattle.meter_states.specs.Common.{Outcome, Pulses, Refuse, Setting, Stopped, TableParts, Tick, core_trip_of}
use Rattle.meter_states.specs.Common.{fare_shown, powered_step, quiet, roaming_between, step, step_in}
use Rattle.meter_states.{specs.Core.{ComesToOutcome, CoreData, Meets, Stands, core_of}, proofs.Powered.{stands-on}}
use Rattle.meter_states.specs.Lawful.{HasTrip, IsBetweenEvents, IsPowered}
use Rattle.meter_model.specs.Trip as model

pub not_off : (operating : Operating) (trip : Option CoreTrip) → HasTrip operating trip → operating ≢ Off
not_off operating trip has = λ is. subst (λ (o : Operating). HasTrip o trip) is has

pub follows-meets : (s : Setting) (p : TableParts) (ticks most spare : ℕ) (core : CoreData)
    (acts : List Act) (o : Outcome)
    → IsPowered p ticks most spare core → ComesToOutcome s core [] acts o → Meets s core acts o
follows-meets s p ticks most spare core acts o on f =
    let same : core.operating ≡ o.next.operating = ap (λ (c : CoreData). c.operating) f.state in
    record { state = inr ((λ is. not_off core.operating core.trip on.on (same ∙ is)), f.state); done = f.done }

-- an event of a powered meter, whose acts begin the list
pub follows-event : (s : Setting) (p : TableParts) (core : CoreData) (before acts : List Act) (event e : Event)
    (m : Meter) → event ≡ e → before ≡ [] → IsBetweenEvents p core
    → ComesToOutcome s core before acts (powered_step s e m)
    → Meets s core acts (powered_step s event m)
follows-event s p core before acts event e m is none on f =
    let first = subst (λ (l : List Act). ComesToOutcome s core l acts (powered_step s e m)) none f in
    subst (λ (x : Event). Meets s core acts (powered_step s x m)) (sym is)
    (follows-meets s p 8639999 roaming_between 0 core acts (powered_step s e m) on first)

-- a drop of the supply turns the meter off
pub dropped-meets : (s : Setting) (core : CoreData) (acts : List Act) (event : Event) (m : Meter) → event ≡ Down
    → core.operating ≡ Off → acts ≡ (supply_dropped s m).acts → Meets s core acts (powered_step s event m)
dropped-meets s core acts event m is off done =
    let here : Meets s core acts (powered_step s Down m) = record { state = inl (off, refl); done = done } in
    subst (λ (x : Event). Meets s core acts (powered_step s x m)) (sym is) here

off-refuses : (s : Setting) (core : CoreData) (acts : List Act) (event : Event) (m : Meter)
    → ((second : ℕ) → event ≢ Up second) → acts ≡ Refuse NotNow ∷ [] → Stands s core m
    → Meets s core acts (off_step s event m)
off-refuses s core acts (Up second) m other done stands = absurd (other second refl)
off-refuses s core acts Down m other done stands = record { state = stands; done = done }
off-refuses s core acts (Pulses n) m other done stands = record { state = stands; done = done }
off-refuses s core acts Tick m other done stands = record { state = stands; done = done }
off-refuses s core acts (Clock second) m other done stands = record { state = stands; done = done }
off-refuses s core acts (Key key) m other done stands = record { state = stands; done = done }

powered-in : (s : Setting) (event : Event) (operating : Operating) (new : CoreData) (acts : List Act) (m : Meter)
    → (operating ≡ Off → ⊥) → Meets s new acts (powered_step s event m)
    → Meets s new acts (step_in s operating event m)
powered-in s event Off new acts m on meets = absurd (on refl)
powered-in s event ForHire new acts m on meets = meets
powered-in s event Hired new acts m on meets = meets
powered-in s event Stopped new acts m on meets = meets

-- at a meter that is off each event but the coming of the supply is refused
pub off-meets : (s : Setting) (core : CoreData) (acts : List Act) (event : Event) (m : Meter) → core.operating ≡ Off
    → ((second : ℕ) → event ≢ Up second) → acts ≡ Refuse NotNow ∷ [] → Stands s core m
    → Meets s core acts (step s event m)
off-meets s core acts event m off other done (inl both) =
    subst (λ (o : Operating). Meets s core acts (step_in s o event m)) (sym both.1)
    (off-refuses s core acts event m other done (inl both))
off-meets s core acts event m off other done (inr on) =
    absurd (on.0 (sym (ap (λ (c : CoreData). c.operating) on.1) ∙ off))

-- an event of a meter that is on is one of a powered meter
pub on-meets : (s : Setting) (core new : CoreData) (acts : List Act) (event : Event) (m : Meter)
    → (core.operating ≡ Off → ⊥) → (core ≡ core_of s m → Meets s new acts (powered_step s event m)) → Stands s core m
    → Meets s new acts (step s event m)
on-meets s core new acts event m on meets stands =
    let same = stands-on s core m stands on in
    powered-in s event m.operating new acts m
    (λ off. on (ap (λ (c : CoreData). c.operating) same ∙ off)) (meets same)

-- one after the other
pub follows-then : (s : Setting) (first second : CoreData) (before between acts : List Act) (o : Outcome)
    (f : Meter → Outcome)
    → ComesToOutcome s first before between o → ComesToOutcome s second between acts (f o.next)
    → ComesToOutcome s second before acts (o >>= f)
follows-then s first second before between acts o f x y =
    record { state = y.state; done = rw x.done at y.done ∙ append_assoc before o.acts (f o.next).acts }

-- a stage that does nothing
pub quiet-follows : (s : Setting) (core : CoreData) (acts : List Act) (m : Meter) → core ≡ core_of s m
    → ComesToOutcome s core acts acts (quiet m)
quiet-follows s core acts m e = record { state = e; done = sym (append-nil acts) }

-- if the roaming pulses are none, the number doesn't matter
pub same-or : (L : Type 0) (a b n r : ℕ) → (L × (a ≡ b)) ⊎ (r ≡ 0) → b ≡ n → (a ≡ n) ⊎ (r ≡ 0)
same-or L a b n r (inl x) e = inl (x.1 ∙ e)
same-or L a b n r (inr y) e = inr y

-- a trip that the core has is that of the state
pub trip-saved : (s : Setting) (trip : Option model.MeterTrip) (x : CoreTrip)
    → option_map (core_trip_of s) trip ≡ Some x → (t : model.MeterTrip) × (trip ≡ Some t) × (x ≡ core_trip_of s t)
trip-saved s None x e = absurd cc
trip-saved s (Some t) x e = (t, refl, cc)

pub fare-none : (s : Setting) (trip : Option model.MeterTrip) → option_map (core_trip_of s) trip ≡ None
    → 0 ≡ fare_shown s trip
fare-none s None e = refl
fare-none s (Some t) e = absurd cc
