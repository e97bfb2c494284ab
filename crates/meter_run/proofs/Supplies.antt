-- The supply behind events: a meter is off without it, and the steps of a drive with the supply drop at its end.
use Rattle.std.proofs.Common.{[], ℕ, ◌*◌, ◌+◌, ◌∙◌, ◌∷◌, ◌≡◌, ◌≢◌, ◌≤◌, Bool, List, None, ap, arith, false, inl, inr}
use Rattle.std.proofs.{Common.{length, refl, subst, suc, sym, true, zero}, lemmas.Bool.{ne_eqb}}
use Rattle.meter_run.{specs.{BetweenEvents.{StandsWith}, OnStore.{IsMeterReadyOn}}, proofs.SupplyDrop.{begins, off_of}}
use Rattle.meter_run.specs.Common.{Act, CachedCore, Clock, CoreData, Down, Durable, Event, ForHire, Ghosts, Hired}
use Rattle.meter_run.specs.Common.{IsSettingOf, Key, Meets, Meter, Off, Operating, Outcome, Pulses, Seal, Setting}
use Rattle.meter_run.specs.Common.{Stands, Stop, Stopped, StoreMeter, TableParts, Tick, Up, events_in, first_state}
use Rattle.meter_run.specs.Common.{interval_events, intervals_events, opened, run, step, step_in}
use Rattle.meter_run.specs.{Drives.{BreaksDrive, IsBoundedByDrive, TakesDrive}, Dry.{CarriesEvents, IsMeterReady}}
use Rattle.meter_run.specs.{Supply.{StaysOff, drop_steps, is_supplied, is_supplied_after}, SupplyLaws.{supplied_joined}}
use Rattle.meter_run.{specs.declared.dry.DryMeter.{DryMeter}, proofs.EventOnStore.{refused_event, unknown_off}}

never : true ≡ false → ⊥
never is = absurd cc

-- ---- the meter

-- a meter whose supply drops is off
dropped_off : (s : Setting) (o : Operating) (m : Meter) → m.operating ≡ o → (step_in s o Down m).next.operating ≡ Off
dropped_off s Off m is = is
dropped_off s ForHire m is = refl
dropped_off s Hired m is = refl
dropped_off s Stopped m is = refl

-- a meter that is off refuses what isn't the coming of the supply
stays_off : (s : Setting) (event : Event) (m : Meter) → m.operating ≡ Off → ((second : ℕ) → event ≢ Up second)
    → (step s event m).next.operating ≡ Off
stays_off s event m off other =
    ap (λ (o : Outcome). o.next.operating) (refused_event s event m off other) ∙ off

pub off_after : (s : Setting) (event : Event) (m : Meter) (before : Bool) → (before ≡ false → m.operating ≡ Off)
    → is_supplied_after before event ≡ false → (step s event m).next.operating ≡ Off
off_after s (Up second) m before off none = absurd (never none)
off_after s Down m before off none = dropped_off s m.operating m refl
off_after s (Pulses count) m before off none = stays_off s (Pulses count) m (off none) (λ second is. absurd cc)
off_after s Tick m before off none = stays_off s Tick m (off none) (λ second is. absurd cc)
off_after s (Clock second) m before off none = stays_off s (Clock second) m (off none) (λ second' is. absurd cc)
off_after s (Key key) m before off none = stays_off s (Key key) m (off none) (λ second is. absurd cc)

pub off_behind : (s : Setting) (events : List Event) (m : Meter) (before : Bool) → (before ≡ false → m.operating ≡ Off)
    → is_supplied before events ≡ false → (run s events m).next.operating ≡ Off
off_behind s [] m before off none = off none
off_behind s (event ∷ events) m before off none =
    off_behind s events (step s event m).next (is_supplied_after before event) (off_after s event m before off) none

-- ---- the core

-- the core of a state that is off is off
core_off : (s : Setting) (core : CoreData) (m : Meter) → Stands s core m → m.operating ≡ Off → core.operating ≡ Off
core_off s core m (inl both) off = both.0
core_off s core m (inr on) off = absurd (on.0 off)

-- an event keeps a core off without the supply
pub event_keeps_off : (tables : TableParts) (seal : Seal) (event : Event) (core core' : CachedCore) (d : Durable)
    (acts : List Act) → IsMeterReady tables seal core d
    → ((s : Setting) (m : Meter) → IsSettingOf s tables seal → StandsWith s core.state d m
    → Meets s core'.state acts (step s event m))
    → StaysOff core.state (event ∷ []) core'.state
event_keeps_off tables seal event core core' d acts ready meets =
    λ before off none.
    let way = ready.way in
    let s = way.setting in
    let m = way.meter in
    core_off s core'.state (step s event m).next (meets s m way.is way.stands).state
    (off_after s event m before (λ unsupplied. off_of s core m way.stands.core (off unsupplied)) none)

-- behind the coming of the supply it is there
pub supply_keeps : (core core' : CoreData) (event : Event) (second : ℕ) → event ≡ Up second
    → StaysOff core (event ∷ []) core'
supply_keeps core core' event second is =
    subst (λ (e : Event). StaysOff core (e ∷ []) core') (sym is) (λ before off none. absurd cc)

-- a core that is off, and left as it was, is off
pub unknown_keeps_off : {D L : Type 0} {N : ℕ} (B : Ghosts D N L) (tables : TableParts) (seal : Seal) (x : StoreMeter)
    (a : D)
    (events : List Event) → x.known ≡ None → IsMeterReadyOn B tables seal x a
    → StaysOff x.core.state events x.core.state
unknown_keeps_off B tables seal x a events unknown ready =
    λ before off none. unknown_off B tables seal x a unknown ready

-- ---- equal intervals

interval_keeps : (p : ℕ) (before : Bool) → is_supplied before (interval_events p) ≡ before
interval_keeps zero before = refl
interval_keeps (suc p) before = rw (ne_eqb (suc p) 0 (λ none. absurd cc)) refl

intervals_keep : (p n : ℕ) (before : Bool) → is_supplied before (intervals_events p n) ≡ before
intervals_keep p zero before = refl
intervals_keep p (suc n) before =
    supplied_joined before (interval_events p) (intervals_events p n)
    ∙ ap (λ (b : Bool). is_supplied b (intervals_events p n)) (interval_keeps p before) ∙ intervals_keep p n before

pub equal_keep_off : (old new : CoreData) (p n : ℕ) → new.operating ≡ old.operating
    → StaysOff old (intervals_events p n) new
equal_keep_off old new p n same = λ before off none. same ∙ off (sym (intervals_keep p n before) ∙ none)

-- ---- a drive

-- a dry meter that began is off behind events without the supply
pub dry_off : {D L : Type 0} {N : ℕ} (B : Ghosts D N L) (tables : TableParts) (seal : Seal) (x : DryMeter) (a : D)
    (y : DryMeter)
    (b : D) (events : List Event) → IsMeterReady tables seal y.core y.durable → x.core.state.operating ≡ Off
    → x.durable ≡ first_state → CarriesEvents B tables seal x a events y b → is_supplied false events ≡ false
    → y.core.state.operating ≡ Off
dry_off B tables seal x a y b events ready off first carried none =
    let s = ready.way.setting in
    let m = opened s first_state in
    core_off s y.core.state (run s events m).next
    (carried.stands s m ready.way.is (begins s x.core x.durable off first)).core
    (off_behind s events m false (λ unsupplied. refl) none)

-- a drive of so many events, and then the drop, which takes nothing without the supply
drop_bounded : (events : List Event) (n before mid now : ℕ) → mid ≤ before + 64 * n → now ≤ mid + 64
    → (is_supplied false events ≡ false → now ≡ mid) → now ≤ before + 0 + 64 * n + drop_steps events
drop_bounded events n before mid now first most idle = by (is_supplied false events) refl
  where
    by : (supplied : Bool) → is_supplied false events ≡ supplied → now ≤ before + 0 + 64 * n + drop_steps events
    by true is = let drops : drop_steps events ≡ 64 = rw is refl in omega (arith, first, most, drops)
    by false is = let none : now ≡ mid = idle is in omega (arith, first, none)

pub drop_whole : {told : Type 0} {drive left : List ℕ} {stop : Stop} {carried : List Event → Type 0} {before mid : ℕ}
    (now : ℕ) (h : TakesDrive told drive left stop carried before mid) → now ≤ mid + 64
    → (carried (events_in h.taken) → is_supplied false (events_in h.taken) ≡ false → now ≡ mid)
    → IsBoundedByDrive 0 told drive left before now
drop_whole {before = before} {mid = mid} now h most idle = record {
  taken = h.taken;
  few = h.few;
  split = h.split;
  bound = drop_bounded (events_in h.taken) (length (events_in h.taken)) before mid now h.bounded most (idle h.carried);
}

-- without the drop
pub broken_whole : {told : Type 0} {drive left : List ℕ} {broken : List Event → Type 0} {before now : ℕ}
    → BreaksDrive told drive left broken before now → IsBoundedByDrive 0 told drive left before now
broken_whole h = record { taken = h.taken; few = h.few; split = h.split; bound = omega (arith, h.bounded) }
