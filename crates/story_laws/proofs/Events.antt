-- What each event does to the trip, and what is seen behind it.
use Rattle.std.{specs.Prelude.{if◌then◌else◌, nat_le, nat_lt, sum}, proofs.Common.{refl, subst, sym, true}}
use Rattle.std.proofs.Common.{[], ℕ, ◌++◌, ◌-◌, ◌∙◌, ◌∷◌, ◌≡◌, Bool, List, None, Option, Some, ap, false, flat_map}
use Rattle.{std.proofs.lemmas.List.{append-nil, Elements.{filter_map-append}}, meter_model.specs.KeptTrip.{IsSavedIn}}
use Rattle.taxi_units.specs.{Limits.{last_number, roaming_most}, declared.event.Why.TheVariants.{TooFast}}
use Rattle.meter_model.specs.{ClosedTrip.{closed, roaming_checked, roaming_checked_in, roaming_entered}, Keys.{latched}}
use Rattle.{meter_model.specs.Display.{display_of, is_shown, shown}, verify_bench.specs.Story.{why_in}}
use Rattle.meter_model.specs.Interval.{interval_begun, interval_counted, interval_left, left_in, pulses_taken, room_of}
use Rattle.meter_model.specs.{Meter.{◌>>=◌}, Step.{clock_read, expired_or_pressed, off_step, powered_step, ticked}}
use Rattle.meter_model.specs.Supply.{aborted, held_or_closed, hold_taken, is_within_hold, powered, resumed, supply_came}
use Rattle.meter_model.specs.{Supply.{supply_dropped, turned_off}, declared.act.Act.TheVariants.{Refuse, Show}}
use Rattle.story_laws.specs.Common.{Act, Display, Event, ForHire, Happening, Hired, IsTripKept, IsTripKeptIn, Key}
use Rattle.story_laws.specs.Common.{Meter, MeterTrip, Off, Operating, Outcome, Receipt, Setting, Stopped, Trip, Why}
use Rattle.story_laws.specs.Common.{counted_in, display_in, display_told, displays_in, hired, is_in_trip, quiet}
use Rattle.story_laws.specs.Common.{receipt_in, receipts_in, step, step_in, trip_at, whys_in}
use Rattle.story_laws.proofs.Turns.{Ends, Stage, Turn, begins, interval_ends, stage_closed, stage_if, stage_then, still}
use Rattle.story_laws.proofs.Turns.{turn_then, turns}
use Rattle.taxi_units.specs.declared.event.Event.TheVariants as events
use Rattle.taxi_units.specs.declared.event.Key.TheVariants as keys
use Rattle.taxi_units.specs.declared.receipt.Kind.TheVariants as kinds

-- ---- what is seen

-- behind an outcome that isn't in a trip nothing is told of a display
abbrev pub Seen : Outcome → Type 0
Seen o = is_in_trip o.next.operating ≡ false → flat_map display_told (displays_in o.acts) ≡ []

told_out : (d : Display) → is_in_trip d.operating ≡ false → display_told d ≡ []
told_out d out = rw out refl

module _ (s : Setting) where
  seen_by : (b : Bool) (m : Meter) → is_in_trip m.operating ≡ false
      → flat_map display_told (displays_in (if b then [] else Show (display_of s m) ∷ [])) ≡ []
  seen_by true m out = refl
  seen_by false m out = ap (λ (l : List Happening). l ++ []) (told_out (display_of s m) out)

  seen_shown : (m : Meter) → is_in_trip m.operating ≡ false → flat_map display_told (displays_in (shown s m).acts) ≡ []
  seen_shown m out = seen_by (is_shown m.shown (display_of s m)) m out

  -- ---- the rest of a tick

  abbrev behind : Meter → Outcome
  behind m = roaming_checked s m >>= (λ (n : Meter). shown s n >>= interval_begun)

  pub record Same (m n : Meter) : Type 0 where
    pub trip : n.trip ≡ m.trip
    pub operating : n.operating ≡ m.operating
    pub clock : n.clock ≡ m.clock
    pub position : n.position ≡ m.position
    pub zone : n.zone ≡ m.zone

  record Roams (m : Meter) (o : Outcome) : Type 0 where
    pub same : Same m o.next
    pub receipts : receipts_in o.acts ≡ []
    pub displays : displays_in o.acts ≡ []
    pub whys : whys_in o.acts ≡ []

  roams_if : (b : Bool) (m : Meter) (o p : Outcome) → Roams m o → Roams m p → Roams m (if b then o else p)
  roams_if true m o p one other = one
  roams_if false m o p one other = other

  roams_still : (m n : Meter) (acts : List Act) → Same m n → receipts_in acts ≡ [] → displays_in acts ≡ []
      → whys_in acts ≡ [] → Roams m (record { next = n; acts = acts })
  roams_still m n acts same a b c = record { same = same; receipts = a; displays = b; whys = c }

  same_self : (m : Meter) → Same m m
  same_self m = record { trip = refl; operating = refl; clock = refl; position = refl; zone = refl }

  roams : (operating : Operating) (m : Meter) → Roams m (roaming_checked_in s operating m)
  roams Off m = roams_still m m [] (same_self m) refl refl refl
  roams ForHire m = roams_if (nat_le roaming_most (sum m.roaming)) m (roaming_entered s m) (quiet m)
      (record {
        same = record { trip = refl; operating = refl; clock = refl; position = refl; zone = refl };
        receipts = refl;
        displays = refl;
        whys = refl;
      })
      (roams_still m m [] (same_self m) refl refl refl)
  roams Hired m = roams_still m m [] (same_self m) refl refl refl
  roams Stopped m = roams_still m m [] (same_self m) refl refl refl

  no_receipt : (b : Bool) (d : Display) → receipts_in (if b then [] else Show d ∷ []) ≡ []
  no_receipt true d = refl
  no_receipt false d = refl

  no_why : (b : Bool) (d : Display) → whys_in (if b then [] else Show d ∷ []) ≡ []
  no_why true d = refl
  no_why false d = refl

  record Behind (m : Meter) (o : Outcome) : Type 0 where
    pub same : Same m o.next
    pub receipts : receipts_in o.acts ≡ []
    pub whys : whys_in o.acts ≡ []
    pub seen : is_in_trip m.operating ≡ false → flat_map display_told (displays_in o.acts) ≡ []

  is_behind : (m : Meter) → Behind m (behind m)
  is_behind m =
      let o = roaming_checked s m in
      let r = roams m.operating m in
      let n = o.next in
      let shows = (shown s n).acts in
      let b = is_shown n.shown (display_of s n) in
      record {
        same = record {
          trip = r.same.trip;
          operating = r.same.operating;
          clock = r.same.clock;
          position = r.same.position;
          zone = r.same.zone;
        };
        receipts = filter_map-append receipt_in o.acts (shows ++ [])
            ∙ (ap (λ (l : List Receipt). l ++ receipts_in (shows ++ [])) r.receipts
            ∙ (ap receipts_in (append-nil shows) ∙ no_receipt b (display_of s n)));
        whys = filter_map-append why_in o.acts (shows ++ [])
            ∙ (ap (λ (l : List Why). l ++ whys_in (shows ++ [])) r.whys
            ∙ (ap whys_in (append-nil shows) ∙ no_why b (display_of s n)));
        seen = λ out.
            ap (flat_map display_told) (filter_map-append display_in o.acts (shows ++ [])
            ∙ (ap (λ (l : List Display). l ++ displays_in (shows ++ [])) r.displays
            ∙ ap displays_in (append-nil shows)))
            ∙ seen_shown n (ap is_in_trip r.same.operating ∙ out);
      }

  -- ---- a tick

  -- a tick that hires
  pub record Hires (m : Meter) (o : Outcome) : Type 0 where
    pub free : m.operating ≡ ForHire
    pub waits : m.latch ≡ Some keys.Hire
    pub trip : o.next.trip ≡ (hired s (record (interval_counted s m).next { latch = None })).trip
    pub operating : o.next.operating ≡ Hired
    pub clock : o.next.clock ≡ (interval_counted s m).next.clock
    pub position : o.next.position ≡ (interval_counted s m).next.position
    pub zone : o.next.zone ≡ (interval_counted s m).next.zone
    pub receipts : receipts_in o.acts ≡ []
    pub whys : whys_in o.acts ≡ []

  -- what an event comes to
  pub data Comes (event : Event) (m : Meter) (o : Outcome) : Type 0 where
    turned : Turn s (trip_at s event m) o.next.trip (receipts_in o.acts) → Seen o → Comes event m o
    hires : event ≡ events.Tick → Hires m o → Comes event m o

  same_operating : (operating : Operating) (pulses : ℕ) (m : Meter)
      → (counted_in s operating pulses m).operating ≡ m.operating
  same_operating Off pulses m = refl
  same_operating ForHire pulses m = refl
  same_operating Hired pulses m = refl
  same_operating Stopped pulses m = refl

  same_latch : (operating : Operating) (pulses : ℕ) (m : Meter)
      → (counted_in s operating pulses m).latch ≡ m.latch
  same_latch Off pulses m = refl
  same_latch ForHire pulses m = refl
  same_latch Hired pulses m = refl
  same_latch Stopped pulses m = refl

  abbrev Tick : (m m1 : Meter) (o : Outcome) → Outcome
  Tick m m1 o = quiet m1 >>= (λ (n : Meter). o >>= behind)

  tick_comes : (m : Meter) (o : Outcome) → Ends s (interval_counted s m).next o
      → Comes events.Tick m (o >>= behind)
  tick_comes m o (turns stage) =
      let m1 = (interval_counted s m).next in
      let b = is_behind o.next in
      turned (turn_then s m1.trip o.next.trip (behind o.next).next.trip (receipts_in o.acts)
      (receipts_in (behind o.next).acts) _ stage.turn b.same.trip b.receipts
      (filter_map-append receipt_in o.acts (behind o.next).acts))
      (λ out.
      ap (flat_map display_told) (filter_map-append display_in o.acts (behind o.next).acts
      ∙ ap (λ (l : List Display). l ++ displays_in (behind o.next).acts) stage.unseen)
      ∙ b.seen (ap is_in_trip (sym b.same.operating) ∙ out))
  tick_comes m o (begins waits free made) =
      let m1 = (interval_counted s m).next in
      let h = hired s (record m1 { latch = None }) in
      let b = is_behind o.next in
      let next_is : o.next ≡ h = ap (λ (p : Outcome). p.next) made in
      let acts_are : o.acts ≡ [] = ap (λ (p : Outcome). p.acts) made in
      hires refl (record {
        free = sym (same_operating m.operating (sum m.taken) m) ∙ free;
        waits = sym (same_latch m.operating (sum m.taken) m) ∙ waits;
        trip = b.same.trip ∙ ap (λ (n : Meter). n.trip) next_is;
        operating = b.same.operating ∙ ap (λ (n : Meter). n.operating) next_is;
        clock = b.same.clock ∙ ap (λ (n : Meter). n.clock) next_is;
        position = b.same.position ∙ ap (λ (n : Meter). n.position) next_is;
        zone = b.same.zone ∙ ap (λ (n : Meter). n.zone) next_is;
        receipts = ap (λ (l : List Act). receipts_in (l ++ (behind o.next).acts)) acts_are ∙ b.receipts;
        whys = ap (λ (l : List Act). whys_in (l ++ (behind o.next).acts)) acts_are ∙ b.whys;
      })

  ticked_comes : (m : Meter) → Comes events.Tick m (ticked s m)
  ticked_comes m =
      let m1 = (interval_counted s m).next in
      tick_comes m (expired_or_pressed s m1) (interval_ends s m1)

  -- ---- the supply

  stage_seen : (event : Event) (m : Meter) (o : Outcome) → Stage s (trip_at s event m) o → Comes event m o
  stage_seen event m o stage = turned stage.turn (λ out. ap (flat_map display_told) stage.unseen)

  kept_by : (trip : Option MeterTrip) (m : Meter) → m.trip ≡ trip → Stage s trip (held_or_closed s trip m)
  kept_by None m is = stage_if s None (nat_lt 0 (sum m.roaming)) (roaming_entered s m) (quiet m)
      (still s m None _ is refl refl) (still s m None _ is refl refl)
  kept_by (Some t) m is = stage_if s (Some t) (nat_lt m.durable.number last_number) _ (closed s kinds.Aborted m.clock m)
      (still s m (Some t) _ is refl refl)
      (subst (λ (o : Option MeterTrip). Stage s o (closed s kinds.Aborted m.clock m)) is
      (stage_closed s kinds.Aborted m.clock m))

  dropped : (m : Meter) → Stage s (trip_at s events.Down m) (supply_dropped s m)
  dropped m =
      let m1 = (interval_left m).next in
      let stage = stage_then s m1.trip (held_or_closed s m1.trip m1) turned_off (kept_by m1.trip m1 refl) refl refl refl in
      record { turn = stage.turn; unseen = stage.unseen }

  aborts : (trip : Trip) (m : Meter) → Stage s m.trip (aborted s trip m)
  aborts trip m =
      let stage = stage_closed s kinds.Aborted trip.saved (record m { position = trip.position }) in
      stage_then s m.trip (closed s kinds.Aborted trip.saved (record m { position = trip.position }))
      (λ (n : Meter). quiet (record n { position = 1; zone = 1 })) (record { turn = stage.turn; unseen = stage.unseen })
      refl refl refl

  none_saved : (hold : Option Trip) (trip : Option MeterTrip) → IsSavedIn s hold trip → hold ≡ None → trip ≡ None
  none_saved None None saved is = refl
  none_saved None (Some t) saved is = absurd cc
  none_saved (Some h) trip saved is = absurd cc

  taken : (second : ℕ) (hold : Option Trip) (m : Meter) → (hold ≡ None → m.trip ≡ None)
      → Stage s m.trip (hold_taken s second hold m)
  taken second None m none = still s m m.trip _ (sym (none refl)) refl refl
  taken second (Some trip) m none = stage_if s m.trip (is_within_hold s second trip) (resumed trip m) (aborted s trip m)
      (still s m m.trip _ refl refl refl) (aborts trip m)

  came : (second : ℕ) (m : Meter) → IsSavedIn s m.durable.hold m.trip
      → Comes (events.Up second) m (supply_came s second m)
  came second m saved =
      let o = hold_taken s second m.durable.hold (powered second m) in
      let stage = taken second m.durable.hold (powered second m) (none_saved m.durable.hold m.trip saved) in
      let b = is_shown o.next.shown (display_of s o.next) in
      turned (turn_then s m.trip o.next.trip o.next.trip (receipts_in o.acts) (receipts_in (shown s o.next).acts) _
      stage.turn refl (no_receipt b (display_of s o.next))
      (filter_map-append receipt_in o.acts (shown s o.next).acts))
      (λ out. ap (flat_map display_told) (filter_map-append display_in o.acts (shown s o.next).acts
      ∙ ap (λ (l : List Display). l ++ displays_in (shown s o.next).acts) stage.unseen)
      ∙ seen_shown o.next out)

  -- ---- other events

  surplus : (b : Bool) (n : ℕ) → receipts_in (if b then Refuse (TooFast n) ∷ [] else []) ≡ []
  surplus true n = refl
  surplus false n = refl

  unseen_surplus : (b : Bool) (n : ℕ) → displays_in (if b then Refuse (TooFast n) ∷ [] else []) ≡ []
  unseen_surplus true n = refl
  unseen_surplus false n = refl

  clock_still : (operating : Operating) (second : ℕ) (m : Meter) → Stage s m.trip (clock_read operating second m)
  clock_still Off second m = still s m m.trip _ refl refl refl
  clock_still ForHire second m = still s m m.trip _ refl refl refl
  clock_still Hired second m = stage_if s m.trip (nat_lt second m.clock) _ _ (still s m m.trip _ refl refl refl)
      (still s m m.trip _ refl refl refl)
  clock_still Stopped second m = stage_if s m.trip (nat_lt second m.clock) _ _ (still s m m.trip _ refl refl refl)
      (still s m m.trip _ refl refl refl)

  latched_still : (latch : Option Key) (key : Key) (m : Meter) → Stage s m.trip (latched latch key m)
  latched_still None key m = still s m m.trip _ refl refl refl
  latched_still (Some waiting) key m = still s m m.trip _ refl refl refl

  powered_comes : (event : Event) (m : Meter) → Comes event m (powered_step s event m)
  powered_comes (events.Up second) m = stage_seen (events.Up second) m _ (still s m m.trip _ refl refl refl)
  powered_comes events.Down m = stage_seen events.Down m _ (dropped m)
  powered_comes (events.Pulses n) m = stage_seen (events.Pulses n) m _
      (still s m m.trip (pulses_taken n m) refl (surplus (nat_lt 0 (n - room_of m)) (n - room_of m))
      (unseen_surplus (nat_lt 0 (n - room_of m)) (n - room_of m)))
  powered_comes events.Tick m = ticked_comes m
  powered_comes (events.Clock second) m = stage_seen (events.Clock second) m _ (clock_still m.operating second m)
  powered_comes (events.Key key) m = stage_seen (events.Key key) m _ (latched_still m.latch key m)

  counted_off : (m : Meter) → m.operating ≡ Off → (interval_counted s m).next.trip ≡ m.trip
  counted_off m off = ap (λ (o : Operating). (counted_in s o (sum m.taken) m).trip) off

  left_off : (m : Meter) → m.operating ≡ Off → (interval_left m).next.trip ≡ m.trip
  left_off m off = ap (λ (o : Operating). (left_in o (sum m.taken) m).trip) off

  off_comes : (event : Event) (m : Meter) → m.operating ≡ Off → IsSavedIn s m.durable.hold m.trip
      → Comes event m (off_step s event m)
  off_comes (events.Up second) m off saved = came second m saved
  off_comes events.Down m off saved =
      stage_seen events.Down m _ (still s m (interval_left m).next.trip _ (sym (left_off m off)) refl refl)
  off_comes (events.Pulses n) m off saved = stage_seen (events.Pulses n) m _ (still s m m.trip _ refl refl refl)
  off_comes events.Tick m off saved =
      stage_seen events.Tick m _ (still s m (interval_counted s m).next.trip _ (sym (counted_off m off)) refl refl)
  off_comes (events.Clock second) m off saved = stage_seen (events.Clock second) m _ (still s m m.trip _ refl refl refl)
  off_comes (events.Key key) m off saved = stage_seen (events.Key key) m _ (still s m m.trip _ refl refl refl)

  comes_in : (operating : Operating) (event : Event) (m : Meter) → m.operating ≡ operating
      → IsTripKeptIn s operating m.durable.hold m.trip m.roaming → Comes event m (step_in s operating event m)
  comes_in Off event m is kept = off_comes event m is kept
  comes_in ForHire event m is kept = powered_comes event m
  comes_in Hired event m is kept = powered_comes event m
  comes_in Stopped event m is kept = powered_comes event m

  pub comes : (event : Event) (m : Meter) → IsTripKept s m → Comes event m (step s event m)
  comes event m kept = comes_in m.operating event m refl kept
