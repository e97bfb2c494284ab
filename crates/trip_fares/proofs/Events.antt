-- What an event makes of a trip, and of which trip its receipts are.
use Rattle.std.{specs.Prelude.{if◌then◌else◌, nat_le, nat_lt}, proofs.Common.{option_map, refl, subst, sum, sym, true}}
use Rattle.std.proofs.Common.{[], ℕ, ◌++◌, ◌+◌, ◌-◌, ◌∙◌, ◌∷◌, ◌≡◌, Bool, List, None, Option, Some, ap, false}
use Rattle.{std.proofs.lemmas.List.{append-nil}, taxi_units.specs.Limits.{hirings_end, last_number, roaming_most}}
use Rattle.{taxi_units.specs.Time.{longest_trip}, totals_record.specs.declared.trip.Trip.{Trip}}
use Rattle.taxi_units.specs.declared.{event.{Key.{Key}, Why.TheVariants.{TooFast}}, receipt.Kind.{Kind}}
use Rattle.taxi_units.specs.declared.event.Operating.{Operating, TheVariants.{ForHire, Hired, Off, Stopped}}
use Rattle.{tariff_check.specs.Amounts.{fees_in_force}, meter_model.specs.Supply.{supply_dropped, turned_off}}
use Rattle.tariff_check.specs.{SoundTariff.{supplement_numbered}, declared.values.Supplement.{Supplement}}
use Rattle.meter_model.specs.ClosedTrip.{closed, receipt_of, roaming_checked, roaming_checked_in, roaming_entered}
use Rattle.meter_model.specs.{ClosedTrip.{trip_closed}, declared.act.Act.TheVariants.{Enter, Hold, Refuse, Show}}
use Rattle.meter_model.specs.{Display.{display_of, is_shown, shown}, TripParts.{interval_in, rest_in}}
use Rattle.meter_model.specs.Interval.{context_now, counted_in, interval_begun, interval_counted, interval_left}
use Rattle.meter_model.specs.{Interval.{left_in, room_of, ticks_so_far}, Keys.{latched}, Step.{step_in, ticked}}
use Rattle.meter_model.specs.{KeptTrip.{IsTripKeptIn}, Meter.{◌>>=◌, Outcome, quiet}, Trip.{begun, with_extra}}
use Rattle.meter_model.specs.Keys.{extra_added, extra_added_to, hiring, is_among, key_in, key_pressed, latch_pressed}
use Rattle.meter_model.specs.Step.{clock_read, expired, expired_or_pressed, latch_refused, off_step, powered_step}
use Rattle.{meter_model.specs.Supplements.{times}, trip_fares.specs.Common.{with_parts}}
use Rattle.meter_model.specs.Supply.{aborted, held_or_closed, hold_taken, is_within_hold, powered, resumed, supply_came}
use Rattle.trip_fares.specs.Common.{Act, Event, IsTripKept, Meter, MeterTrip, Receipt, Setting, parts_by, step}
use Rattle.meter_model.specs.declared.act.Act.TheVariants as acts
use Rattle.taxi_units.specs.declared.event.Event.TheVariants as events
use Rattle.taxi_units.specs.declared.event.Key.TheVariants as keys
use Rattle.taxi_units.specs.declared.receipt.Kind.TheVariants as kinds

-- a receipt of a trip that may be none
pub record IsReceiptOf (s : Setting) (trip : Option MeterTrip) (receipt : Receipt) : Type 0 where
  pub t : MeterTrip
  pub kind : Kind
  pub finish : ℕ
  pub position : ℕ
  pub number : ℕ
  pub there : trip ≡ Some t
  pub is : receipt ≡ receipt_of s kind finish position t number

-- the receipts among acts are of a trip
abbrev pub AreOf : Setting → Option MeterTrip → List Act → Type 0
AreOf s trip [] = Unit {0}
AreOf s trip (acts.Receipt receipt ∷ more) = IsReceiptOf s trip receipt × AreOf s trip more
AreOf s trip (act ∷ more) = AreOf s trip more

are_both : (s : Setting) (trip : Option MeterTrip) (first others : List Act) → AreOf s trip first
    → AreOf s trip others → AreOf s trip (first ++ others)
are_both s trip [] others one other = other
are_both s trip (acts.Receipt receipt ∷ more) others one other = (one.0, are_both s trip more others one.1 other)
are_both s trip (Show display ∷ more) others one other = are_both s trip more others one other
are_both s trip (Refuse why ∷ more) others one other = are_both s trip more others one other
are_both s trip (Enter entry ∷ more) others one other = are_both s trip more others one other
are_both s trip (Hold held ∷ more) others one other = are_both s trip more others one other

-- a trip behind an event is the one with the event's part but for supplements, or a new one
abbrev pub Stays : (counted next : Option MeterTrip) → Type 0
Stays counted None = Unit {0}
Stays None (Some t) = t.parts ≡ []
Stays (Some b) (Some t) = t ≡ record b { extras = t.extras }

stays_extra : (counted : Option MeterTrip) (n : ℕ) (t : MeterTrip) → Stays counted (Some t)
    → Stays counted (Some (with_extra n t))
stays_extra None n t new = new
stays_extra (Some b) n t same = ap (λ (u : MeterTrip). record u { extras = t.extras ++ n ∷ [] }) same

stays_self : (trip : Option MeterTrip) → Stays trip trip
stays_self None = tt
stays_self (Some b) = refl

-- the trip in front of an event, with the interval that it ends or leaves unfinished
abbrev pub trip_at : Setting → Event → Meter → Option MeterTrip
trip_at s events.Tick m = (interval_counted s m).next.trip
trip_at s events.Down m = (interval_left m).next.trip
trip_at s event m = m.trip

-- an outcome whose receipts are of a trip, and whose own trip follows a trip
pub record Goes (s : Setting) (counted trip : Option MeterTrip) (o : Outcome) : Type 0 where
  pub are : AreOf s trip o.acts
  pub stays : Stays counted o.next.trip

-- the trip that a hiring begins
abbrev begun_at : Setting → Meter → MeterTrip
begun_at s m = begun s (fees_in_force s.tariff (context_now s m)) m.clock (sum m.roaming)

same_operating : (s : Setting) (operating : Operating) (pulses : ℕ) (m : Meter)
    → (counted_in s operating pulses m).operating ≡ m.operating
same_operating s Off pulses m = refl
same_operating s ForHire pulses m = refl
same_operating s Hired pulses m = refl
same_operating s Stopped pulses m = refl

-- what is for hire has no trip
none_kept : (s : Setting) (operating : Operating) (m : Meter) → operating ≡ ForHire
    → IsTripKeptIn s operating m.durable.hold m.trip m.roaming → m.trip ≡ None
none_kept s operating m is kept = (rw is at kept).1

none_counted : (s : Setting) (operating : Operating) (pulses : ℕ) (m : Meter) → m.operating ≡ operating
    → IsTripKept s m
    → (counted_in s operating pulses m).operating ≡ ForHire → (counted_in s operating pulses m).trip ≡ None
none_counted s Off pulses m is kept for_hire = none_kept s m.operating m for_hire kept
none_counted s ForHire pulses m is kept for_hire = none_kept s m.operating m for_hire kept
none_counted s Hired pulses m is kept for_hire = absurd (let e : Hired ≡ ForHire = sym is ∙ for_hire in cc)
none_counted s Stopped pulses m is kept for_hire = absurd (let e : Stopped ≡ ForHire = sym is ∙ for_hire in cc)

-- an event in Off ends no interval, and leaves none unfinished
counted_off : (s : Setting) (m : Meter) → m.operating ≡ Off → (interval_counted s m).next.trip ≡ m.trip
counted_off s m off = ap (λ (o : Operating). (counted_in s o (sum m.taken) m).trip) off

left_off : (m : Meter) → m.operating ≡ Off → (interval_left m).next.trip ≡ m.trip
left_off m off = ap (λ (o : Operating). (left_in o (sum m.taken) m).trip) off

surplus_by : (s : Setting) (trip : Option MeterTrip) (b : Bool) (n : ℕ)
    → AreOf s trip (if b then Refuse (TooFast n) ∷ [] else [])
surplus_by s trip true n = tt
surplus_by s trip false n = tt

shown_by : (s : Setting) (trip : Option MeterTrip) (m : Meter) (b : Bool)
    → AreOf s trip (if b then [] else Show (display_of s m) ∷ [])
shown_by s trip m true = tt
shown_by s trip m false = tt

module _ (s : Setting) (counted : Option MeterTrip) where
  abbrev Comes : Option MeterTrip → Outcome → Type 0
  Comes trip o = Goes s counted trip o

  without : (trip : Option MeterTrip) → trip ≡ None → Stays counted trip
  without trip none = subst (λ (o : Option MeterTrip). Stays counted o) (sym none) tt

  goes_then : (trip : Option MeterTrip) (o : Outcome) (next : Meter → Outcome)
      → Comes trip o → Comes trip (next o.next) → Comes trip (o >>= next)
  goes_then trip o next one other =
      record { are = are_both s trip o.acts (next o.next).acts one.are other.are; stays = other.stays }

  goes_quietly : (trip : Option MeterTrip) (m : Meter) → Stays counted m.trip → Comes trip (quiet m)
  goes_quietly trip m stays = record { are = tt; stays = stays }

  goes_if : (trip : Option MeterTrip) (b : Bool) (first second : Outcome)
      → Comes trip first → Comes trip second → Comes trip (if b then first else second)
  goes_if trip true first second one other = one
  goes_if trip false first second one other = other

  closed_by : (kind : Kind) (finish : ℕ) (trip : Option MeterTrip) (m : Meter)
      → m.trip ≡ None → Comes trip (trip_closed s kind finish trip m)
  closed_by kind finish None m none = record { are = tt; stays = without m.trip none }
  closed_by kind finish (Some t) m none = record {
    are = (
      record {
        t = t;
        kind = kind;
        finish = finish;
        position = m.position;
        number = m.durable.number + 1;
        there = refl;
        is = refl;
      },
      tt,
    );
    stays = without m.trip none;
  }

  goes_closed : (kind : Kind) (finish : ℕ) (m : Meter) → Comes m.trip (closed s kind finish m)
  goes_closed kind finish m =
      closed_by kind finish m.trip (record m { operating = ForHire; trip = None }) refl

  goes_shown : (trip : Option MeterTrip) (m : Meter) → Stays counted m.trip → Comes trip (shown s m)
  goes_shown trip m stays =
      record { are = shown_by s trip m (is_shown m.shown (display_of s m)); stays = stays }

  roaming_by : (trip : Option MeterTrip) (operating : Operating) (m : Meter)
      → Stays counted m.trip → Comes trip (roaming_checked_in s operating m)
  roaming_by trip Off m stays = goes_quietly trip m stays
  roaming_by trip ForHire m stays = goes_if trip (nat_le roaming_most (sum m.roaming))
      (roaming_entered s m) (quiet m) (record { are = tt; stays = stays }) (goes_quietly trip m stays)
  roaming_by trip Hired m stays = goes_quietly trip m stays
  roaming_by trip Stopped m stays = goes_quietly trip m stays

  latch_by : (trip : Option MeterTrip) (latch : Option Key) (m : Meter)
      → Stays counted m.trip → Comes trip (latch_refused latch m)
  latch_by trip None m stays = goes_quietly trip m stays
  latch_by trip (Some key) m stays = record { are = tt; stays = stays }

  extra_by : (n : ℕ) (supplement : Supplement) (trip : Option MeterTrip) (m : Meter)
      → m.trip ≡ trip → Stays counted trip → Comes trip (extra_added_to n supplement trip m)
  extra_by n supplement None m is stays = record { are = tt; stays = without m.trip is }
  extra_by n supplement (Some t) m is stays =
      let refused_there : Stays counted m.trip = subst (λ (o : Option MeterTrip). Stays counted o) (sym is) stays in
      goes_if (Some t) (nat_le supplement.max (times n t.extras)) _ _
      (record { are = tt; stays = refused_there }) (record { are = tt; stays = stays_extra counted n t stays })

  goes_extra : (n : ℕ) (supplement : Option Supplement) (m : Meter) → Stays counted m.trip
      → Comes m.trip (extra_added n supplement m)
  goes_extra n None m stays = record { are = tt; stays = stays }
  goes_extra n (Some supplement) m stays = extra_by n supplement m.trip m refl stays

  goes_set : (trip : Option MeterTrip) (b : Bool) (m n : Meter) (why : Act) → AreOf s trip (why ∷ [])
      → Stays counted m.trip → Stays counted n.trip
      → Comes trip (if b then quiet n else record { next = m; acts = why ∷ [] })
  goes_set trip true m n why are one other = record { are = tt; stays = other }
  goes_set trip false m n why are one other = record { are = are; stays = one }

  goes_hiring : (trip : Option MeterTrip) (m : Meter) → m.trip ≡ None → Stays counted (Some (begun_at s m))
      → Comes trip (hiring s m)
  goes_hiring trip m none begins =
      goes_if trip (nat_le hirings_end m.durable.number) _ _
      (record { are = tt; stays = without m.trip none }) (record { are = tt; stays = begins })

  goes_key : (key : Key) (operating : Operating) (m : Meter) → (operating ≡ ForHire → m.trip ≡ None)
      → (operating ≡ ForHire → Stays counted (Some (begun_at s m))) → Stays counted m.trip
      → Comes m.trip (key_in s key operating m)
  goes_key keys.Hire ForHire m none begins stays = goes_hiring m.trip m (none refl) (begins refl)
  goes_key keys.Stop Hired m none begins stays = record { are = tt; stays = stays }
  goes_key keys.Clear Stopped m none begins stays = goes_closed kinds.Closed m.clock m
  goes_key (keys.Position n) ForHire m none begins stays =
      goes_set m.trip (is_among s.tariff.positions n) m (record m { position = n }) _ tt stays stays
  goes_key (keys.Position n) Hired m none begins stays =
      goes_set m.trip (is_among s.tariff.positions n) m (record m { position = n }) _ tt stays stays
  goes_key (keys.Zone n) ForHire m none begins stays =
      goes_set m.trip (is_among s.tariff.zones n) m (record m { zone = n }) _ tt stays stays
  goes_key (keys.Zone n) Hired m none begins stays =
      goes_set m.trip (is_among s.tariff.zones n) m (record m { zone = n }) _ tt stays stays
  goes_key (keys.Extra n) Hired m none begins stays =
      goes_extra n (supplement_numbered s.tariff.supplements n) m stays
  goes_key (keys.Extra n) Stopped m none begins stays =
      goes_extra n (supplement_numbered s.tariff.supplements n) m stays
  goes_key key operating m none begins stays = record { are = tt; stays = stays }

  goes_latch : (latch : Option Key) (m : Meter) → (m.operating ≡ ForHire → m.trip ≡ None)
      → (m.operating ≡ ForHire → Stays counted (Some (begun_at s m))) → Stays counted m.trip
      → Comes m.trip (latch_pressed s latch m)
  goes_latch None m none begins stays = goes_quietly m.trip m stays
  goes_latch (Some key) m none begins stays =
      goes_key key m.operating (record m { latch = None }) none begins stays

  goes_expired : (m : Meter) → Comes m.trip (expired s m)
  goes_expired m =
      let first = goes_closed kinds.Expired m.clock m in
      let o = closed s kinds.Expired m.clock m in
      goes_then m.trip o (λ (n : Meter). latch_refused n.latch n) first
      (latch_by m.trip o.next.latch o.next first.stays)

  goes_pressed : (m : Meter) → (m.operating ≡ ForHire → m.trip ≡ None)
      → (m.operating ≡ ForHire → Stays counted (Some (begun_at s m))) → Stays counted m.trip
      → Comes m.trip (expired_or_pressed s m)
  goes_pressed m none begins stays =
      goes_if m.trip (nat_le longest_trip (ticks_so_far m.trip)) (expired s m) (key_pressed s m)
      (goes_expired m) (goes_latch m.latch m none begins stays)

  goes_ticked : (m : Meter) → IsTripKept s m
      → ((interval_counted s m).next.operating ≡ ForHire
      → Stays counted (Some (begun_at s (interval_counted s m).next)))
      → Stays counted (trip_at s events.Tick m) → Comes (trip_at s events.Tick m) (ticked s m)
  goes_ticked m kept begins stays =
      let m1 = (interval_counted s m).next in
      let t = m1.trip in
      let acted = goes_pressed m1 (none_counted s m.operating (sum m.taken) m refl kept) begins stays in
      let m2 = (expired_or_pressed s m1).next in
      let roamed = roaming_by t m2.operating m2 acted.stays in
      let m3 = (roaming_checked s m2).next in
      let seen = goes_shown t m3 roamed.stays in
      let last : Comes t (interval_begun (shown s m3).next) = record { are = tt; stays = seen.stays } in
      let four = goes_then t (shown s m3) interval_begun seen last in
      let five = goes_then t (roaming_checked s m2) (λ (n : Meter). shown s n >>= interval_begun) roamed four in
      let six = goes_then t (expired_or_pressed s m1)
      (λ (n : Meter). roaming_checked s n >>= (λ (n : Meter). shown s n >>= interval_begun)) acted five in
      goes_then t (interval_counted s m) (λ (n : Meter). expired_or_pressed s n
      >>= (λ (n : Meter). roaming_checked s n >>= (λ (n : Meter). shown s n >>= interval_begun)))
      (goes_quietly t m1 stays) six

  kept_by : (trip : Option MeterTrip) (m : Meter) → m.trip ≡ trip → Stays counted trip
      → Comes trip (held_or_closed s trip m)
  kept_by None m is stays =
      goes_if None (nat_lt 0 (sum m.roaming)) (roaming_entered s m) (quiet m)
      (record { are = tt; stays = without m.trip is }) (goes_quietly None m (without m.trip is))
  kept_by (Some t) m is stays =
      goes_if (Some t) (nat_lt m.durable.number last_number) _ (closed s kinds.Aborted m.clock m)
      (record { are = tt; stays = subst (λ (o : Option MeterTrip). Stays counted o) (sym is) stays })
      (subst (λ (o : Option MeterTrip). Comes o (closed s kinds.Aborted m.clock m)) is
      (goes_closed kinds.Aborted m.clock m))

  goes_dropped : (m : Meter) → Stays counted (trip_at s events.Down m)
      → Comes (trip_at s events.Down m) (supply_dropped s m)
  goes_dropped m stays =
      let m1 = (interval_left m).next in
      let kept = kept_by m1.trip m1 refl stays in
      let off : Comes m1.trip (turned_off (held_or_closed s m1.trip m1).next) =
      record { are = tt; stays = kept.stays } in
      goes_then m1.trip (interval_left m) (λ (n : Meter). held_or_closed s n.trip n >>= turned_off)
      (goes_quietly m1.trip m1 stays)
      (goes_then m1.trip (held_or_closed s m1.trip m1) turned_off kept off)

  goes_aborted : (trip : Trip) (m : Meter) → Comes m.trip (aborted s trip m)
  goes_aborted trip m =
      let o = closed s kinds.Aborted trip.saved (record m { position = trip.position }) in
      let first = goes_closed kinds.Aborted trip.saved (record m { position = trip.position }) in
      goes_then m.trip o (λ (n : Meter). quiet (record n { position = 1; zone = 1 })) first
      (record { are = tt; stays = first.stays })

  hold_by : (second : ℕ) (hold : Option Trip) (m : Meter) → Stays counted m.trip
      → Comes m.trip (hold_taken s second hold m)
  hold_by second None m stays = record { are = tt; stays = tt }
  hold_by second (Some trip) m stays =
      goes_if m.trip (is_within_hold s second trip) (resumed trip m) (aborted s trip m)
      (record { are = tt; stays = stays }) (goes_aborted trip m)

  goes_came : (second : ℕ) (m : Meter) → Stays counted m.trip → Comes m.trip (supply_came s second m)
  goes_came second m stays =
      let taken = hold_by second m.durable.hold (powered second m) stays in
      let o = hold_taken s second m.durable.hold (powered second m) in
      goes_then m.trip o (shown s) taken (goes_shown m.trip o.next taken.stays)

  goes_clock : (operating : Operating) (second : ℕ) (m : Meter) → Stays counted m.trip
      → Comes m.trip (clock_read operating second m)
  goes_clock Off second m stays = record { are = tt; stays = stays }
  goes_clock ForHire second m stays = record { are = tt; stays = stays }
  goes_clock Hired second m stays = goes_if m.trip (nat_lt second m.clock) _ _
      (record { are = tt; stays = stays }) (record { are = tt; stays = stays })
  goes_clock Stopped second m stays = goes_if m.trip (nat_lt second m.clock) _ _
      (record { are = tt; stays = stays }) (record { are = tt; stays = stays })

  goes_latched : (latch : Option Key) (key : Key) (m : Meter) → Stays counted m.trip
      → Comes m.trip (latched latch key m)
  goes_latched None key m stays = record { are = tt; stays = stays }
  goes_latched (Some waiting) key m stays = record { are = tt; stays = stays }

  goes_powered : (event : Event) (m : Meter) → IsTripKept s m
      → (event ≡ events.Tick → (interval_counted s m).next.operating ≡ ForHire
      → Stays counted (Some (begun_at s (interval_counted s m).next)))
      → Stays counted (trip_at s event m) → Comes (trip_at s event m) (powered_step s event m)
  goes_powered (events.Up second) m kept begins stays = record { are = tt; stays = stays }
  goes_powered events.Down m kept begins stays = goes_dropped m stays
  goes_powered (events.Pulses n) m kept begins stays =
      record { are = surplus_by s m.trip (nat_lt 0 (n - room_of m)) (n - room_of m); stays = stays }
  goes_powered events.Tick m kept begins stays = goes_ticked m kept (begins refl) stays
  goes_powered (events.Clock second) m kept begins stays = goes_clock m.operating second m stays
  goes_powered (events.Key key) m kept begins stays = goes_latched m.latch key m stays

  goes_off : (event : Event) (m : Meter) → m.operating ≡ Off → Stays counted (trip_at s event m)
      → Comes (trip_at s event m) (off_step s event m)
  goes_off (events.Up second) m off stays = goes_came second m stays
  goes_off events.Down m off stays =
      record { are = tt; stays = subst (λ (o : Option MeterTrip). Stays counted o) (left_off m off) stays }
  goes_off (events.Pulses n) m off stays = record { are = tt; stays = stays }
  goes_off events.Tick m off stays =
      record { are = tt; stays = subst (λ (o : Option MeterTrip). Stays counted o) (counted_off s m off) stays }
  goes_off (events.Clock second) m off stays = record { are = tt; stays = stays }
  goes_off (events.Key key) m off stays = record { are = tt; stays = stays }

  step_goes : (operating : Operating) (event : Event) (m : Meter) → m.operating ≡ operating → IsTripKept s m
      → (event ≡ events.Tick → (interval_counted s m).next.operating ≡ ForHire
      → Stays counted (Some (begun_at s (interval_counted s m).next)))
      → Stays counted (trip_at s event m) → Comes (trip_at s event m) (step_in s operating event m)
  step_goes Off event m is kept begins stays = goes_off event m is stays
  step_goes ForHire event m is kept begins stays = goes_powered event m kept begins stays
  step_goes Hired event m is kept begins stays = goes_powered event m kept begins stays
  step_goes Stopped event m is kept begins stays = goes_powered event m kept begins stays

-- a hiring at a tick finds no trip
begins_new : (s : Setting) (event : Event) (m : Meter) → IsTripKept s m → event ≡ events.Tick
    → (interval_counted s m).next.operating ≡ ForHire
    → Stays (trip_at s event m) (Some (begun_at s (interval_counted s m).next))
begins_new s event m kept tick for_hire =
    let none : (interval_counted s m).next.trip ≡ None =
    none_counted s m.operating (sum m.taken) m refl kept for_hire in
    let at : trip_at s event m ≡ None = ap (λ (e : Event). trip_at s e m) tick ∙ none in
    subst (λ (o : Option MeterTrip). Stays o (Some (begun_at s (interval_counted s m).next))) (sym at) refl

-- the receipts of an event are of the trip with the event's part, and the trip behind it is that one or a new one
pub one_step : (s : Setting) (event : Event) (m : Meter) → IsTripKept s m
    → Goes s (trip_at s event m) (trip_at s event m) (step s event m)
one_step s event m kept =
    step_goes s (trip_at s event m) m.operating event m refl kept (begins_new s event m kept)
    (stays_self (trip_at s event m))

-- ---- the trip with the event's part

same_without : (trip : Option MeterTrip) → trip ≡ option_map (with_parts []) trip
same_without None = refl
same_without (Some t) = ap (λ (ps : List _). Some (record t { parts = ps })) (sym (append-nil t.parts))

counted_grows : (s : Setting) (operating : Operating) (m : Meter) → (counted_in s operating (sum m.taken) m).trip
    ≡ option_map (with_parts (interval_in s operating m)) m.trip
counted_grows s Off m = same_without m.trip
counted_grows s ForHire m = same_without m.trip
counted_grows s Hired m = refl
counted_grows s Stopped m = refl

left_grows : (operating : Operating) (m : Meter)
    → (left_in operating (sum m.taken) m).trip ≡ option_map (with_parts (rest_in operating m)) m.trip
left_grows Off m = same_without m.trip
left_grows ForHire m = same_without m.trip
left_grows Hired m = refl
left_grows Stopped m = refl

pub trip_grows : (s : Setting) (event : Event) (m : Meter)
    → trip_at s event m ≡ option_map (with_parts (parts_by s event m)) m.trip
trip_grows s events.Tick m = counted_grows s m.operating m
trip_grows s events.Down m = left_grows m.operating m
trip_grows s (events.Up second) m = same_without m.trip
trip_grows s (events.Pulses n) m = same_without m.trip
trip_grows s (events.Clock second) m = same_without m.trip
trip_grows s (events.Key key) m = same_without m.trip
