-- Each stage of an event, and each event, leaves two meters alike that stand alike.
use Rattle.std.proofs.Common.{[], ℕ, ◌+◌, ◌-◌, ◌∷◌, ◌≡◌, ◌≤◌, Bool, None, Option, Some, ap, arith, false, if◌then◌else◌}
use Rattle.std.proofs.{Common.{nat_le, nat_lt, option_map, refl, subst, sum, true}, lemmas.Grind.{common_steps}}
use Rattle.taxi_units.specs.{Limits.{last_number, roaming_most}, declared.event.Operating.TheVariants.{Stopped}}
use Rattle.taxi_units.specs.{Time.{longest_trip}, declared.{event.Why.{Why}, receipt.Display.{Display}}}
use Rattle.meter_model.specs.ClosedTrip.{roaming_checked, roaming_checked_in, roaming_entered, roaming_entry}
use Rattle.meter_model.specs.{Display.{is_shown, shown}, Trip.{InHired, InStopped, Rest, charge_in}}
use Rattle.meter_model.specs.Interval.{counted_in, interval_begun, interval_counted, interval_left, left_in, room_of}
use Rattle.meter_model.specs.{Keys.{key_pressed, latched}, Supply.{running, supply_came, supply_dropped, turned_off}}
use Rattle.meter_model.specs.Step.{clock_read, clock_read_in_trip, expired, expired_or_pressed, latch_refused, off_step}
use Rattle.meter_model.specs.{Step.{powered_step, step_in, ticked}, declared.act.Act.TheVariants.{Refuse, Show}}
use Rattle.meter_model.specs.Supply.{aborted, held_or_closed, hold_taken, is_stopped, is_within_hold, powered, resumed}
use Rattle.same_tariffs.specs.Alike.{AreActsAlike, AreHoldsAlike, AreTripsOfBothAlike, IsSameMoney, with_trips}
use Rattle.same_tariffs.specs.Common.{Context, Event, ForHire, Hired, IsSecond, IsTimely, Key, Meter, MeterTrip}
use Rattle.same_tariffs.specs.Common.{Meterage, Off, Operating, Outcome, Part, Setting, Trip, charge_at, context_of}
use Rattle.same_tariffs.specs.Common.{display_of, held_trip, last_tick, local_at, pulses_in, quiet, step, ticks_in}
use Rattle.same_tariffs.specs.{Common.{ticks_so_far, unit_of, with_part}, Reached.{GoesOn, HoldGoesOn}}
use Rattle.same_tariffs.proofs.{Keys.{press-alike}, MetersAlike.{quiet-alike, refused-alike, stands, then-alike}}
use Rattle.same_tariffs.proofs.MetersAlike.{AreBeside, ComeAlike, IsBeside, StandAlike, by-trips, closed-alike}
use Rattle.same_tariffs.proofs.MetersAlike.{context-same, either-alike, entered-alike, having, held-by, placed_at}
use Rattle.same_tariffs.proofs.Money.{none-same}
use Rattle.same_tariffs.proofs.Trips.{display-alike, held-alike, parts-alike, sum-more, ticks-alike}
use Rattle.taxi_units.specs.declared.event.Event.TheVariants as events
use Rattle.taxi_units.specs.declared.event.Why.TheVariants as why
use Rattle.taxi_units.specs.declared.receipt.Kind.TheVariants as kinds

ticks-more : (part : Part) (trip : Option MeterTrip)
    → ticks_so_far (option_map (with_part part) trip) ≤ ticks_so_far trip + ticks_in part
ticks-more part None = omega arith
ticks-more part (Some t) = omega (arith, sum-more ticks_in t.parts part)

-- a number that another isn't at most
below : (n : ℕ) → nat_le longest_trip n ≡ false → n ≤ last_tick
below n is = grind (arith, common_steps)

showing : (s t : Setting) (b : Bool) (d : Display) → AreActsAlike s t (if b then [] else Show d ∷ [])
    (if b then [] else Show d ∷ [])
showing s t true d = tt
showing s t false d = (refl, tt)

-- the acts and the meter of a display
abbrev shown_as : Display → Meter → Outcome
shown_as d m = record { next = record m { shown = Some d }; acts = if is_shown m.shown d then [] else Show d ∷ [] }

refusing : (s t : Setting) (b : Bool) (why : Why) → AreActsAlike s t (if b then Refuse why ∷ [] else [])
    (if b then Refuse why ∷ [] else [])
refusing s t true why = (refl, tt)
refusing s t false why = tt

module _ {s t : Setting} where
  -- ---- the end of an interval

  -- trips with a part more, of as many pulses and ticks, and of the same money
  part-more : {p z c b : ℕ} {a a' : Option MeterTrip} {h h' : Option Trip} (part other : Part)
      → pulses_in part ≡ pulses_in other → ticks_in part ≡ ticks_in other
      → IsSameMoney (unit_of s) (unit_of t) (charge_in s part) (charge_in t other)
      → AreBeside s t last_tick p z c b a a' h h'
      → AreBeside s t (last_tick + ticks_in part) p z c b (option_map (with_part part) a)
      (option_map (with_part other) a') h h'
  part-more {a} {a'} part other pulses ticks charge x =
      having x (parts-alike s t a a' part other pulses ticks charge x.trips)
      (omega (arith, x.ticks, ticks-more part a))

  counted-in : (operating : Operating) (p : ℕ) (m : Meter) (trip : Option MeterTrip) (hold : Option Trip)
      → IsBeside s t last_tick m trip hold
      → StandAlike s t longest_trip (counted_in s operating p m) (counted_in t operating p (with_trips trip hold m))
  counted-in Off p m trip hold x =
      record { beside = having x x.trips (omega (arith, x.ticks)); others = refl }
  counted-in ForHire p m trip hold x =
      record { beside = having x x.trips (omega (arith, x.ticks)); others = refl }
  counted-in Stopped p m trip hold x = record {
    beside = part-more (InStopped p) (InStopped p) refl refl (none-same (unit_of s) (unit_of t)) x;
    others = refl;
  }
  counted-in Hired p m trip hold x =
      let one = context_of s m in
      let other = context_of t (with_trips trip hold m) in
      let charge : IsSameMoney (unit_of s) (unit_of t) (charge_at s one p) (charge_at t other p) =
      subst (λ (y : Context). IsSameMoney (unit_of s) (unit_of t) (charge_at s one p) (charge_at t y p))
      (context-same s t (local_at t m.began) m trip hold x.trips) (x.agree.rates m x.placed x.ticks p) in
      record { beside = part-more (InHired p one) (InHired p other) refl refl charge x; others = refl }

  counted-alike : {m n : Meter} → StandAlike s t last_tick m n
      → ComeAlike s t longest_trip (interval_counted s m) (interval_counted t n)
  counted-alike x =
      by-trips x (interval_counted s) (interval_counted t)
      (λ m trip hold y. record { next = counted-in m.operating (sum m.taken) m trip hold y; acts = tt })

  -- ---- an expiry, or a key

  latch-in : {most : ℕ} (latch : Option Key) (m : Meter) (trip : Option MeterTrip) (hold : Option Trip)
      → IsBeside s t most m trip hold
      → ComeAlike s t most (latch_refused latch m) (latch_refused latch (with_trips trip hold m))
  latch-in None m trip hold x = quiet-alike m trip hold x
  latch-in (Some key) m trip hold x = refused-alike why.Expired (record m { latch = None }) trip hold x

  latch-alike : {most : ℕ} {m n : Meter} → StandAlike s t most m n
      → ComeAlike s t most (latch_refused m.latch m) (latch_refused n.latch n)
  latch-alike x =
      by-trips x (λ (k : Meter). latch_refused k.latch k) (λ (k : Meter). latch_refused k.latch k)
      (λ m trip hold y. latch-in m.latch m trip hold y)

  expired-alike : {most least : ℕ} (m : Meter) (trip : Option MeterTrip) (hold : Option Trip)
      → IsBeside s t most m trip hold → ComeAlike s t least (expired s m) (expired t (with_trips trip hold m))
  expired-alike {least} m trip hold x =
      let first = closed-alike {least = least} kinds.Expired m.clock m trip hold x in
      let both = then-alike first (latch-alike first.next) in both

  pressed-in : (m : Meter) (trip : Option MeterTrip) (hold : Option Trip) → IsBeside s t longest_trip m trip hold
      → ComeAlike s t last_tick (expired_or_pressed s m) (expired_or_pressed t (with_trips trip hold m))
  pressed-in m trip hold x =
      let n = with_trips trip hold m in
      subst (λ (ticks : ℕ). ComeAlike s t last_tick (expired_or_pressed s m)
      (if nat_le longest_trip ticks then expired t n else key_pressed t n)) (ticks-alike s t m.trip trip x.trips)
      (either-alike (nat_le longest_trip (ticks_so_far m.trip)) (λ is. expired-alike m trip hold x)
      (λ is. press-alike m.latch m trip hold (having x x.trips (below (ticks_so_far m.trip) is))))

  pressed-alike : {m n : Meter} → StandAlike s t longest_trip m n
      → ComeAlike s t last_tick (expired_or_pressed s m) (expired_or_pressed t n)
  pressed-alike x = by-trips x (expired_or_pressed s) (expired_or_pressed t) pressed-in

  -- ---- roaming, the display and the next interval

  roaming-alike : {most : ℕ} (m : Meter) (trip : Option MeterTrip) (hold : Option Trip)
      → IsBeside s t most m trip hold
      → ComeAlike s t most (roaming_entered s m) (roaming_entered t (with_trips trip hold m))
  roaming-alike m trip hold x =
      entered-alike (roaming_entry s (sum m.roaming)) (roaming_entry t (sum m.roaming))
      (ap (λ (k : ℕ). roaming_entry (record s { constant = k }) (sum m.roaming)) x.agree.constant)
      (record m { roaming = [] }) trip hold x

  checked-in : {most : ℕ} (operating : Operating) (m : Meter) (trip : Option MeterTrip) (hold : Option Trip)
      → IsBeside s t most m trip hold
      → ComeAlike s t most (roaming_checked_in s operating m) (roaming_checked_in t operating (with_trips trip hold m))
  checked-in ForHire m trip hold x =
      either-alike (nat_le roaming_most (sum m.roaming)) (λ is. roaming-alike m trip hold x)
      (λ is. quiet-alike m trip hold x)
  checked-in operating m trip hold x = quiet-alike m trip hold x

  checked-alike : {most : ℕ} {m n : Meter} → StandAlike s t most m n
      → ComeAlike s t most (roaming_checked s m) (roaming_checked t n)
  checked-alike x =
      by-trips x (roaming_checked s) (roaming_checked t) (λ m trip hold y. checked-in m.operating m trip hold y)

  shown-in : {most : ℕ} (m : Meter) (trip : Option MeterTrip) (hold : Option Trip) → IsBeside s t most m trip hold
      → ComeAlike s t most (shown s m) (shown t (with_trips trip hold m))
  shown-in {most} m trip hold x =
      let d = display_of s m in
      subst (λ (e : Display). ComeAlike s t most (shown_as d m) (shown_as e (with_trips trip hold m)))
      (display-alike s t m trip hold x.agree x.trips)
      (record { next = stands (record m { shown = Some d }) trip hold x; acts = showing s t (is_shown m.shown d) d })

  shown-alike : {most : ℕ} {m n : Meter} → StandAlike s t most m n → ComeAlike s t most (shown s m) (shown t n)
  shown-alike x = by-trips x (shown s) (shown t) shown-in

  begun-alike : {most : ℕ} {m n : Meter} → StandAlike s t most m n
      → ComeAlike s t most (interval_begun m) (interval_begun n)
  begun-alike x =
      by-trips x interval_begun interval_begun
      (λ m trip hold y. quiet-alike (record m { began = m.clock }) trip hold (placed_at y (record {
        set = y.placed.set;
        clock_in = y.placed.clock_in;
        began_in = y.placed.clock_in;
      })))

  ticked-alike : {m n : Meter} → StandAlike s t last_tick m n → ComeAlike s t last_tick (ticked s m) (ticked t n)
  ticked-alike x =
      let counted = counted-alike x in
      let pressed = pressed-alike counted.next in
      let checked = checked-alike pressed.next in
      let displayed = shown-alike checked.next in
      let last = then-alike displayed (begun-alike displayed.next) in
      let whole = then-alike counted (then-alike pressed (then-alike checked last)) in whole

  -- ---- a drop of the supply

  left-in : (operating : Operating) (p : ℕ) (m : Meter) (trip : Option MeterTrip) (hold : Option Trip)
      → IsBeside s t last_tick m trip hold
      → StandAlike s t last_tick (left_in operating p m) (left_in operating p (with_trips trip hold m))
  left-in Off p m trip hold x = stands m trip hold x
  left-in ForHire p m trip hold x = record { beside = x; others = refl }
  left-in operating p m trip hold x =
      record { beside = part-more (Rest p) (Rest p) refl refl (none-same (unit_of s) (unit_of t)) x; others = refl }

  left-alike : {m n : Meter} → StandAlike s t last_tick m n
      → ComeAlike s t last_tick (interval_left m) (interval_left n)
  left-alike x =
      by-trips x interval_left interval_left
      (λ m trip hold y. record { next = left-in m.operating (sum m.taken) m trip hold y; acts = tt })

  kept-in : (a b : Option MeterTrip) (m : Meter) (trip : Option MeterTrip) (hold : Option Trip)
      → AreTripsOfBothAlike s t a b → ticks_so_far a ≤ last_tick → IsBeside s t last_tick m trip hold
      → ComeAlike s t last_tick (held_or_closed s a m) (held_or_closed t b (with_trips trip hold m))
  kept-in None None m trip hold trips short x =
      either-alike (nat_lt 0 (sum m.roaming)) (λ is. roaming-alike m trip hold x) (λ is. quiet-alike m trip hold x)
  kept-in None (Some b) m trip hold trips short x = absurd trips
  kept-in (Some a) None m trip hold trips short x = absurd trips
  kept-in (Some a) (Some b) m trip hold trips short x =
      let stopped = is_stopped m.operating in
      either-alike (nat_lt m.durable.number last_number)
      (λ is. held-by (held_trip s m.clock stopped m.position m.zone a)
      (held_trip t m.clock stopped m.position m.zone b) m trip hold
      (held-alike s t a b m.clock stopped m.position m.zone x.agree trips)
      (record { set = x.placed.set; ticks = short }) x)
      (λ is. closed-alike kinds.Aborted m.clock m trip hold x)

  kept-alike : {m n : Meter} → StandAlike s t last_tick m n
      → ComeAlike s t last_tick (held_or_closed s m.trip m) (held_or_closed t n.trip n)
  kept-alike x =
      by-trips x (λ (k : Meter). held_or_closed s k.trip k) (λ (k : Meter). held_or_closed t k.trip k)
      (λ m trip hold y. kept-in m.trip trip m trip hold y.trips y.ticks y)

  off-alike : {most : ℕ} {m n : Meter} → StandAlike s t most m n → ComeAlike s t most (turned_off m) (turned_off n)
  off-alike x =
      by-trips x turned_off turned_off
      (λ m trip hold y. quiet-alike (record m { operating = Off; latch = None }) trip hold y)

  pub dropped-alike : {m n : Meter} → StandAlike s t last_tick m n
      → ComeAlike s t last_tick (supply_dropped s m) (supply_dropped t n)
  dropped-alike x =
      let left = left-alike x in
      let kept = kept-alike left.next in
      let whole = then-alike left (then-alike kept (off-alike kept.next)) in whole

  -- ---- the coming of the supply

  placed-first : {most : ℕ} {m n : Meter} → StandAlike s t most m n
      → ComeAlike s t most (quiet (record m { position = 1; zone = 1 })) (quiet (record n { position = 1; zone = 1 }))
  placed-first x =
      by-trips x (λ (k : Meter). quiet (record k { position = 1; zone = 1 }))
      (λ (k : Meter). quiet (record k { position = 1; zone = 1 }))
      (λ m trip hold y. quiet-alike (record m { position = 1; zone = 1 }) trip hold (placed_at y (record {
        set = y.agree.first;
        clock_in = y.placed.clock_in;
        began_in = y.placed.began_in;
      })))

  aborted-alike : (a : Trip) (m : Meter) (trip : Option MeterTrip) (hold : Option Trip) → GoesOn s.tariff a
      → IsBeside s t last_tick m trip hold
      → ComeAlike s t last_tick (aborted s a m) (aborted t a (with_trips trip hold m))
  aborted-alike a m trip hold on x =
      let first = closed-alike {least = last_tick} kinds.Aborted a.saved (record m { position = a.position }) trip hold
      (placed_at x (record {
        set = record { position_in = on.set.position_in; zone_in = x.placed.set.zone_in };
        clock_in = x.placed.clock_in;
        began_in = x.placed.began_in;
      })) in
      let both = then-alike first (placed-first first.next) in both

  resumed-alike : (a : Trip) (m : Meter) (trip : Option MeterTrip) (hold : Option Trip) → GoesOn s.tariff a
      → IsBeside s t last_tick m trip hold
      → ComeAlike s t last_tick (resumed a m) (resumed a (with_trips trip hold m))
  resumed-alike a m trip hold on x =
      quiet-alike (record m { operating = running a.stopped; position = a.position; zone = a.zone }) trip hold
      (placed_at x (record { set = on.set; clock_in = x.placed.clock_in; began_in = x.placed.began_in }))

  -- a held trip goes on, or is aborted, whatever its meterage is
  taken-with : (second : ℕ) (a : Trip) (g : Meterage) (m : Meter) (trip : Option MeterTrip) (hold : Option Trip)
      → GoesOn s.tariff a → IsBeside s t last_tick m trip hold → ComeAlike s t last_tick
      (hold_taken s second (Some a) m) (hold_taken t second (Some (record a { meterage = g })) (with_trips trip hold m))
  taken-with second a g m trip hold on x =
      let n = with_trips trip hold m in
      subst (λ (time : ℕ). ComeAlike s t last_tick (hold_taken s second (Some a) m)
      (if is_within_hold (record s { hold_time = time }) second a then resumed a n else aborted t a n)) x.agree.hold
      (either-alike (is_within_hold s second a) (λ is. resumed-alike a m trip hold on x)
      (λ is. aborted-alike a m trip hold on x))

  taken-alike : (second : ℕ) (a b : Option Trip) (m : Meter) (trip : Option MeterTrip) (hold : Option Trip)
      → AreHoldsAlike s t a b → HoldGoesOn s.tariff a → IsBeside s t last_tick m trip hold
      → ComeAlike s t last_tick (hold_taken s second a m) (hold_taken t second b (with_trips trip hold m))
  taken-alike second None None m trip hold same on x =
      quiet-alike (record m { trip = None }) None hold (having x tt (omega arith))
  taken-alike second None (Some b) m trip hold same on x = absurd same
  taken-alike second (Some a) None m trip hold same on x = absurd same
  taken-alike second (Some a) (Some b) m trip hold same on x =
      subst (λ (c : Trip). ComeAlike s t last_tick (hold_taken s second (Some a) m)
      (hold_taken t second (Some c) (with_trips trip hold m))) same.others
      (taken-with second a b.meterage m trip hold on x)

  came-alike : (second : ℕ) (m : Meter) (trip : Option MeterTrip) (hold : Option Trip) → IsSecond second
      → IsBeside s t last_tick m trip hold
      → ComeAlike s t last_tick (supply_came s second m) (supply_came t second (with_trips trip hold m))
  came-alike second m trip hold is x =
      let first = taken-alike second m.durable.hold hold (powered second m) trip hold x.holds x.goes_on
      (placed_at x (record { set = x.agree.first; clock_in = is; began_in = is })) in
      let both = then-alike first (shown-alike first.next) in both

  -- ---- an event

  clocked : {most : ℕ} (second : ℕ) (m : Meter) (trip : Option MeterTrip) (hold : Option Trip) → IsSecond second
      → IsBeside s t most m trip hold → ComeAlike s t most (quiet (record m { clock = second }))
      (quiet (with_trips trip hold (record m { clock = second })))
  clocked second m trip hold is x =
      quiet-alike (record m { clock = second }) trip hold
      (placed_at x (record { set = x.placed.set; clock_in = is; began_in = x.placed.began_in }))

  read-in : {most : ℕ} (second : ℕ) (m : Meter) (trip : Option MeterTrip) (hold : Option Trip) → IsSecond second
      → IsBeside s t most m trip hold
      → ComeAlike s t most (clock_read_in_trip second m) (clock_read_in_trip second (with_trips trip hold m))
  read-in second m trip hold is x =
      either-alike (nat_lt second m.clock) (λ back. refused-alike (why.ClockBack m.clock second) m trip hold x)
      (λ on. clocked second m trip hold is x)

  read-alike : {most : ℕ} (operating : Operating) (second : ℕ) (m : Meter) (trip : Option MeterTrip)
      (hold : Option Trip) → IsSecond second → IsBeside s t most m trip hold
      → ComeAlike s t most (clock_read operating second m) (clock_read operating second (with_trips trip hold m))
  read-alike Hired second m trip hold is x = read-in second m trip hold is x
  read-alike Stopped second m trip hold is x = read-in second m trip hold is x
  read-alike operating second m trip hold is x = clocked second m trip hold is x

  latched-alike : {most : ℕ} (latch : Option Key) (key : Key) (m : Meter) (trip : Option MeterTrip)
      (hold : Option Trip) → IsBeside s t most m trip hold
      → ComeAlike s t most (latched latch key m) (latched latch key (with_trips trip hold m))
  latched-alike None key m trip hold x = quiet-alike (record m { latch = Some key }) trip hold x
  latched-alike (Some waiting) key m trip hold x = refused-alike why.KeyWaiting m trip hold x

  powered-alike : (event : Event) (m : Meter) (trip : Option MeterTrip) (hold : Option Trip) → IsTimely event
      → IsBeside s t last_tick m trip hold
      → ComeAlike s t last_tick (powered_step s event m) (powered_step t event (with_trips trip hold m))
  powered-alike (events.Up second) m trip hold timely x = refused-alike why.Powered m trip hold x
  powered-alike events.Down m trip hold timely x = dropped-alike (stands m trip hold x)
  powered-alike (events.Pulses n) m trip hold timely x = record {
    next = record { beside = x; others = refl };
    acts = refusing s t (nat_lt 0 (n - room_of m)) (why.TooFast (n - room_of m));
  }
  powered-alike events.Tick m trip hold timely x = ticked-alike (stands m trip hold x)
  powered-alike (events.Clock second) m trip hold timely x = read-alike m.operating second m trip hold timely x
  powered-alike (events.Key key) m trip hold timely x = latched-alike m.latch key m trip hold x

  off-step-alike : (event : Event) (m : Meter) (trip : Option MeterTrip) (hold : Option Trip) → IsTimely event
      → IsBeside s t last_tick m trip hold
      → ComeAlike s t last_tick (off_step s event m) (off_step t event (with_trips trip hold m))
  off-step-alike (events.Up second) m trip hold timely x = came-alike second m trip hold timely x
  off-step-alike event m trip hold timely x = refused-alike why.NotNow m trip hold x

  step-in : (operating : Operating) (event : Event) (m : Meter) (trip : Option MeterTrip) (hold : Option Trip)
      → IsTimely event → IsBeside s t last_tick m trip hold
      → ComeAlike s t last_tick (step_in s operating event m) (step_in t operating event (with_trips trip hold m))
  step-in Off event m trip hold timely x = off-step-alike event m trip hold timely x
  step-in operating event m trip hold timely x = powered-alike event m trip hold timely x

  pub step-alike : {m n : Meter} (event : Event) → IsTimely event → StandAlike s t last_tick m n
      → ComeAlike s t last_tick (step s event m) (step t event n)
  step-alike event timely x =
      by-trips x (step s event) (step t event) (λ m trip hold y. step-in m.operating event m trip hold timely y)
