-- A drive that comes to an interval in a context of a meter.
use Rattle.std.proofs.Common.{[], ℕ, ℤ, ◌%◌, ◌&&◌, ◌*◌, ◌++◌, ◌+ℤ◌, ◌+◌, ◌/◌, ◌<◌, ◌∙◌, ◌∷◌, ◌≡◌, ◌≤◌, Bool, List, None}
use Rattle.std.proofs.Common.{Option, Some, ap, arith, false, if◌then◌else◌, min, nat_le, nat_lt, pos, refl, replicate}
use Rattle.std.proofs.{Common.{subst, suc, sum, sym, true, unsigned_abs, zero}, lemmas.Grind.{common_steps}}
use Rattle.{std.proofs.Math.Nat.{div-add-mod}, taxi_units.specs.declared.receipt.Display.{Display}}
use Rattle.taxi_units.specs.{Limits.{last_number}, Time.{first_second, longest_trip}}
use Rattle.{interval_clock.specs.Calendar.{date_after, date_place, weekday_of}, meter_model.specs.Run.{meter_after}}
use Rattle.{drive_text.proofs.Laws.{written_drive_ends, written_drive_means}, meter_model.specs.Display.{shown}}
use Rattle.{totals_record.specs.States.{after, first_state}, tariff_check.specs.SoundLookups.{has_date}}
use Rattle.tariff_check.{specs.declared.values.Initial.{Initial}, proofs.Laws.{sound_tariffs_have_sound_parts-parts}}
use Rattle.meter_model.specs.{ClosedTrip.{closed, roaming_checked}, Trip.{InHired, Rest, fees_of, ticks_of}}
use Rattle.meter_model.specs.{Interval.{interval_begun}, Keys.{is_among, key_pressed}, Setting.{under_offset}}
use Rattle.meter_model.specs.{Meter.{◌>>=◌, held}, Step.{expired}}
use Rattle.meter_model.specs.Supply.{aborted, hold_taken, is_within_hold, powered, resumed, turned_off}
use Rattle.{meter_states.proofs.Laws.{runs_add_up}, same_tariffs.specs.{Common.{with_part}, Contexts.{without_trip}}}
use Rattle.same_tariffs.specs.Common.{Context, Down, Durable, Event, ForHire, Hire, Hired, IsFromTo, IsMeterContext}
use Rattle.same_tariffs.specs.Common.{IsSound, IsWritable, Key, Meter, MeterContext, MeterTrip, Mode, Off, Operating}
use Rattle.same_tariffs.specs.Common.{Outcome, Part, Position, Pulses, Setting, Tick, Tree, Trip, Up, Zone, begun}
use Rattle.same_tariffs.specs.Common.{context_at, context_now, context_of, day_of, display_of, drive_of, fees_in_force}
use Rattle.same_tariffs.specs.Common.{held_trip, initial_by, last_tick, local_second, minute_of_day, most_pulses}
use Rattle.same_tariffs.specs.Common.{opened, pulses_in, pulses_of, quiet, refused, run, step, ticks_in, unit_of}
use Rattle.same_tariffs.specs.Drives.{BeginsIn, IsReached, WasHiredIn, drop, drops, events_to, hire}
use Rattle.same_tariffs.proofs.{Trips.{sum-more}, WayTexts.{events-in, way-short}}
use Rattle.taxi_units.specs.declared.event.Event.TheVariants as events
use Rattle.taxi_units.specs.declared.event.Why.TheVariants as why
use Rattle.taxi_units.specs.declared.receipt.Kind.TheVariants as kinds
use Rattle.totals_record.specs.declared.change.Change.TheVariants as changes

-- a meter with a trip at the beginning of an interval
abbrev at_second : Operating → (second position zone : ℕ) → Option Display → MeterTrip → Durable → Meter
at_second operating second position zone last t d = record {
  operating = operating;
  clock = second;
  began = second;
  taken = [];
  latch = None;
  position = position;
  zone = zone;
  roaming = [];
  shown = last;
  trip = Some t;
  durable = d;
}

-- what a drop leaves of an interval of p pulses
abbrev part_of_drop : (p : ℕ) → Part
part_of_drop p = Rest (sum (min p 2000 ∷ []))

-- such a meter in Hired, with so many pulses and ticks, and the number of its store
pub record IsAt (b : MeterTrip) (second position zone pulses ticks number : ℕ) (m : Meter) : Type 0 where
  pub shown_last : Option Display
  pub trip : MeterTrip
  pub durable : Durable
  pub state : m ≡ at_second Hired second position zone shown_last trip durable
  pub pulses_are : pulses_of trip ≡ pulses
  pub ticks_are : ticks_of trip ≡ ticks
  pub number_is : durable.number ≡ number
  pub fees_are : trip.fees ≡ b.fees
  pub cover_is : trip.opening.cover ≡ b.opening.cover

-- a number that isn't below the most
not-reached : (most n : ℕ) → n < most → nat_le most n ≡ false
not-reached most n below = grind (arith, common_steps)

below-is : (n most : ℕ) → n < most → nat_lt n most ≡ true
below-is n most below = grind (arith, common_steps)

reached-self : (n : ℕ) → nat_le n n ≡ true
reached-self n = grind (arith, common_steps)

reached-more : (n k : ℕ) → nat_le n (n + k) ≡ true
reached-more n k = grind (arith, common_steps)

-- what is left of a tick behind a key or an expiry
abbrev after_key : Setting → Meter → Meter
after_key s m = (roaming_checked s m >>= (λ (n : Meter). shown s n >>= interval_begun)).next

abbrev turned : Outcome → Meter
turned o = (turned_off o.next).next

abbrev came : Setting → Outcome → Meter
came s o = (shown s o.next).next

both-next : (s : Setting) (xs ys : List Event) (m : Meter)
    → (run s (xs ++ ys) m).next ≡ (run s ys (run s xs m).next).next
both-next s xs ys m = ap (λ (o : Outcome). o.next) (runs_add_up s xs ys m)

-- the same meter, with the same counts
same-at : {b : MeterTrip} {second position zone p q t u n k : ℕ} {m o : Meter} → IsAt b second position zone p t n m
    → o ≡ m → p ≡ q → t ≡ u → n ≡ k → IsAt b second position zone q u k o
same-at at is pulses ticks number = record {
  shown_last = at.shown_last;
  trip = at.trip;
  durable = at.durable;
  state = is ∙ at.state;
  pulses_are = at.pulses_are ∙ pulses;
  ticks_are = at.ticks_are ∙ ticks;
  number_is = at.number_is ∙ number;
  fees_are = at.fees_are;
  cover_is = at.cover_is;
}

module _ (s : Setting) (second position zone : ℕ) where
  -- ---- a tick

  tick-state : (last : Option Display) (t : MeterTrip) (d : Durable) (u : MeterTrip)
      → u ≡ with_part (InHired 0 (context_of s (at_second Hired second position zone last t d))) t
      → ticks_of u < longest_trip
      → (step s Tick (at_second Hired second position zone last t d)).next ≡ at_second Hired second position zone
      (Some (display_of s (at_second Hired second position zone last u d))) u d
  tick-state last t d u is short =
      let n = at_second Hired second position zone last u d in
      let first : (step s Tick (at_second Hired second position zone last t d)).next ≡ after_key s
      (if nat_le longest_trip (ticks_of u) then expired s n else key_pressed s n).next =
      ap (λ (v : MeterTrip). after_key s (if nat_le longest_trip (ticks_of v) then expired s
      (at_second Hired second position zone last v d) else key_pressed s
      (at_second Hired second position zone last v d)).next)
      (sym is) in
      first ∙ ap (λ (b : Bool). after_key s (if b then expired s n else key_pressed s n).next)
      (not-reached longest_trip (ticks_of u) short)

  tick-at : {b : MeterTrip} {pulses ticks number : ℕ} {m : Meter} → IsAt b second position zone pulses ticks number m
      → ticks + 1 < longest_trip → IsAt b second position zone pulses (ticks + 1) number (step s Tick m).next
  tick-at {ticks} at short =
      let x = context_of s (at_second Hired second position zone at.shown_last at.trip at.durable) in
      let u = with_part (InHired 0 x) at.trip in
      let more : ticks_of u ≡ ticks + 1 =
      omega (arith, sum-more ticks_in at.trip.parts (InHired 0 x), at.ticks_are) in
      record {
        shown_last = Some (display_of s (at_second Hired second position zone at.shown_last u at.durable));
        trip = u;
        durable = at.durable;
        state = ap (λ (n : Meter). (step s Tick n).next) at.state
            ∙ tick-state at.shown_last at.trip at.durable u refl (omega (arith, more, short));
        pulses_are = omega (arith, sum-more pulses_in at.trip.parts (InHired 0 x), at.pulses_are);
        ticks_are = more;
        number_is = at.number_is;
        fees_are = at.fees_are;
        cover_is = at.cover_is;
      }

  -- ---- a drop, behind which the store holds the trip

  drop-state : (p : ℕ) (last : Option Display) (t : MeterTrip) (d : Durable) → d.number < last_number
      → (run s (Pulses p ∷ Down ∷ []) (at_second Hired second position zone last t d)).next
      ≡ at_second Off second position zone last (with_part (part_of_drop p) t)
      (after d (changes.Hold (held_trip s second false position zone (with_part (part_of_drop p) t))))
  drop-state p last t d low =
      let u = with_part (part_of_drop p) t in
      let n = at_second Hired second position zone last u d in
      ap (λ (b : Bool). turned (if b then held (held_trip s second false position zone u) n else closed s kinds.Aborted
      second n)) (below-is d.number last_number low)

  up-state : (last : Option Display) (t : MeterTrip) (d : Durable) (h : Trip)
      → d.hold ≡ Some h → h ≡ held_trip s second false position zone t
      → (step s (Up second) (at_second Off second position zone last t d)).next
      ≡ at_second Hired second position zone
      (Some (display_of s (at_second Hired second position zone None t d))) t d
  up-state last t d h is held =
      let n = powered second (at_second Off second position zone last t d) in
      let e = held_trip s second false position zone t in
      let first = ap (λ (o : Option Trip). came s (hold_taken s second o n))
      (is ∙ ap (λ (x : Trip). Some x) held) in
      let within : is_within_hold s second e ≡ true = ap (λ (b : Bool). b && nat_le second (second + s.hold_time))
      (reached-self second) ∙ reached-more second s.hold_time in
      first ∙ ap (λ (b : Bool). came s (if b then resumed e n else aborted s e n)) within

  drop-at : {b : MeterTrip} {pulses ticks number : ℕ} {m : Meter} (p : ℕ)
      → IsAt b second position zone pulses ticks number m → p ≤ 2000 → number < last_number
      → IsAt b second position zone (pulses + p) ticks (number + 1) (run s (Pulses p ∷ Down ∷ Up second ∷ []) m).next
  drop-at p at few low =
      let u = with_part (part_of_drop p) at.trip in
      let h = held_trip s second false position zone u in
      let d = after at.durable (changes.Hold h) in
      let first = drop-state p at.shown_last at.trip at.durable (omega (arith, low, at.number_is)) in
      record {
        shown_last = Some (display_of s (at_second Hired second position zone None u d));
        trip = u;
        durable = d;
        state = ap (λ (n : Meter). (run s (Pulses p ∷ Down ∷ Up second ∷ []) n).next) at.state
            ∙ ap (λ (n : Meter). (step s (Up second) n).next) first
            ∙ up-state at.shown_last u d h refl refl;
        pulses_are = omega (arith, sum-more pulses_in at.trip.parts (part_of_drop p), at.pulses_are, few);
        ticks_are = omega (arith, sum-more ticks_in at.trip.parts (part_of_drop p), at.ticks_are);
        number_is = ap (λ (n : ℕ). n + 1) at.number_is;
        fees_are = at.fees_are;
        cover_is = at.cover_is;
      }

  -- ---- any number of each

  drops-at : (many : ℕ) {b : MeterTrip} {pulses ticks number : ℕ} (m : Meter)
      → IsAt b second position zone pulses ticks number m → number + many < last_number
      → IsAt b second position zone (pulses + 2000 * many) ticks (number + many) (run s (drops second many) m).next
  drops-at zero m at low = same-at at refl (omega arith) refl (omega arith)
  drops-at (suc many) m at low =
      let n = (run s (Pulses 2000 ∷ Down ∷ Up second ∷ []) m).next in
      let first = drop-at 2000 at (omega arith) (omega (arith, low)) in
      same-at (drops-at many n first (omega (arith, low)))
      (both-next s (Pulses 2000 ∷ Down ∷ Up second ∷ []) (drops second many) m) (omega arith) refl (omega arith)

  ticks-at : (many : ℕ) {b : MeterTrip} {pulses ticks number : ℕ} (m : Meter)
      → IsAt b second position zone pulses ticks number m → ticks + many < longest_trip
      → IsAt b second position zone pulses (ticks + many) number (run s (replicate many Tick) m).next
  ticks-at zero m at short = same-at at refl refl (omega arith) refl
  ticks-at (suc many) m at short =
      same-at (ticks-at many (step s Tick m).next (tick-at at (omega (arith, short))) (omega (arith, short)))
      refl refl (omega arith) refl

  -- a drop for any pulses that an interval can have, and none for no pulse
  drop-some : {b : MeterTrip} {pulses ticks number : ℕ} (p : ℕ) (m : Meter)
      → IsAt b second position zone pulses ticks number m → p ≤ 2000 → number < last_number
      → (k : ℕ) × IsAt b second position zone (pulses + p) ticks k (run s (drop second p) m).next
  drop-some {number} zero m at few low = (number, same-at at refl (omega arith) refl refl)
  drop-some {number} (suc p) m at few low = (number + 1, drop-at (suc p) at few low)

-- ---- the hiring

-- a meter for hire, with a key that waits
abbrev for_hire : (second position zone : ℕ) → (latch : Option Key) → (roaming : List ℕ) → Option Display → Meter
for_hire second position zone latch roaming last = record {
  operating = ForHire;
  clock = second;
  began = second;
  taken = [];
  latch = latch;
  position = position;
  zone = zone;
  roaming = roaming;
  shown = last;
  trip = None;
  durable = first_state;
}

-- the display of a state in front of it
abbrev showing : Setting → Meter → Meter
showing s m = record m { shown = Some (display_of s m) }

position-first : (s : Setting) (second n : ℕ) (last : Option Display) → is_among s.tariff.positions n ≡ true
    → (run s (events.Key (Position n) ∷ Tick ∷ []) (for_hire second 1 1 None [] last)).next ≡ showing s
    (for_hire second n 1 None (0 ∷ []) last)
position-first s second n last is =
    let m = for_hire second 1 1 None (0 ∷ []) last in
    ap (λ (b : Bool). after_key s (if b then quiet (record m { position = n }) else refused why.NoSuch m).next) is

zone-second : (s : Setting) (second position n : ℕ) (last : Option Display) → is_among s.tariff.zones n ≡ true
    → (run s (events.Key (Zone n) ∷ Tick ∷ []) (for_hire second position 1 None (0 ∷ []) last)).next ≡ showing s
    (for_hire second position n None (0 ∷ 0 ∷ []) last)
zone-second s second position n last is =
    let m = for_hire second position 1 None (0 ∷ 0 ∷ []) last in
    ap (λ (b : Bool). after_key s (if b then quiet (record m { zone = n }) else refused why.NoSuch m).next) is

-- the trip that a hiring begins there
abbrev begun_there : Setting → (second position zone : ℕ) → MeterTrip
begun_there s second position zone =
    begun s (fees_in_force s.tariff (context_now s (for_hire second position zone None (0 ∷ 0 ∷ 0 ∷ []) None))) second 0

hired-third : (s : Setting) (second position zone : ℕ) (last : Option Display)
    → IsAt (begun_there s second position zone) second position zone 0 0 1
    (run s (events.Key Hire ∷ Tick ∷ []) (for_hire second position zone None (0 ∷ 0 ∷ []) last)).next
hired-third s second position zone last =
    let fee = fees_in_force s.tariff (context_now s (for_hire second position zone None (0 ∷ 0 ∷ 0 ∷ []) last)) in
    let t = begun s fee second 0 in
    record {
      shown_last = Some (display_of s (at_second Hired second position zone last t first_state));
      trip = t;
      durable = first_state;
      state = refl;
      pulses_are = refl;
      ticks_are = refl;
      number_is = refl;
      fees_are = refl;
      cover_is = refl;
    }

among-is : (most n : ℕ) → IsFromTo 1 most n → is_among most n ≡ true
among-is most n is = grind (arith, common_steps)

hire-at : (s : Setting) (second position zone : ℕ) → IsFromTo 1 s.tariff.positions position
    → IsFromTo 1 s.tariff.zones zone
    → IsAt (begun_there s second position zone) second position zone 0 0 1
    (run s (hire second position zone) (opened s first_state)).next
hire-at s second position zone one other =
    let first = (showing s (for_hire second 1 1 None [] None)).shown in
    let m = showing s (for_hire second position 1 None (0 ∷ []) first) in
    let n = showing s (for_hire second position zone None (0 ∷ 0 ∷ []) m.shown) in
    let third = hired-third s second position zone n.shown in
    let set = position-first s second position first (among-is s.tariff.positions position one) in
    let also = zone-second s second position zone m.shown (among-is s.tariff.zones zone other) in
    same-at third (ap (λ (x : Meter). (run s (events.Key (Zone zone) ∷ Tick ∷ events.Key Hire ∷ Tick ∷ []) x).next) set
    ∙ ap (λ (x : Meter). (run s (events.Key Hire ∷ Tick ∷ []) x).next) also) refl refl refl

-- ---- the whole drive

events-at : (s : Setting) (second : ℕ) (c : MeterContext) → IsFromTo 1 s.tariff.positions c.position
    → IsFromTo 1 s.tariff.zones c.zone → c.ticks ≤ last_tick → c.pulses ≤ most_pulses
    → (k : ℕ) × IsAt (begun_there s second c.position c.zone) second c.position c.zone c.pulses c.ticks k
    (run s (events_to second c) (opened s first_state)).next
events-at s second c one other short few =
    let many = c.pulses / 2000 in
    let more = c.pulses % 2000 in
    let o = opened s first_state in
    let xs = drop second more ++ replicate c.ticks Tick in
    let split : 2000 * many + more ≡ c.pulses = div-add-mod c.pulses 2000 in
    let hired = (run s (hire second c.position c.zone) o).next in
    let dropped = (run s (drops second many) hired).next in
    let more_dropped = (run s (drop second more) dropped).next in
    let first = hire-at s second c.position c.zone one other in
    let second_at = drops-at s second c.position c.zone many hired first (omega (arith, split, few)) in
    let third = drop-some s second c.position c.zone more dropped second_at (omega arith) (omega (arith, split, few)) in
    let last = ticks-at s second c.position c.zone c.ticks more_dropped third.1 (omega (arith, short)) in
    let whole : (run s (events_to second c) o).next ≡ (run s (replicate c.ticks Tick) more_dropped).next =
    both-next s (hire second c.position c.zone) (drops second many ++ xs) o ∙ both-next s (drops second many) xs
    hired ∙ both-next s (drop second more) (replicate c.ticks Tick) dropped in
    (third.0, same-at last whole (omega (arith, split)) (omega arith) refl)

-- ---- the context

-- the context of a local day and a minute
abbrev context_from : Setting → (day : ℤ) → (minute : ℕ) → (position zone pulses ticks : ℕ) → Context
context_from s day minute position zone pulses ticks =
    let date = date_after (unsigned_abs day) in
    record {
      constant = s.constant;
      position = position;
      zone = zone;
      weekday = weekday_of day;
      month_day = date_place date.month date.date;
      holiday = has_date s.tariff.holidays date.year date.month date.date;
      minute = minute;
      pulses = pulses;
      ticks = ticks;
    }

one-offset : (second : ℕ) (offset : ℤ) → first_second ≤ second → local_second ((first_second, offset) ∷ []) second ≡ pos
    second +ℤ offset
one-offset second offset from =
    let begun_then : nat_le first_second second ≡ true = grind (arith, common_steps) in
    ap (λ (b : Bool). pos second +ℤ (if b then offset else pos 0)) begun_then

-- the context of a meter, with other pulses and ticks
abbrev with_counts : MeterContext → (pulses ticks : ℕ) → MeterContext
with_counts c pulses ticks = record c { pulses = pulses; ticks = ticks }

module _ (t : Tree) (k : ℕ) (mode : Mode) (hold : ℕ) (c : MeterContext) (is : IsMeterContext t c) where
  abbrev here : Setting
  here = under_offset t k mode hold is.time.offset

  -- the context at the second of the drive, with any pulses and ticks
  context-there : (pulses ticks : ℕ)
      → context_from here (day_of (local_second here.offsets is.time.second))
      (minute_of_day (local_second here.offsets is.time.second)) c.position c.zone pulses ticks
      ≡ context_at t k (with_counts c pulses ticks)
  context-there pulses ticks =
      let z = pos is.time.second +ℤ is.time.offset in
      ap (λ (x : ℤ). context_from here (day_of x) (minute_of_day x) c.position c.zone pulses ticks)
      (one-offset is.time.second is.time.offset is.time.second_in.0)
      ∙ ap (λ (d : ℤ). context_from here d (minute_of_day z) c.position c.zone pulses ticks) is.time.day_is
      ∙ ap (λ (n : ℕ). context_from here (pos c.day) n c.position c.zone pulses ticks) is.time.minute_is

  -- the last interval of the drive begins in the context
  begins-there : (number : ℕ) (m : Meter) → IsAt (begun_there here is.time.second c.position c.zone) is.time.second
      c.position c.zone c.pulses c.ticks number m → BeginsIn t here c m
  begins-there number m at = record {
    hired = ap (λ (n : Meter). n.operating) at.state;
    begins = ap (λ (n : Meter). n.taken) at.state;
    context = ap (context_of here) at.state
        ∙ context-there (pulses_of at.trip) (ticks_of at.trip)
        ∙ ap (λ (n : ℕ). context_at t k (with_counts c n (ticks_of at.trip))) at.pulses_are
        ∙ ap (λ (n : ℕ). context_at t k (with_counts c c.pulses n)) at.ticks_are;
  }

  -- and its trip was hired in the same, without ticks and pulses
  hired-there : (number : ℕ) (m : Meter) → IsAt (begun_there here is.time.second c.position c.zone) is.time.second
      c.position c.zone c.pulses c.ticks number m
      → WasHiredIn t here (without_trip c) m
  hired-there number m at =
      let fee : initial_by t
      (context_now here (for_hire is.time.second c.position c.zone None (0 ∷ 0 ∷ 0 ∷ []) None)) ≡ initial_by t
      (context_at t k (without_trip c)) =
      ap (initial_by t) (context-there 0 0) in
      record {
        trip = at.trip;
        has = ap (λ (n : Meter). n.trip) at.state;
        fees = at.fees_are ∙ ap fees_of fee;
        cover = at.cover_is ∙ ap (λ (i : Initial). i.covers * unit_of here) fee;
      }

  there : (number : ℕ) × IsAt (begun_there here is.time.second c.position c.zone) is.time.second c.position c.zone
      c.pulses c.ticks number (meter_after here (events_to is.time.second c))
  there = events-at here is.time.second c is.position is.zone is.ticks is.pulses

-- ---- and its events are those of a drive

pub each-reached : (t : Tree) (k : ℕ) (mode : Mode) (hold : ℕ) (c : MeterContext) → IsWritable t → IsSound t
    → IsMeterContext t c → IsReached t k mode hold c
each-reached t k mode hold c writable sound is =
    let parts = sound_tariffs_have_sound_parts-parts t writable sound in
    let s = under_offset t k mode hold is.time.offset in
    let at = there t k mode hold c is in
    let events = events_to is.time.second c in
    let range = events-in is.time.second c is.time.second_in (omega (arith, is.position.1, parts.positions.1))
    (omega (arith, is.zone.1, parts.zones.1)) in
    let few = way-short is.time.second c range is.ticks is.pulses in
    let means = sym (written_drive_means events range few) in
    record {
      offset = is.time.offset;
      drive = drive_of events;
      offset_in = is.time.offset_in;
      lines = ap drive_of means;
      ends = written_drive_ends events range few;
      begins = subst (λ (es : List Event). BeginsIn t s c (meter_after s es)) means
          (begins-there t k mode hold c is at.0 (meter_after s events) at.1);
      hired = subst (λ (es : List Event). WasHiredIn t s (without_trip c) (meter_after s es)) means
          (hired-there t k mode hold c is at.0 (meter_after s events) at.1);
    }
