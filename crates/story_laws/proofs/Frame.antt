-- A story from the hiring to the end: what holds of the moments so far is carried from event to event.
use Rattle.std.{specs.Prelude.{◌&&◌, if◌then◌else◌, nat_le, option_map, sum}, proofs.lemmas.List.{append-nil}}
use Rattle.std.proofs.Common.{[], ℕ, ◌++◌, ◌∙◌, ◌∷◌, ◌≡◌, Bool, List, None, Option, Some, ap, false, refl, sym, true}
use Rattle.meter_model.specs.{Interval.{left_in}, TripParts.{interval_in, rest_in}}
use Rattle.verify_bench.specs.Story.{clock_told, event_told, is_there, reading_told, reckoned, supply_told}
use Rattle.story_laws.specs.Common.{Event, ForHire, Happening, Hired, IsTripKept, IsTripKeptIn, Key, Meter, MeterTrip}
use Rattle.story_laws.specs.Common.{Off, Operating, Outcome, Part, Setting, Stopped, Telling, Trip, Why, counted_in}
use Rattle.story_laws.specs.Common.{happenings_of, is_empty, is_in_trip, key_told, latch_told, parts_by, rate_in}
use Rattle.story_laws.specs.Common.{rate_told, refusals_told, trip_at, whys_in, with_parts}
use Rattle.taxi_units.specs.declared.event.Event.TheVariants as events
use Rattle.verify_bench.specs.declared.moment.Happening.TheVariants as happenings

-- ---- trips

none_or : (trip : Option MeterTrip) → trip ≡ option_map (with_parts []) trip
none_or None = refl
none_or (Some t) = ap (λ (ps : List Part). Some (record t { parts = ps })) (sym (append-nil t.parts))

module _ (s : Setting) where
  counted_grows : (operating : Operating) (m : Meter) → (counted_in s operating (sum m.taken) m).trip
      ≡ option_map (with_parts (interval_in s operating m)) m.trip
  counted_grows Off m = none_or m.trip
  counted_grows ForHire m = none_or m.trip
  counted_grows Hired m = refl
  counted_grows Stopped m = refl

  left_grows : (operating : Operating) (m : Meter) → (left_in operating (sum m.taken) m).trip
      ≡ option_map (with_parts (rest_in operating m)) m.trip
  left_grows Off m = none_or m.trip
  left_grows ForHire m = none_or m.trip
  left_grows Hired m = refl
  left_grows Stopped m = refl

  pub grows : (event : Event) (m : Meter) → trip_at s event m ≡ option_map (with_parts (parts_by s event m)) m.trip
  grows events.Tick m = counted_grows m.operating m
  grows events.Down m = left_grows m.operating m
  grows (events.Up second) m = none_or m.trip
  grows (events.Pulses n) m = none_or m.trip
  grows (events.Clock second) m = none_or m.trip
  grows (events.Key key) m = none_or m.trip

  -- a trip that is there was there before the event
  pub record Grown (trip : Option MeterTrip) (parts : List Part) (t : MeterTrip) : Type 0 where
    pub u : MeterTrip
    pub there : trip ≡ Some u
    pub is : t ≡ with_parts parts u

  pub grown : (trip : Option MeterTrip) (parts : List Part) (t : MeterTrip) → option_map (with_parts parts) trip ≡ Some t
      → Grown trip parts t
  grown None parts t is = absurd cc
  grown (Some u) parts t is = record { u = u; there = refl; is = sym (let e : with_parts parts u ≡ t = cc in e) }

  pub none_before : (trip : Option MeterTrip) (parts : List Part) → option_map (with_parts parts) trip ≡ None → trip ≡ None
  none_before None parts is = refl
  none_before (Some u) parts is = absurd cc

  -- ---- out of a trip

  out_in : (operating : Operating) (hold : Option Trip) (trip : Option MeterTrip) (roaming : List ℕ)
      → IsTripKeptIn s operating hold trip roaming → trip ≡ None → is_in_trip operating ≡ false
  out_in Off hold trip roaming kept none = refl
  out_in ForHire hold trip roaming kept none = refl
  out_in Hired hold trip roaming kept none = absurd (kept.0 none)
  out_in Stopped hold trip roaming kept none = absurd (kept.0 none)

  pub out : (m : Meter) → IsTripKept s m → m.trip ≡ None → is_in_trip m.operating ≡ false
  out m kept none = out_in m.operating m.durable.hold m.trip m.roaming kept none

  refusals_out : (behind : Operating) (whys : List Why) → is_in_trip behind ≡ false → refusals_told behind whys ≡ []
  refusals_out behind whys is = rw is refl

  latch_out : (latch : Option Key) (m : Meter) (o : Outcome) → is_in_trip o.next.operating ≡ false
      → latch_told s latch m o ≡ []
  latch_out None m o is = refl
  latch_out (Some key) m o is = ap (λ (b : Bool). if b && is_empty (whys_in o.acts)
      then key_told s key m.operating m o.next else []) is

  supply_out : (before behind : Operating) → is_in_trip behind ≡ false
      → supply_told before behind ≡ []
  supply_out Off behind is = rw is refl
  supply_out ForHire behind is = refl
  supply_out Hired behind is = refl
  supply_out Stopped behind is = refl

  drop_out : (before : Bool) (behind : Option MeterTrip) → behind ≡ None
      → (if before && is_there behind
      then happenings.Lost ∷ [] else []) ≡ []
  drop_out true behind is = rw is refl
  drop_out false behind is = refl

  clock_out : (telling : Telling) (second : ℕ) (m : Meter) → is_in_trip m.operating ≡ false
      → clock_told telling second m ≡ []
  clock_out telling second m is = ap (λ (b : Bool). if b && nat_le m.clock second
      then reading_told (reckoned telling m) second else []) is

  event_out : (telling : Telling) (event : Event) (m : Meter) (o : Outcome) → is_in_trip o.next.operating ≡ false
      → o.next.trip ≡ None → ((second : ℕ) → event ≡ events.Clock second → is_in_trip m.operating ≡ false)
      → event_told s telling event m o ≡ []
  event_out telling events.Tick m o is none clock = latch_out m.latch m o is
  event_out telling (events.Up second) m o is none clock = supply_out m.operating o.next.operating is
  event_out telling events.Down m o is none clock = drop_out (is_in_trip m.operating) o.next.trip none
  event_out telling (events.Clock second) m o is none clock = clock_out telling second m (clock second refl)
  event_out telling (events.Pulses n) m o is none clock = refl
  event_out telling (events.Key key) m o is none clock = refl

  pub nothing : (telling : Telling) (event : Event) (m : Meter) (o : Outcome) → is_in_trip o.next.operating ≡ false
      → o.next.trip ≡ None → ((second : ℕ) → event ≡ events.Clock second → is_in_trip m.operating ≡ false)
      → happenings_of s telling event m o ≡ []
  nothing telling event m o is none clock =
      ap (λ (l : List Happening). l ++ refusals_told o.next.operating (whys_in o.acts))
      (event_out telling event m o is none clock) ∙ refusals_out o.next.operating (whys_in o.acts) is

  rate_out_in : (operating : Operating) (last : Option ℕ) (m : Meter) → is_in_trip operating ≡ false
      → rate_in s operating last m ≡ []
  rate_out_in Off last m is = refl
  rate_out_in ForHire last m is = refl
  rate_out_in Hired last m is = absurd cc
  rate_out_in Stopped last m is = refl

  pub rate_out : (event : Event) (last : Option ℕ) (m : Meter) → is_in_trip m.operating ≡ false
      → rate_told s event last m ≡ []
  rate_out events.Tick last m is = rate_out_in m.operating last m is
  rate_out (events.Up second) last m is = refl
  rate_out events.Down last m is = refl
  rate_out (events.Pulses n) last m is = refl
  rate_out (events.Clock second) last m is = refl
  rate_out (events.Key key) last m is = refl
