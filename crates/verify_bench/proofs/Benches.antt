-- What the meter of the bench stands for.
use Rattle.std.specs.Prelude.{if◌then◌else◌, min, nat_le}
use Rattle.std.proofs.Common.{[], ℕ, ◌++◌, ◌+◌, ◌-◌, ◌<◌, ◌^◌, ◌∙◌, ◌∷◌, ◌≡◌, ◌≤◌, ◌⊎◌, Bool, List, None, Option, Some}
use Rattle.std.proofs.Common.{ap, append_assoc, arith, false, inl, inr, map, refl, subst, sum, sym, true}
use Rattle.std.proofs.lemmas.{Bool.{le-leb, lt-leb}, List.{append-nil, map-append, Elements.{filter_map-append}}}
use Rattle.{totals_record.specs.Entries.{is_of_hiring}, meter_model.specs.Trip.{pulses_of, ticks_of}}
use Rattle.verify_bench.specs.Bench.{AreTrips, BenchStands, HasTicks, IsHiringInRange, IsMeterInRange, Moves}
use Rattle.verify_bench.specs.Common.{◌>>=◌, Act, BenchMeter, Context, Display, Explained, ForHire, Group, Hired}
use Rattle.verify_bench.specs.Common.{Hiring, InHired, Key, Kind, Meter, MeterTrip, Off, Operating, Outcome, Setting}
use Rattle.verify_bench.specs.Common.{Show, Stopped, Sums, Supplement, Taken, closed, context_now, context_of}
use Rattle.verify_bench.specs.Common.{counted_in, display_of, extra_added, hirings_end, interval_begun}
use Rattle.verify_bench.specs.Common.{interval_counted, is_shown, key_in, last_number, latch_refused, pulses_in}
use Rattle.verify_bench.specs.Common.{pulses_so_far, receipt_of, roaming_checked, roaming_entered, shown, ticks_in}
use Rattle.verify_bench.specs.{Common.{ticks_so_far, times, with_interval, with_part}, Groups.{groups_of, sums_of}}
use Rattle.verify_bench.{specs.Hirings.{IsHiringOf}, proofs.GatheredSums.{zero_plus}}
use Rattle.verify_bench.specs.{Receipts.{receipt_in, receipts_in}, TripExplanations.{taken_of, whole_of}}
use Rattle.verify_bench.specs.TripExplanations.{Explanation, explanation, explanation_of, explanations_in, hired_by}
use Rattle.taxi_units.specs.declared.event.Key.TheVariants as keys
use Rattle.meter_model.specs.Trip as model
use Rattle.taxi_units.specs.declared.receipt.Receipt as receipts

-- the sums of a hiring are those of its trip
pub whole_ticks : (s : Setting) (hired : Context) (hiring : Hiring) (trip : MeterTrip) → IsHiringOf s hired hiring trip
    → hiring.whole.ticks ≡ ticks_of trip
whole_ticks s hired hiring trip is =
    let opening : trip.opening.ticks ≡ 0 = ap (λ (o : model.Opening). o.ticks) is.opening in
    let whole : hiring.whole.ticks ≡ sum (map ticks_in trip.parts) = ap (λ (w : Sums). w.ticks) is.whole in
    omega (arith, whole, opening)

pub whole_pulses : (s : Setting) (hired : Context) (hiring : Hiring) (trip : MeterTrip) → IsHiringOf s hired hiring trip
    → hiring.whole.pulses ≡ pulses_of trip
whole_pulses s hired hiring trip is =
    let opening : trip.opening.pulses ≡ 0 = ap (λ (o : model.Opening). o.pulses) is.opening in
    let whole : hiring.whole.pulses ≡ sum (map pulses_in trip.parts) = ap (λ (w : Sums). w.pulses) is.whole in
    omega (arith, whole, opening)

-- the trip that stands beside a hiring
pub trip_beside : (s : Setting) (hired : Context) (hiring : Hiring) (found : Option Hiring) (trip : Option MeterTrip)
    → found ≡ Some hiring → AreTrips s hired found trip
    → (t : MeterTrip) × (trip ≡ Some t) × IsHiringOf s hired hiring t
trip_beside s hired hiring None trip is are = absurd cc
trip_beside s hired hiring (Some other) None is are = absurd are
trip_beside s hired hiring (Some other) (Some t) is are =
    let same : other ≡ hiring = cc in
    (t, refl, rw same at are)

-- a meter is sound in other bounds if its hiring is
sound_as : (most more most' more' : ℕ) (meter : BenchMeter)
    → (IsHiringInRange meter.number most more meter.hiring → IsHiringInRange meter.number most' more' meter.hiring)
    → IsMeterInRange most more meter → IsMeterInRange most' more' meter
sound_as most more most' more' meter hiring sound = record {
  clock = sound.clock;
  began = sound.began;
  taken = sound.taken;
  for_hire = sound.for_hire;
  held = sound.held;
  hiring = hiring sound.hiring;
}

-- wider bounds
looser_hiring : (number most more most' more' : ℕ) (hiring : Option Hiring) → most ≤ most' → more ≤ more'
    → IsHiringInRange number most more hiring → IsHiringInRange number most' more' hiring
looser_hiring number most more most' more' None m n sound = tt
looser_hiring number most more most' more' (Some hiring) m n sound =
    (sound.0, omega (arith, sound.1), sound.2, omega (arith, sound.3))

pub looser : (most more most' more' : ℕ) (meter : BenchMeter) → most ≤ most' → more ≤ more'
    → IsMeterInRange most more meter → IsMeterInRange most' more' meter
looser most more most' more' meter m n =
    sound_as most more most' more' meter (looser_hiring meter.number most more most' more' meter.hiring m n)

-- a trip that hasn't reached its longest time
timely_hiring : (number ticks : ℕ) (hiring : Option Hiring) → HasTicks hiring ticks → ticks < 8640000
    → IsHiringInRange number 8640000 0 hiring → IsHiringInRange number 8639999 0 hiring
timely_hiring number ticks None has few sound = tt
timely_hiring number ticks (Some hiring) has few sound = (sound.0, sound.1, sound.2, omega (arith, has, few))

pub timely : (meter : BenchMeter) (ticks : ℕ) → HasTicks meter.hiring ticks → ticks < 8640000
    → IsMeterInRange 8640000 0 meter → IsMeterInRange 8639999 0 meter
timely meter ticks has few =
    sound_as 8640000 0 8639999 0 meter (timely_hiring meter.number ticks meter.hiring has few)

-- without a hiring no bound says anything
pub sound_without : (most more most' more' : ℕ) (meter : BenchMeter) → meter.hiring ≡ None
    → IsMeterInRange most more meter → IsMeterInRange most' more' meter
sound_without most more most' more' meter none = sound_as most more most' more' meter (λ sound. rw none tt)

pub ticks_beside : (s : Setting) (hired : Context) (meter : BenchMeter) (m : Meter) (hiring : Hiring)
    → meter.hiring ≡ Some hiring → BenchStands s hired meter m → hiring.whole.ticks ≡ ticks_so_far m.trip
ticks_beside s hired meter m hiring is stands =
    let trip = trip_beside s hired hiring meter.hiring m.trip is stands.trips in
    rw trip.1 (whole_ticks s hired hiring trip.0 trip.2)

pub pulses_beside : (s : Setting) (hired : Context) (meter : BenchMeter) (m : Meter) (hiring : Hiring)
    → meter.hiring ≡ Some hiring → BenchStands s hired meter m → hiring.whole.pulses ≡ pulses_so_far m.trip
pulses_beside s hired meter m hiring is stands =
    let trip = trip_beside s hired hiring meter.hiring m.trip is stands.trips in
    rw trip.1 (whole_pulses s hired hiring trip.0 trip.2)

-- long roaming is entered for hire
pub roams : (s : Setting) (hired : Context) (meter : BenchMeter) (m : Meter) → BenchStands s hired meter m
    → meter.operating ≡ ForHire → 1000000 ≤ meter.roam → roaming_checked s m ≡ roaming_entered s m
roams s hired meter m stands is long =
    let operating : m.operating ≡ ForHire = sym stands.operating ∙ is in
    let many : nat_le 1000000 (sum m.roaming) ≡ true = le-leb 1000000 (sum m.roaming) (omega (arith, stands.roam)) in
    rw (operating, many) refl

-- an interval in Hired
pub counted_hired : (s : Setting) (hired : Context) (meter : BenchMeter) (m : Meter) (x : Context)
    → BenchStands s hired meter m → meter.operating ≡ Hired → x ≡ context_of s m
    → with_interval (InHired meter.taken x) m ≡ (interval_counted s m).next
counted_hired s hired meter m x stands is context =
    let operating : m.operating ≡ Hired = sym stands.operating ∙ is in
    rw (operating, context, stands.taken) refl

-- what is made of the receipts of acts and of those behind them
pub of_receipts-append : {A : Type 0} (make : receipts.Receipt → A) (first others : List Act)
    → map make (receipts_in (first ++ others)) ≡ map make (receipts_in first) ++ map make (receipts_in others)
of_receipts-append make first others =
    ap (map make) (filter_map-append receipt_in first others) ∙ map-append make (receipts_in first) (receipts_in others)

abbrev told : List Explained → List Explanation
told list = map explanation_of list

-- one stage and then another
pub moves_then : (s : Setting) (hired mid next : Context) (trip : Option MeterTrip) (a b c : List Explained)
    (one two : BenchMeter) (o : Outcome) (more : Meter → Outcome)
    → Moves s hired mid trip a b one o → Moves s hired next trip b c two (more o.next)
    → Moves s hired next trip a c two (o >>= more)
moves_then s hired mid next trip a b c one two o more first other = record {
  state = other.state;
  found = other.found
      ∙ (ap (λ (list : List Explanation). list ++ explanations_in s hired trip (more o.next).acts) first.found
      ∙ (append_assoc (told a) (explanations_in s hired trip o.acts) (explanations_in s hired trip (more o.next).acts)
      ∙ ap (λ (list : List Explanation). told a ++ list)
      (sym (of_receipts-append (explanation s hired trip) o.acts (more o.next).acts))));
}

-- a stage without acts
pub moves_quietly : (s : Setting) (hired next : Context) (trip : Option MeterTrip) (found : List Explained)
    (meter : BenchMeter) (m : Meter) → BenchStands s next meter m
    → Moves s hired next trip found found meter (record { next = m; acts = [] })
moves_quietly s hired next trip found meter m stands = record { state = stands; found = sym (append-nil (told found)) }

no_receipt : (s : Setting) (hired : Context) (trip : Option MeterTrip) (b : Bool) (display : Display)
    → explanations_in s hired trip (if b then [] else Show display ∷ []) ≡ []
no_receipt s hired trip true display = refl
no_receipt s hired trip false display = refl

-- a meter stands for a state in which the latch and the beginning of the interval are others, as its own are, and in
-- which something else is shown
pub stands_anew : (s : Setting) (hired : Context) (meter : BenchMeter) (m : Meter) (began began' : ℕ)
    (latch latch' : Option Key) (display : Option Display) → began ≡ began' → latch ≡ latch'
    → BenchStands s hired meter m
    → BenchStands s hired (record meter { began = began; latch = latch })
    (record m { began = began'; latch = latch'; shown = display })
stands_anew s hired meter m began began' latch latch' display begins waits stands = record {
  operating = stands.operating;
  clock = stands.clock;
  began = begins;
  taken = stands.taken;
  latch = waits;
  position = stands.position;
  zone = stands.zone;
  roam = stands.roam;
  number = stands.number;
  held = stands.held;
  trips = stands.trips;
}

-- the display is no matter of receipts
pub moves_shown : (s : Setting) (hired next : Context) (trip : Option MeterTrip) (found : List Explained)
    (meter : BenchMeter) (m : Meter) → BenchStands s next meter m
    → Moves s hired next trip found found meter (shown s m)
moves_shown s hired next trip found meter m stands = record {
  state = stands_anew s next meter m meter.began m.began meter.latch m.latch
      (Some (display_of s m)) stands.began stands.latch stands;
  found =
      rw (no_receipt s hired trip (is_shown m.shown (display_of s m)) (display_of s m)) (sym (append-nil (told found)));
}

-- the store takes a hiring yet
pub hires_yet : (s : Setting) (hired : Context) (meter : BenchMeter) (m : Meter) → BenchStands s hired meter m
    → meter.number < hirings_end → nat_le hirings_end m.durable.number ≡ false
hires_yet s hired meter m stands few = lt-leb hirings_end m.durable.number (omega (arith, stands.number))

-- the next interval begins
pub moves_begun : (s : Setting) (hired next : Context) (trip : Option MeterTrip) (found : List Explained)
    (meter : BenchMeter) (m : Meter) → BenchStands s next meter m
    → Moves s hired next trip found found (record meter { began = meter.clock }) (interval_begun m)
moves_begun s hired next trip found meter m stands = record {
  state = stands_anew s next meter m meter.clock m.clock meter.latch m.latch m.shown stands.clock stands.latch stands;
  found = sym (append-nil (told found));
}

-- a key acts in the operating position of the meter, and the context of the last hiring is what the key makes it
pub acts_by : (s : Setting) (hired now : Context) (trip : Option MeterTrip) (a b : List Explained) (meter : BenchMeter)
    (m : Meter) (key other : Key) (operating : Operating) → key ≡ other → m.operating ≡ operating
    → Moves s hired (hired_by (Some other) operating now hired) trip a b meter (key_in s other operating m)
    → Moves s hired (hired_by (Some key) m.operating now hired) trip a b meter (key_in s key m.operating m)
acts_by s hired now trip a b meter m key other operating is at moves =
    subst (λ (k : Key). Moves s hired (hired_by (Some k) m.operating now hired) trip a b meter
    (key_in s k m.operating m)) (sym is)
    (subst (λ (o : Operating). Moves s hired (hired_by (Some other) o now hired) trip a b meter (key_in s other o m))
    (sym at) moves)

-- a key acts alike in two operating positions
pub acts_by_either : (s : Setting) (hired now : Context) (trip : Option MeterTrip) (a b : List Explained)
    (meter : BenchMeter) (m : Meter) (key other : Key) (operating one two : Operating) → key ≡ other
    → operating ≡ m.operating
    → (operating ≡ one) ⊎ (operating ≡ two)
    → Moves s hired (hired_by (Some other) one now hired) trip a b meter (key_in s other one m)
    → Moves s hired (hired_by (Some other) two now hired) trip a b meter (key_in s other two m)
    → Moves s hired (hired_by (Some key) m.operating now hired) trip a b meter (key_in s key m.operating m)
acts_by_either s hired now trip a b meter m key other operating one two is same (inl at) first second =
    acts_by s hired now trip a b meter m key other one is (sym same ∙ at) first
acts_by_either s hired now trip a b meter m key other operating one two is same (inr at) first second =
    acts_by s hired now trip a b meter m key other two is (sym same ∙ at) second

-- the end of an interval leaves the key that waits and the operating position, and for hire the context of now
hired_in : (s : Setting) (operating : Operating) (pulses : ℕ) (latch : Option Key) (m : Meter) (hired : Context)
    → hired_by latch operating (context_now s (counted_in s operating pulses m)) hired
    ≡ hired_by latch operating (context_now s m) hired
hired_in s Off pulses latch m hired = refl
hired_in s ForHire pulses latch m hired = refl
hired_in s operating pulses (Some keys.Hire) m hired = refl
hired_in s operating pulses latch m hired = refl

pub same_latch : (s : Setting) (operating : Operating) (pulses : ℕ) (m : Meter)
    → (counted_in s operating pulses m).latch ≡ m.latch
same_latch s Off pulses m = refl
same_latch s ForHire pulses m = refl
same_latch s Hired pulses m = refl
same_latch s Stopped pulses m = refl

pub same_operating : (s : Setting) (operating : Operating) (pulses : ℕ) (m : Meter)
    → (counted_in s operating pulses m).operating ≡ m.operating
same_operating s Off pulses m = refl
same_operating s ForHire pulses m = refl
same_operating s Hired pulses m = refl
same_operating s Stopped pulses m = refl

pub hired_after : (s : Setting) (m : Meter) (hired : Context)
    → hired_by (interval_counted s m).next.latch (interval_counted s m).next.operating
    (context_now s (interval_counted s m).next) hired ≡ hired_by m.latch m.operating (context_now s m) hired
hired_after s m hired =
    rw (same_latch s m.operating (sum m.taken) m, same_operating s m.operating (sum m.taken) m)
    (hired_in s m.operating (sum m.taken) m.latch m hired)

-- the trip has an interval more
pub stands_with : (s : Setting) (hired : Context) (meter : BenchMeter) (m : Meter) (part : model.Part)
    (hiring more : Hiring) → meter.hiring ≡ Some hiring → BenchStands s hired meter m
    → ((t : MeterTrip) → IsHiringOf s hired hiring t → IsHiringOf s hired more (with_part part t))
    → BenchStands s hired (record meter { taken = 0; hiring = Some more }) (with_interval part m)
stands_with s hired meter m part hiring more is stands grows =
    let trip = trip_beside s hired hiring meter.hiring m.trip is stands.trips in
    record {
      operating = stands.operating;
      clock = stands.clock;
      began = stands.began;
      taken = refl;
      latch = stands.latch;
      position = stands.position;
      zone = stands.zone;
      roam = stands.roam;
      number = stands.number;
      held = stands.held;
      trips = rw trip.1 (grows trip.0 trip.2);
    }

-- the trip has a supplement more
extra_of : (s : Setting) (hired : Context) (hiring more : Hiring) (t : MeterTrip) (n : ℕ)
    → more ≡ record hiring { extras = more.extras } → more.extras.items ≡ hiring.extras.items ++ n ∷ []
    → IsHiringOf s hired hiring t → IsHiringOf s hired more (model.with_extra n t)
extra_of s hired hiring more t n others extras is =
    subst (λ (h : Hiring). IsHiringOf s hired h (model.with_extra n t)) (sym others) (record {
      started = is.started;
      fees = is.fees;
      opening = is.opening;
      own_fees = is.own_fees;
      whole = is.whole;
      rates = is.rates;
      stopped = is.stopped;
      dropped = is.dropped;
      extras = ap (λ (numbers : List ℕ). numbers ++ n ∷ []) is.extras ∙ sym extras;
      few = is.few;
    })

pub moves_extra : (s : Setting) (trip : Option MeterTrip) (found : List Explained) (hired next : Context)
    (meter : BenchMeter) (m : Meter) (n : ℕ) (supplement : Supplement) (hiring more : Hiring)
    → meter.hiring ≡ Some hiring → times n hiring.extras.items < supplement.max
    → more ≡ record hiring { extras = more.extras } → more.extras.items ≡ hiring.extras.items ++ n ∷ []
    → BenchStands s next meter m
    → Moves s hired next trip found found (record meter { hiring = Some more }) (extra_added n (Some supplement) m)
moves_extra s trip found hired next meter m n supplement hiring more is few others extras stands =
    let beside = trip_beside s next hiring meter.hiring m.trip is stands.trips in
    let t = beside.0 in
    let may : nat_le supplement.max (times n t.extras) ≡ false =
    lt-leb supplement.max (times n t.extras)
    (subst (λ (numbers : List ℕ). times n numbers < supplement.max) (sym beside.2.extras) few) in
    rw (beside.1, may) (record {
      state = record {
        operating = stands.operating;
        clock = stands.clock;
        began = stands.began;
        taken = stands.taken;
        latch = stands.latch;
        position = stands.position;
        zone = stands.zone;
        roam = stands.roam;
        number = stands.number;
        held = stands.held;
        trips = extra_of s next hiring more t n others extras beside.2;
      };
      found = sym (append-nil (map explanation_of found));
    })

-- the key that waits is lost
pub latch_lost : (s : Setting) (hired next : Context) (trip : Option MeterTrip) (found : List Explained)
    (meter : BenchMeter) (m : Meter) (latch : Option Key) → m.latch ≡ latch → BenchStands s next meter m
    → Moves s hired next trip found found (record meter { latch = None }) (latch_refused latch m)
latch_lost s hired next trip found meter m None is stands = record {
  state = stands_anew s next meter m meter.began m.began None m.latch m.shown stands.began (sym is) stands;
  found = sym (append-nil (told found));
}
latch_lost s hired next trip found meter m (Some key) is stands = record {
  state = stands_anew s next meter m meter.began m.began None None m.shown stands.began refl stands;
  found = sym (append-nil (told found));
}

-- a hiring has the sums of its whole trip
pub whole_is : (s : Setting) (hired : Context) (hiring : Hiring) (trip : MeterTrip) → IsHiringOf s hired hiring trip
    → hiring.whole ≡ whole_of s (Some trip)
whole_is s hired hiring trip is =
    let no_pulses : trip.opening.pulses ≡ 0 = ap (λ (o : model.Opening). o.pulses) is.opening in
    let no_ticks : trip.opening.ticks ≡ 0 = ap (λ (o : model.Opening). o.ticks) is.opening in
    let same : whole_of s (Some trip) ≡ sums_of s trip.parts =
    rw (no_pulses, no_ticks, zero_plus (sum (map pulses_in trip.parts)), zero_plus (sum (map ticks_in trip.parts))) refl
    in
    is.whole ∙ sym same

-- a trip is closed and taken apart
pub closes_trip : (s : Setting) (hired : Context) (kind : Kind) (finish : ℕ) (meter : BenchMeter) (m : Meter)
    (found after : List Explained) (hiring : Hiring) (left : Option Hiring) (e : Explained) (number : ℕ)
    → is_of_hiring kind ≡ true → meter.hiring ≡ Some hiring → left ≡ None → meter.number ≤ last_number
    → number ≡ min (meter.number + 1) (2 ^ 64 - 1) → BenchStands s hired meter m
    → ((t : MeterTrip) → IsHiringOf s hired hiring t
    → explanation_of e ≡ explanation s hired (Some t) (receipt_of s kind finish meter.position t number))
    → after ≡ found ++ e ∷ [] → Moves s hired hired m.trip found after
    (record meter { operating = ForHire; number = number; held = None; hiring = left }) (closed s kind finish m)
closes_trip s hired kind finish meter m found after hiring left e number ended is none few next stands tells grown =
    let beside = trip_beside s hired hiring meter.hiring m.trip is stands.trips in
    let t = beside.0 in
    let exact : number ≡ m.durable.number + 1 = omega (arith, next, few, stands.number) in
    let receipt : explanation_of e
    ≡ explanation s hired (Some t) (receipt_of s kind finish m.position t (m.durable.number + 1)) =
    tells t beside.2 ∙ rw (stands.position, exact) refl
    in
    rw (beside.1, none) (record {
      state = record {
        operating = refl;
        clock = stands.clock;
        began = stands.began;
        taken = stands.taken;
        latch = stands.latch;
        position = stands.position;
        zone = stands.zone;
        roam = stands.roam;
        number = omega (arith, next, stands.number);
        held = rw ended refl;
        trips = tt {0};
      };
      found = rw grown (map-append explanation_of found (e ∷ [])
          ∙ ap (λ (x : Explanation). map explanation_of found ++ x ∷ []) receipt);
    })

few_by : (number most more : ℕ) (found : Option Hiring) (hiring : Hiring) → found ≡ Some hiring
    → IsHiringInRange number most more found → number ≤ last_number
few_by number most more None hiring is sound = absurd cc
few_by number most more (Some other) hiring is sound = sound.2

pub few_numbers : (meter : BenchMeter) (hiring : Hiring) (most more : ℕ) → meter.hiring ≡ Some hiring
    → IsMeterInRange most more meter → meter.number ≤ last_number
few_numbers meter hiring most more is sound = few_by meter.number most more meter.hiring hiring is sound.hiring

-- a hiring is taken apart
pub taken_apart : (s : Setting) (hired : Context) (hiring : Hiring) (trip : MeterTrip) (receipt made : receipts.Receipt)
    (groups : List Group) (taken : List Taken) → IsHiringOf s hired hiring trip
    → receipt ≡ made → groups ≡ groups_of s trip.parts → taken ≡ taken_of s.tariff hiring.extras.items
    → record {
      receipt = receipt;
      fees = hiring.fees;
      whole = hiring.whole;
      groups = groups;
      stopped = hiring.stopped;
      dropped = hiring.dropped;
      taken = taken;
    }
    ≡ explanation s hired (Some trip) made
taken_apart s hired hiring trip receipt made groups taken is same grouped added =
    rw (
      same,
      is.own_fees,
      whole_is s hired hiring trip is,
      is.stopped,
      is.dropped,
      is.extras,
      added,
      grouped,
    ) refl
