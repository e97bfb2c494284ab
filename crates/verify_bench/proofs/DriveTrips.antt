-- Each explanation is of a trip of its drive: by the tick that hired it, the parts that events added, and the event
-- that
-- closed it.
use Rattle.std.proofs.Common.{[], ℕ, ◌++◌, ◌∙◌, ◌∷◌, ◌≡◌, All, List, None, Option, Some, ap, append_assoc, map}
use Rattle.std.proofs.{Common.{option_map, refl, subst, sum, sym}, lemmas.List.Elements.{All-append, All-cons, All-nil}}
use Rattle.{std.proofs.lemmas.List.{append-nil}, meter_model.specs.{KeptTrip.{with_parts}, Run.{meter_after}}}
use Rattle.{meter_model.specs.Trip.{with_extra}, verify_bench.specs.ClosedTrips.{Hires, IsClosedTrip, TripOf}}
use Rattle.meter_model.specs.TripParts.{IsOnTrip, Lasts, interval_in, parts_by, parts_over, rest_in}
use Rattle.verify_bench.specs.Common.{Context, Event, ForHire, Hired, InHired, InStopped, IsSupplementNumber}
use Rattle.verify_bench.specs.Common.{IsTripKept, Key, Meter, MeterTrip, Off, Operating, Part, Receipt, Rest, Setting}
use Rattle.verify_bench.specs.Common.{Stopped, context_now, context_of, counted_in, ended, ended_in, first_state}
use Rattle.verify_bench.specs.Common.{interval_counted, left_in, opened, run, step, step_in, with_interval}
use Rattle.verify_bench.specs.{Receipts.{receipts_in}, TripExplanations.{explanations_of, hired_at, hired_by, trip_at}}
use Rattle.verify_bench.specs.TripExplanations.{Explanation, explanation, explanations_from, explanations_in}
use Rattle.verify_bench.{specs.Wholes.{BeganIn, IsOfText, IsOfTrip, IsReceiptAmong}, proofs.AmountSums.{all_numbers}}
use Rattle.verify_bench.proofs.Benches.{same_latch, same_operating}
use Rattle.verify_bench.proofs.Explanations.{AreOf, Goes, IsReceiptOf, begun_at, none_counted, none_kept, step_goes}
use Rattle.meter_model.proofs.Laws as states
use Rattle.taxi_units.specs.declared.event.Event.TheVariants as events
use Rattle.taxi_units.specs.declared.event.Key.TheVariants as keys

-- ---- a trip that may be none began in a context

abbrev Fresh : Setting → Context → Option MeterTrip → Type 0
Fresh s hired None = Unit {0}
Fresh s hired (Some t) = BeganIn s hired t

fresh_more : (s : Setting) (hired : Context) (part : Part) (m : Meter) (trip : Option MeterTrip) → m.trip ≡ trip
    → Fresh s hired m.trip → Fresh s hired (with_interval part m).trip
fresh_more s hired part m None is fresh = rw is tt
fresh_more s hired part m (Some t) is fresh =
    let began : BeganIn s hired t = rw is at fresh in
    rw is (record { fees = began.fees; opening = began.opening; extras = began.extras })

fresh_counted : (s : Setting) (hired : Context) (operating : Operating) (pulses : ℕ) (m : Meter) → Fresh s hired m.trip
    → Fresh s hired (counted_in s operating pulses m).trip
fresh_counted s hired Off pulses m fresh = fresh
fresh_counted s hired ForHire pulses m fresh = fresh
fresh_counted s hired Hired pulses m fresh = fresh_more s hired (InHired pulses (context_of s m)) m m.trip refl fresh
fresh_counted s hired Stopped pulses m fresh = fresh_more s hired (InStopped pulses) m m.trip refl fresh

fresh_left : (s : Setting) (hired : Context) (operating : Operating) (pulses : ℕ) (m : Meter) → Fresh s hired m.trip
    → Fresh s hired (left_in operating pulses m).trip
fresh_left s hired Off pulses m fresh = fresh
fresh_left s hired ForHire pulses m fresh = fresh
fresh_left s hired Hired pulses m fresh = fresh_more s hired (Rest pulses) m m.trip refl fresh
fresh_left s hired Stopped pulses m fresh = fresh_more s hired (Rest pulses) m m.trip refl fresh

fresh_at : (s : Setting) (hired : Context) (event : Event) (m : Meter) → Fresh s hired m.trip
    → Fresh s hired (trip_at s event m)
fresh_at s hired events.Tick m fresh = fresh_counted s hired m.operating (sum m.taken) m fresh
fresh_at s hired events.Down m fresh = fresh_left s hired m.operating (sum m.taken) m fresh
fresh_at s hired (events.Up second) m fresh = fresh
fresh_at s hired (events.Pulses n) m fresh = fresh
fresh_at s hired (events.Clock second) m fresh = fresh
fresh_at s hired (events.Key key) m fresh = fresh

fresh_extra : (s : Setting) (hired : Context) (n : ℕ) (t : MeterTrip) → (IsOfText s → IsSupplementNumber n)
    → Fresh s hired (Some t) → Fresh s hired (Some (with_extra n t))
fresh_extra s hired n t numbered fresh = record {
  fees = fresh.fees;
  opening = fresh.opening;
  extras = λ of_text. all_numbers n t.extras (numbered of_text) (fresh.extras of_text);
}

-- ---- what an event makes of a trip

-- a trip that a tick hired
record IsNew (s : Setting) (event : Event) (m : Meter) (t : MeterTrip) : Type 0 where
  pub tick : event ≡ events.Tick
  pub hires : Hires m
  pub parts : t.parts ≡ []
  pub started : t.started ≡ m.clock

-- a trip behind an event is the one with the event's part but for supplements, or a new one
abbrev Stays : Setting → Event → Meter → (next counted : Option MeterTrip) → Type 0
Stays s event m None counted = Unit {0}
Stays s event m (Some t) None = IsNew s event m t
Stays s event m (Some t) (Some b) = t ≡ record b { extras = t.extras }

stays_extra : (s : Setting) (event : Event) (m : Meter) (n : ℕ) (t : MeterTrip) (counted : Option MeterTrip)
    → Stays s event m (Some t) counted → Stays s event m (Some (with_extra n t)) counted
stays_extra s event m n t None new =
    record { tick = new.tick; hires = new.hires; parts = new.parts; started = new.started }
stays_extra s event m n t (Some b) same = ap (λ (u : MeterTrip). record u { extras = t.extras ++ n ∷ [] }) same

stays_self : (s : Setting) (event : Event) (m : Meter) (trip : Option MeterTrip) → Stays s event m trip trip
stays_self s event m None = tt
stays_self s event m (Some b) = refl

record Follows (s : Setting) (event : Event) (m : Meter) (hired : Context) (trip : Option MeterTrip) : Type 0 where
  pub fresh : Fresh s hired trip
  pub stays : Stays s event m trip (trip_at s event m)

-- the hiring that a tick may begin
begins : (s : Setting) (event : Event) (m : Meter) → IsTripKept s m → event ≡ events.Tick
    → (interval_counted s m).next.latch ≡ Some keys.Hire → (interval_counted s m).next.operating ≡ ForHire
    → Follows s event m (context_now s (interval_counted s m).next) (Some (begun_at s (interval_counted s m).next))
begins s event m kept tick waits for_hire =
    let p = sum m.taken in
    let m1 = (interval_counted s m).next in
    let none : (counted_in s m.operating p m).trip ≡ None = none_counted s m.operating p m refl kept for_hire in
    let free : m.operating ≡ ForHire = sym (same_operating s m.operating p m) ∙ for_hire in
    let counted : trip_at s event m ≡ None = ap (λ (e : Event). trip_at s e m) tick ∙ none in
    let new : IsNew s event m (begun_at s m1) = record {
      tick = tick;
      hires = record { free = free; waits = sym (same_latch s m.operating p m) ∙ waits };
      parts = refl;
      started = ap (λ (o : Operating). (counted_in s o p m).clock) free;
    } in
    record {
      fresh = record { fees = refl; opening = refl; extras = λ of_text. All-nil IsSupplementNumber };
      stays = subst (λ (o : Option MeterTrip). Stays s event m (Some (begun_at s m1)) o) (sym counted) new;
    }

one_step : (s : Setting) (hired : Context) (event : Event) (m : Meter) → IsTripKept s m → Fresh s hired m.trip
    → Goes (Follows s event m) s (hired_at s event m hired) (trip_at s event m) (step s event m)
one_step s hired event m kept fresh =
    step_goes s (Follows s event m) (λ (x : Context). record { fresh = tt; stays = tt })
    (λ (x : Context) (n : ℕ) (t : MeterTrip) numbered holds. record {
      fresh = fresh_extra s x n t numbered holds.fresh;
      stays = stays_extra s event m n t (trip_at s event m) holds.stays;
    })
    hired m.operating event m refl kept (begins s event m kept)
    (record { fresh = fresh_at s hired event m fresh; stays = stays_self s event m (trip_at s event m) })

-- the trip with the event's part
same_without : (trip : Option MeterTrip) → trip ≡ option_map (with_parts []) trip
same_without None = refl
same_without (Some t) = ap (λ (ps : List Part). Some (record t { parts = ps })) (sym (append-nil t.parts))

counted_grows : (s : Setting) (operating : Operating) (m : Meter) → (counted_in s operating (sum m.taken) m).trip
    ≡ option_map (with_parts (interval_in s operating m)) m.trip
counted_grows s Off m = same_without m.trip
counted_grows s ForHire m = same_without m.trip
counted_grows s Hired m = refl
counted_grows s Stopped m = refl

left_grows : (operating : Operating) (m : Meter)
    → (left_in operating (sum m.taken) m).trip ≡ option_map (with_parts (rest_in operating m)) m.trip
left_grows Off m = same_without m.trip
left_grows ForHire m = same_without m.trip
left_grows Hired m = refl
left_grows Stopped m = refl

trip_grows : (s : Setting) (event : Event) (m : Meter)
    → trip_at s event m ≡ option_map (with_parts (parts_by s event m)) m.trip
trip_grows s events.Tick m = counted_grows s m.operating m
trip_grows s events.Down m = left_grows m.operating m
trip_grows s (events.Up second) m = same_without m.trip
trip_grows s (events.Pulses n) m = same_without m.trip
trip_grows s (events.Clock second) m = same_without m.trip
trip_grows s (events.Key key) m = same_without m.trip

-- ---- events more

next_over : (s : Setting) (xs ys : List Event) (m : Meter)
    → (run s (xs ++ ys) m).next ≡ (run s ys (run s xs m).next).next
next_over s xs ys m = ap (λ o. o.next) (states.run-append s xs ys m)

lasts_more : (s : Setting) (xs : List Event) (event : Event) (m : Meter) → Lasts s xs m → IsOnTrip (run s xs m).next
    → Lasts s (xs ++ event ∷ []) m
lasts_more s [] event m lasts has = (has, tt)
lasts_more s (x ∷ xs) event m lasts has = (lasts.0, lasts_more s xs event (step s x m).next lasts.1 has)

parts_more : (s : Setting) (xs : List Event) (event : Event) (m : Meter)
    → parts_over s (xs ++ event ∷ []) m ≡ parts_over s xs m ++ parts_by s event (run s xs m).next
parts_more s [] event m = append-nil (parts_by s event m)
parts_more s (x ∷ xs) event m =
    let n = (step s x m).next in
    ap (λ (ps : List Part). parts_by s x m ++ ps) (parts_more s xs event n)
    ∙ sym (append_assoc (parts_by s x m) (parts_over s xs n) (parts_by s event (run s xs n).next))

-- a trip since the tick that hired it
record Since (s : Setting) (past : List Event) (m : Meter) (hired : Context) (t : MeterTrip) : Type 0 where
  pub before : List Event
  pub amid : List Event
  pub past_is : past ≡ before ++ events.Tick ∷ amid
  pub hires : Hires (meter_after s before)
  pub comes : (run s amid (step s events.Tick (meter_after s before)).next).next ≡ m
  pub lasts : Lasts s amid (step s events.Tick (meter_after s before)).next
  pub hired_is : hired ≡ context_now s (meter_after s before)
  pub parts : t.parts ≡ parts_over s amid (step s events.Tick (meter_after s before)).next
  pub started : t.started ≡ (meter_after s before).clock

abbrev IsSince : Setting → List Event → Meter → Context → Option MeterTrip → Type 0
IsSince s past m hired None = Unit {0}
IsSince s past m hired (Some t) = Since s past m hired t

-- with an event more it has the event's parts
parts_then : (s : Setting) (past : List Event) (event : Event) (m : Meter) (hired : Context) (t : MeterTrip)
    → (since : Since s past m hired t)
    → t.parts ++ parts_by s event m
    ≡ parts_over s (since.amid ++ event ∷ []) (step s events.Tick (meter_after s since.before)).next
parts_then s past event m hired t since =
    let n = (step s events.Tick (meter_after s since.before)).next in
    ap (λ (ps : List Part). ps ++ parts_by s event m) since.parts
    ∙ (ap (λ (o : Meter). parts_over s since.amid n ++ parts_by s event o) (sym since.comes)
    ∙ sym (parts_more s since.amid event n))

lasts_then : (s : Setting) (past : List Event) (event : Event) (m : Meter) (hired : Context) (t : MeterTrip)
    → (since : Since s past m hired t) → m.trip ≡ Some t
    → Lasts s (since.amid ++ event ∷ []) (step s events.Tick (meter_after s since.before)).next
lasts_then s past event m hired t since has =
    lasts_more s since.amid event (step s events.Tick (meter_after s since.before)).next since.lasts
    (record { trip = t; has = ap (λ (o : Meter). o.trip) since.comes ∙ has })

-- what isn't for hire hires nothing
busy_by : (latch : Option Key) (operating : Operating) (now hired : Context) → (operating ≡ ForHire → ⊥)
    → hired_by latch operating now hired ≡ hired
busy_by (Some keys.Hire) ForHire now hired busy = absurd (busy refl)
busy_by latch operating now hired busy = refl

busy_at : (s : Setting) (event : Event) (m : Meter) (hired : Context) → (m.operating ≡ ForHire → ⊥)
    → hired_at s event m hired ≡ hired
busy_at s events.Tick m hired busy = busy_by m.latch m.operating (context_now s m) hired busy
busy_at s event m hired busy = refl

is_busy : (s : Setting) (m : Meter) (t : MeterTrip) → IsTripKept s m → m.trip ≡ Some t → m.operating ≡ ForHire → ⊥
is_busy s m t kept has for_hire =
    let e : Some t ≡ None = sym has ∙ none_kept s m.operating m for_hire kept in
    cc

since_kept : (s : Setting) (past : List Event) (event : Event) (m : Meter) (hired : Context) (t u : MeterTrip)
    → m.trip ≡ Some t → IsTripKept s m → Since s past m hired t
    → u ≡ record (with_parts (parts_by s event m) t) { extras = u.extras }
    → Since s (past ++ event ∷ []) (step s event m).next (hired_at s event m hired) u
since_kept s past event m hired t u has kept since same = record {
  before = since.before;
  amid = since.amid ++ event ∷ [];
  past_is = ap (λ (es : List Event). es ++ event ∷ []) since.past_is
      ∙ append_assoc since.before (events.Tick ∷ since.amid) (event ∷ []);
  hires = since.hires;
  comes = next_over s since.amid (event ∷ []) (step s events.Tick (meter_after s since.before)).next
      ∙ ap (λ (o : Meter). (step s event o).next) since.comes;
  lasts = lasts_then s past event m hired t since has;
  hired_is = busy_at s event m hired (is_busy s m t kept has) ∙ since.hired_is;
  parts = ap (λ (v : MeterTrip). v.parts) same ∙ parts_then s past event m hired t since;
  started = ap (λ (v : MeterTrip). v.started) same ∙ since.started;
}

hiring_now : (latch : Option Key) (operating : Operating) (now hired : Context) → latch ≡ Some keys.Hire
    → operating ≡ ForHire → hired_by latch operating now hired ≡ now
hiring_now latch operating now hired waits free =
    ap (λ (k : Option Key). hired_by k operating now hired) waits
    ∙ ap (λ (o : Operating). hired_by (Some keys.Hire) o now hired) free

since_new : (s : Setting) (past : List Event) (event : Event) (m : Meter) (hired : Context) (u : MeterTrip)
    → m ≡ meter_after s past → IsNew s event m u
    → Since s (past ++ event ∷ []) (step s event m).next (hired_at s event m hired) u
since_new s past event m hired u there new = record {
  before = past;
  amid = [];
  past_is = ap (λ (e : Event). past ++ e ∷ []) new.tick;
  hires = subst (λ (o : Meter). Hires o) there new.hires;
  comes = ap (λ (o : Meter). (step s events.Tick o).next) (sym there)
      ∙ ap (λ (e : Event). (step s e m).next) (sym new.tick);
  lasts = tt;
  hired_is = ap (λ (e : Event). hired_at s e m hired) new.tick
      ∙ (hiring_now m.latch m.operating (context_now s m) hired new.hires.waits new.hires.free
      ∙ ap (λ (o : Meter). context_now s o) there);
  parts = new.parts;
  started = new.started ∙ ap (λ (o : Meter). o.clock) there;
}

since_next : (s : Setting) (past : List Event) (event : Event) (m : Meter) (hired : Context)
    (was next : Option MeterTrip) → m.trip ≡ was → m ≡ meter_after s past → IsTripKept s m
    → IsSince s past m hired was → Stays s event m next (option_map (with_parts (parts_by s event m)) was)
    → IsSince s (past ++ event ∷ []) (step s event m).next (hired_at s event m hired) next
since_next s past event m hired was None has there kept since stays = tt
since_next s past event m hired None (Some u) has there kept since stays =
    since_new s past event m hired u there stays
since_next s past event m hired (Some t) (Some u) has there kept since stays =
    since_kept s past event m hired t u has kept since stays

-- ---- the explanations of an event

module _ (s : Setting) (drive past : List Event) (event : Event) (after : List Event) (m : Meter) (hired : Context)
    (split : drive ++ events.Down ∷ [] ≡ past ++ event ∷ after) (fresh : Fresh s hired m.trip) where
  told_of : (t : MeterTrip) → m.trip ≡ Some t → Since s past m hired t → (receipt : Receipt)
      → IsReceiptOf s (trip_at s event m) receipt → IsReceiptAmong (step s event m).acts receipt
      → IsOfTrip s drive (explanation s hired (trip_at s event m) receipt)
  told_of t has since receipt is_of printed =
      let x = context_now s (meter_after s since.before) in
      let grown : Some is_of.t ≡ Some (with_parts (parts_by s event m) t) =
      sym is_of.there ∙ (trip_grows s event m
      ∙ ap (λ (o : Option MeterTrip). option_map (with_parts (parts_by s event m)) o) has) in
      let is_t : is_of.t ≡ with_parts (parts_by s event m) t = cc in
      let there : Fresh s hired (Some is_of.t) =
      subst (λ (o : Option MeterTrip). Fresh s hired o) is_of.there (fresh_at s hired event m fresh) in
      record {
        of = record {
          before = since.before;
          amid = since.amid;
          closing = event;
          after = after;
          split = split ∙ (ap (λ (es : List Event). es ++ event ∷ after) since.past_is
              ∙ append_assoc since.before (events.Tick ∷ since.amid) (event ∷ after));
          hires = since.hires;
          lasts = lasts_then s past event m hired t since has;
        };
        trip = is_of.t;
        kind = is_of.kind;
        finish = is_of.finish;
        position = is_of.position;
        number = is_of.number;
        closed = record {
          last = t;
          has = ap (λ (o : Meter). o.trip) since.comes ∙ has;
          same = is_t
              ∙ ap (λ (ps : List Part). record t { parts = ps }) (sym (ap (λ (v : MeterTrip). v.parts) is_t));
          parts = ap (λ (v : MeterTrip). v.parts) is_t ∙ parts_then s past event m hired t since;
          started = ap (λ (v : MeterTrip). v.started) is_t ∙ since.started;
        };
        began = subst (λ (y : Context). BeganIn s y is_of.t) since.hired_is there;
        printed = subst (λ (o : Meter). IsReceiptAmong (step s event o).acts receipt) (sym since.comes) printed;
        is = ap (λ (y : Context). explanation s y (trip_at s event m) receipt) since.hired_is
            ∙ (ap (λ (o : Option MeterTrip). explanation s x o receipt) is_of.there
            ∙ ap (λ (r : Receipt). explanation s x (Some is_of.t) r) is_of.is);
      }

  told_by : (was : Option MeterTrip) → m.trip ≡ was → IsSince s past m hired was → (receipt : Receipt)
      → IsReceiptOf s (trip_at s event m) receipt → IsReceiptAmong (step s event m).acts receipt
      → IsOfTrip s drive (explanation s hired (trip_at s event m) receipt)
  told_by None has since receipt is_of printed =
      let e : Some is_of.t ≡ None = sym is_of.there ∙ (trip_grows s event m
      ∙ ap (λ (o : Option MeterTrip). option_map (with_parts (parts_by s event m)) o) has) in
      absurd cc
  told_by (Some t) has since receipt is_of printed = told_of t has since receipt is_of printed

  all_told : (since : IsSince s past m hired m.trip) (front list : List Receipt)
      → receipts_in (step s event m).acts ≡ front ++ list → AreOf s (trip_at s event m) list
      → All (IsOfTrip s drive) (map (explanation s hired (trip_at s event m)) list)
  all_told since front [] among are = All-nil (IsOfTrip s drive)
  all_told since front (receipt ∷ more) among are =
      All-cons (IsOfTrip s drive) (explanation s hired (trip_at s event m) receipt)
      (map (explanation s hired (trip_at s event m)) more)
      (told_by m.trip refl since receipt are.0 (record { front = front; back = more; among = among }))
      (all_told since (front ++ receipt ∷ []) more (among ∙ sym (append_assoc front (receipt ∷ []) more)) are.1)

-- ---- and those of all events

-- the end of a run prints what a drop of the supply does
ended_by : (s : Setting) (operating : Operating) (m : Meter)
    → receipts_in (ended_in s operating m).acts ≡ receipts_in (step_in s operating events.Down m).acts
ended_by s Off m = refl
ended_by s ForHire m = refl
ended_by s Hired m = refl
ended_by s Stopped m = refl

of_trips_from : (s : Setting) (drive past left : List Event) (m : Meter) (hired : Context)
    → drive ++ events.Down ∷ [] ≡ past ++ (left ++ events.Down ∷ []) → m ≡ meter_after s past → IsTripKept s m
    → Fresh s hired m.trip → IsSince s past m hired m.trip
    → All (IsOfTrip s drive) (explanations_from s left m hired)
unfolding explanations_from
of_trips_from s drive past [] m hired split there kept fresh since =
    let goes = one_step s hired events.Down m kept fresh in
    subst
    (λ (list : List Receipt). All (IsOfTrip s drive) (map (explanation s hired (trip_at s events.Down m)) list))
    (sym (ended_by s m.operating m))
    (all_told s drive past events.Down [] m hired split fresh since [] (receipts_in (step s events.Down m).acts) refl
    goes.are)
of_trips_from s drive past (event ∷ left) m hired split there kept fresh since =
    let goes = one_step s hired event m kept fresh in
    let next = (step s event m).next in
    let then = hired_at s event m hired in
    let stays = subst (λ (o : Option MeterTrip). Stays s event m next.trip o) (trip_grows s event m)
    goes.holds.stays in
    All-append (IsOfTrip s drive) (explanations_in s hired (trip_at s event m) (step s event m).acts)
    (explanations_from s left next then)
    (all_told s drive past event (left ++ events.Down ∷ []) m hired split fresh since []
    (receipts_in (step s event m).acts) refl goes.are)
    (of_trips_from s drive (past ++ event ∷ []) left next then
    (split ∙ sym (append_assoc past (event ∷ []) (left ++ events.Down ∷ [])))
    (ap (λ (o : Meter). (step s event o).next) there
    ∙ sym (next_over s past (event ∷ []) (opened s first_state)))
    (states.the_store_keeps_the_trip-step s event m kept) goes.holds.fresh
    (since_next s past event m hired m.trip next.trip refl there kept since stays))

pub explained_are_of_trips : (s : Setting) (events : List Event) → All (IsOfTrip s events) (explanations_of s events)
explained_are_of_trips s drive =
    of_trips_from s drive [] drive (opened s first_state) (context_now s (opened s first_state)) refl refl
    (states.the_store_keeps_the_trip-begins s first_state tt) tt tt
