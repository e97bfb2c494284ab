-- Each receipt of a run is of a trip of the run.
use Rattle.{std.specs.List.{Contains}, totals_record.specs.declared.trip.Trip.{Trip}}
use Rattle.std.proofs.Common.{[], ◌++◌, ◌∙◌, ◌∷◌, ◌≡◌, List, None, Option, Some, ap, append_assoc, arith, option_map}
use Rattle.std.proofs.{Common.{refl, subst, sym, ⊎_elim}, lemmas.List.{append-nil, Elements.{Contains-append_cases}}}
use Rattle.taxi_units.specs.declared.event.Operating.{Operating, TheVariants.{ForHire, Hired, Off, Stopped}}
use Rattle.meter_model.specs.{Run.{actions_of, ended, ended_in}, Step.{step_in}, Trip.{trip_of}, TripParts.{IsOnTrip}}
use Rattle.meter_model.proofs.Laws.{run-append, the_store_keeps_the_trip-begins, the_store_keeps_the_trip-step}
use Rattle.trip_fares.specs.Common.{Act, Durable, Event, HoldFits, IsTripKept, Lasts, Meter, MeterTrip, Receipt}
use Rattle.trip_fares.specs.{Common.{Setting, opened, parts_by, run, step, with_parts}, RunTrips.{IsOfTrip, meter_in}}
use Rattle.trip_fares.proofs.{Events.{Stays, one_step, trip_grows}, Spans.{receipt_of_event}}
use Rattle.meter_model.specs.declared.act.Act.TheVariants as acts
use Rattle.taxi_units.specs.declared.event.Event.TheVariants as events

-- a meter that is on a trip has been since events behind which the trip had no part
record Since (s : Setting) (durable : Durable) (past : List Event) (m : Meter) : Type 0 where
  pub before : List Event
  pub amid : List Event
  pub past_is : past ≡ before ++ amid
  pub trip : MeterTrip
  pub has : (meter_in s durable before).trip ≡ Some trip
  pub begins : trip.parts ≡ []
  pub comes : (run s amid (meter_in s durable before)).next ≡ m
  pub lasts : Lasts s amid (meter_in s durable before)

abbrev IsSince : Setting → Durable → List Event → Meter → Option MeterTrip → Type 0
IsSince s durable past m None = Unit {0}
IsSince s durable past m (Some t) = Since s durable past m

since_held : (s : Setting) (durable : Durable) (hold : Option Trip) → durable.hold ≡ hold
    → IsSince s durable [] (opened s durable) (option_map (trip_of s) hold)
since_held s durable None is = tt
since_held s durable (Some trip) is = record {
  before = [];
  amid = [];
  past_is = refl;
  trip = trip_of s trip;
  has = ap (λ (o : Option Trip). option_map (trip_of s) o) is;
  begins = refl;
  comes = refl;
  lasts = tt;
}

next_over : (s : Setting) (xs ys : List Event) (m : Meter)
    → (run s (xs ++ ys) m).next ≡ (run s ys (run s xs m).next).next
next_over s xs ys m = ap (λ o. o.next) (run-append s xs ys m)

lasts_more : (s : Setting) (xs : List Event) (event : Event) (m : Meter) → Lasts s xs m → IsOnTrip (run s xs m).next
    → Lasts s (xs ++ event ∷ []) m
lasts_more s [] event m lasts has = (has, tt)
lasts_more s (x ∷ xs) event m lasts has = (lasts.0, lasts_more s xs event (step s x m).next lasts.1 has)

-- with an event more
lasts_then : (s : Setting) (durable : Durable) (past : List Event) (event : Event) (m : Meter) (t : MeterTrip)
    → (since : Since s durable past m) → m.trip ≡ Some t
    → Lasts s (since.amid ++ event ∷ []) (meter_in s durable since.before)
lasts_then s durable past event m t since has =
    lasts_more s since.amid event (meter_in s durable since.before) since.lasts
    (record { trip = t; has = ap (λ (o : Meter). o.trip) since.comes ∙ has })

since_kept : (s : Setting) (durable : Durable) (past : List Event) (event : Event) (m : Meter) (t : MeterTrip)
    → m.trip ≡ Some t → Since s durable past m → Since s durable (past ++ event ∷ []) (step s event m).next
since_kept s durable past event m t has since = record {
  before = since.before;
  amid = since.amid ++ event ∷ [];
  past_is = ap (λ (es : List Event). es ++ event ∷ []) since.past_is
      ∙ append_assoc since.before since.amid (event ∷ []);
  trip = since.trip;
  has = since.has;
  begins = since.begins;
  comes = next_over s since.amid (event ∷ []) (meter_in s durable since.before)
      ∙ ap (λ (o : Meter). (step s event o).next) since.comes;
  lasts = lasts_then s durable past event m t since has;
}

since_new : (s : Setting) (durable : Durable) (past : List Event) (event : Event) (m : Meter) (u : MeterTrip)
    → m ≡ meter_in s durable past → (step s event m).next.trip ≡ Some u → u.parts ≡ []
    → Since s durable (past ++ event ∷ []) (step s event m).next
since_new s durable past event m u there next new =
    let comes : meter_in s durable (past ++ event ∷ []) ≡ (step s event m).next =
    next_over s past (event ∷ []) (opened s durable) ∙ ap (λ (o : Meter). (step s event o).next) (sym there) in
    record {
      before = past ++ event ∷ [];
      amid = [];
      past_is = sym (append-nil (past ++ event ∷ []));
      trip = u;
      has = ap (λ (o : Meter). o.trip) comes ∙ next;
      begins = new;
      comes = comes;
      lasts = tt;
    }

since_next : (s : Setting) (durable : Durable) (past : List Event) (event : Event) (m : Meter)
    (was next : Option MeterTrip) → m.trip ≡ was → (step s event m).next.trip ≡ next → m ≡ meter_in s durable past
    → IsSince s durable past m was → Stays (option_map (with_parts (parts_by s event m)) was) next
    → IsSince s durable (past ++ event ∷ []) (step s event m).next next
since_next s durable past event m was None has is there since stays = tt
since_next s durable past event m None (Some u) has is there since stays =
    since_new s durable past event m u there is stays
since_next s durable past event m (Some t) (Some u) has is there since stays =
    since_kept s durable past event m t has since

-- the receipt of an event is of a trip
module _ (s : Setting) (durable : Durable) (drive : List Event) (receipt : Receipt) where
  told_by : (past : List Event) (event : Event) (after : List Event) (m : Meter) (was : Option MeterTrip)
      → drive ++ events.Down ∷ [] ≡ past ++ event ∷ after → m.trip ≡ was → IsTripKept s m
      → IsSince s durable past m was → Contains (step s event m).acts (acts.Receipt receipt)
      → IsOfTrip s durable drive receipt
  told_by past event after m None split has kept since printed =
      let of = receipt_of_event s event m receipt kept printed in
      let e : Some of.t ≡ None = sym of.there ∙ (trip_grows s event m
      ∙ ap (λ (o : Option MeterTrip). option_map (with_parts (parts_by s event m)) o) has) in
      absurd cc
  told_by past event after m (Some t) split has kept since printed = record {
    before = since.before;
    amid = since.amid;
    closing = event;
    after = after;
    split = split ∙ (ap (λ (es : List Event). es ++ event ∷ after) since.past_is
        ∙ append_assoc since.before since.amid (event ∷ after));
    trip = since.trip;
    has = since.has;
    begins = since.begins;
    lasts = lasts_then s durable past event m t since has;
    printed = subst (λ (o : Meter). Contains (step s event o).acts (acts.Receipt receipt)) (sym since.comes) printed;
  }

  -- the end of a run prints the receipt that a drop of the supply does
  ended_by : (operating : Operating) (m : Meter) → Contains (ended_in s operating m).acts (acts.Receipt receipt)
      → Contains (step_in s operating events.Down m).acts (acts.Receipt receipt)
  ended_by Off m among = absurd (omega (arith, among.1))
  ended_by ForHire m among = among
  ended_by Hired m among = among
  ended_by Stopped m among = among

  told_from : (past left : List Event) (m : Meter) → drive ++ events.Down ∷ [] ≡ past ++ (left ++ events.Down ∷ [])
      → m ≡ meter_in s durable past → IsTripKept s m → IsSince s durable past m m.trip
      → Contains ((run s left m).acts ++ (ended s (run s left m).next).acts) (acts.Receipt receipt)
      → IsOfTrip s durable drive receipt
  told_from past [] m split there kept since among =
      told_by past events.Down [] m m.trip split refl kept since (ended_by m.operating m among)
  told_from past (event ∷ left) m split there kept since among =
      let next = (step s event m).next in
      let others = (run s left next).acts in
      let last = (ended s (run s left next).next).acts in
      let parted : Contains ((step s event m).acts ++ (others ++ last)) (acts.Receipt receipt) =
      subst (λ (list : List Act). Contains list (acts.Receipt receipt)) (append_assoc (step s event m).acts others last)
      among in
      ⊎_elim (λ here. told_by past event (left ++ events.Down ∷ []) m m.trip split refl kept since here)
      (λ later. told_from (past ++ event ∷ []) left next
      (split ∙ sym (append_assoc past (event ∷ []) (left ++ events.Down ∷ [])))
      (ap (λ (o : Meter). (step s event o).next) there ∙ sym (next_over s past (event ∷ []) (opened s durable)))
      (the_store_keeps_the_trip-step s event m kept)
      (since_next s durable past event m m.trip next.trip refl refl there since
      (subst (λ (o : Option MeterTrip). Stays o next.trip) (trip_grows s event m) (one_step s event m kept).stays))
      later)
      (Contains-append_cases (step s event m).acts (others ++ last) (acts.Receipt receipt) parted)

pub receipts_of_trips : (s : Setting) (durable : Durable) (drive : List Event) (receipt : Receipt)
    → HoldFits s durable.hold → Contains (actions_of s durable drive) (acts.Receipt receipt)
    → IsOfTrip s durable drive receipt
receipts_of_trips s durable drive receipt fits among =
    told_from s durable drive receipt [] drive (opened s durable) refl refl
    (the_store_keeps_the_trip-begins s durable fits) (since_held s durable durable.hold refl) among
