-- Two meters that stand alike under settings that agree, the first within reach, and outcomes that come to such meters.
use Rattle.std.proofs.Common.{[], ℕ, ◌++◌, ◌+◌, ◌∷◌, ◌≡◌, ◌≤◌, Bool, List, None, Option, Some, ap, arith, false}
use Rattle.std.proofs.Common.{if◌then◌else◌, refl, subst, true}
use Rattle.{taxi_units.specs.declared.{event.Why.{Why}, receipt.Kind.{Kind}}, totals_record.specs.Entries.{closes}}
use Rattle.{interval_clock.specs.declared.local_time.LocalTime.{LocalTime}, meter_model.specs.Interval.{context_on}}
use Rattle.{totals_record.specs.declared.entry.Entry.{Entry}, meter_model.specs.declared.act.Act.TheVariants.{Receipt}}
use Rattle.meter_model.specs.{ClosedTrip.{closed, entry_of_trip, receipt_of, trip_closed}, declared.act.Act.{Act}}
use Rattle.{meter_model.specs.Meter.{entered, held, printed}, same_tariffs.specs.Reached.{GoesOn, HoldGoesOn, IsPlace}}
use Rattle.same_tariffs.specs.Alike.{AreActsAlike, AreHeldAlike, AreHoldsAlike, AreTripsOfBothAlike, with_trips}
use Rattle.same_tariffs.specs.Common.{ForHire, Meter, MeterTrip, Outcome, Setting, Trip, quiet, refused, ticks_so_far}
use Rattle.same_tariffs.proofs.{Agreement.{Agree}, Trips.{entry-alike, pulses-alike, receipt-alike, ticks-alike}}
use Rattle.taxi_units.specs.declared.receipt.Receipt as receipts

-- the trips `a` and `b` of two meters, and what their stores hold, `c` and `d`, stand side by side under settings that
-- agree if they are alike, and the first meter is within reach with some ticks
pub record AreBeside (s t : Setting) (most position zone clock began : ℕ) (a b : Option MeterTrip)
    (c d : Option Trip) : Type 0 where
  pub agree : Agree s t
  pub trips : AreTripsOfBothAlike s t a b
  pub holds : AreHoldsAlike s t c d
  pub placed : IsPlace s.tariff position zone clock began
  pub goes_on : HoldGoesOn s.tariff c
  pub ticks : ticks_so_far a ≤ most

-- another trip and another held trip stand beside those of a meter
abbrev pub IsBeside : (s t : Setting) (most : ℕ) → Meter → Option MeterTrip → Option Trip → Type 0
IsBeside s t most m trip hold = AreBeside s t most m.position m.zone m.clock m.began m.trip trip m.durable.hold hold

-- two meters stand alike if they are equal but for their trips and held trips, which stand side by side
pub record StandAlike (s t : Setting) (most : ℕ) (m n : Meter) : Type 0 where
  pub beside : IsBeside s t most m n.trip n.durable.hold
  pub others : with_trips n.trip n.durable.hold m ≡ n

-- two outcomes come alike if their next meters stand alike, and their acts are alike
pub record ComeAlike (s t : Setting) (most : ℕ) (o p : Outcome) : Type 0 where
  pub next : StandAlike s t most o.next p.next
  pub acts : AreActsAlike s t o.acts p.acts

-- meters that are alike have one context at a local time
pub context-same : (s t : Setting) (local : LocalTime) (m : Meter) (trip : Option MeterTrip) (hold : Option Trip)
    → AreTripsOfBothAlike s t m.trip trip → context_on t local m ≡ context_on t local (with_trips trip hold m)
context-same s t local m trip hold same =
    let pulses = pulses-alike s t m.trip trip same in
    let ticks = ticks-alike s t m.trip trip same in
    cc

acts-append : (s t : Setting) (xs ys zs ws : List Act) → AreActsAlike s t xs ys → AreActsAlike s t zs ws
    → AreActsAlike s t (xs ++ zs) (ys ++ ws)
acts-append s t [] [] zs ws same also = also
acts-append s t (x ∷ xs) (y ∷ ys) zs ws same also = (same.0, acts-append s t xs ys zs ws same.1 also)
acts-append s t [] (y ∷ ys) zs ws same also = absurd same
acts-append s t (x ∷ xs) [] zs ws same also = absurd same

module _ {s t : Setting} where
  -- in another place, and with other trips
  pub placed_at : {most p z c b q y d e : ℕ} {a a' : Option MeterTrip} {h h' : Option Trip}
      → AreBeside s t most p z c b a a' h h' → IsPlace s.tariff q y d e → AreBeside s t most q y d e a a' h h'
  placed_at x placed = record {
    agree = x.agree;
    trips = x.trips;
    holds = x.holds;
    placed = placed;
    goes_on = x.goes_on;
    ticks = x.ticks;
  }

  pub having : {most least p z c b : ℕ} {a a' e e' : Option MeterTrip} {h h' : Option Trip}
      → AreBeside s t most p z c b a a' h h' → AreTripsOfBothAlike s t e e' → ticks_so_far e ≤ least
      → AreBeside s t least p z c b e e' h h'
  having x trips ticks = record {
    agree = x.agree;
    trips = trips;
    holds = x.holds;
    placed = x.placed;
    goes_on = x.goes_on;
    ticks = ticks;
  }

  pub holding : {most p z c b : ℕ} {a a' : Option MeterTrip} {h h' k k' : Option Trip}
      → AreBeside s t most p z c b a a' h h' → AreHoldsAlike s t k k' → HoldGoesOn s.tariff k
      → AreBeside s t most p z c b a a' k k'
  holding x holds goes_on = record {
    agree = x.agree;
    trips = x.trips;
    holds = holds;
    placed = x.placed;
    goes_on = goes_on;
    ticks = x.ticks;
  }

  -- a meter stands alike with itself with the other trips
  pub stands : {most : ℕ} (m : Meter) (trip : Option MeterTrip) (hold : Option Trip)
      → IsBeside s t most m trip hold → StandAlike s t most m (with_trips trip hold m)
  stands m trip hold x = record { beside = x; others = refl }

  -- what is so of a meter and itself with other trips is so of each two that stand alike
  pub by-trips : {most least : ℕ} {m n : Meter} → StandAlike s t most m n → (f g : Meter → Outcome)
      → ((m : Meter) (trip : Option MeterTrip) (hold : Option Trip) → IsBeside s t most m trip hold
      → ComeAlike s t least (f m) (g (with_trips trip hold m)))
      → ComeAlike s t least (f m) (g n)
  by-trips {least} {m} {n} x f g each =
      subst (λ (k : Meter). ComeAlike s t least (f m) (g k)) x.others (each m n.trip n.durable.hold x.beside)

  -- ---- one stage with another

  -- one after the other
  pub then-alike : {most least : ℕ} {o p q r : Outcome} → ComeAlike s t most o p → ComeAlike s t least q r
      → ComeAlike s t least (record { next = q.next; acts = o.acts ++ q.acts })
      (record { next = r.next; acts = p.acts ++ r.acts })
  then-alike {o} {p} {q} {r} same also =
      record { next = also.next; acts = acts-append s t o.acts p.acts q.acts r.acts same.acts also.acts }

  -- one or the other, by a test
  pub either-alike : {most : ℕ} {o p q r : Outcome} (b : Bool) → (b ≡ true → ComeAlike s t most o q)
      → (b ≡ false → ComeAlike s t most p r) → ComeAlike s t most (if b then o else p) (if b then q else r)
  either-alike true one other = one refl
  either-alike false one other = other refl

  -- ---- what is quiet, refused, entered, printed and held

  pub quiet-alike : {most : ℕ} (m : Meter) (trip : Option MeterTrip) (hold : Option Trip)
      → IsBeside s t most m trip hold → ComeAlike s t most (quiet m) (quiet (with_trips trip hold m))
  quiet-alike m trip hold x = record { next = stands m trip hold x; acts = tt }

  pub refused-alike : {most : ℕ} (why : Why) (m : Meter) (trip : Option MeterTrip) (hold : Option Trip)
      → IsBeside s t most m trip hold → ComeAlike s t most (refused why m) (refused why (with_trips trip hold m))
  refused-alike why m trip hold x = record { next = stands m trip hold x; acts = (refl, tt) }

  -- an entry that closes a hiring ends what the stores hold
  hold-after : {most p z c b : ℕ} {a a' : Option MeterTrip} {h h' : Option Trip} (closing : Bool)
      → AreBeside s t most p z c b a a' h h'
      → AreBeside s t most p z c b a a' (if closing then None else h) (if closing then None else h')
  hold-after true x = holding x tt tt
  hold-after false x = x

  pub entered-alike : {most : ℕ} (entry other : Entry) → entry ≡ other → (m : Meter) (trip : Option MeterTrip)
      (hold : Option Trip) → IsBeside s t most m trip hold
      → ComeAlike s t most (entered entry m) (entered other (with_trips trip hold m))
  entered-alike {most} entry other is m trip hold x =
      subst (λ (e : Entry). ComeAlike s t most (entered entry m) (entered e (with_trips trip hold m))) is
      (record { next = record { beside = hold-after (closes entry) x; others = refl }; acts = (refl, tt) })

  printed-alike : {most : ℕ} {m n : Meter} (receipt other : receipts.Receipt) → receipt ≡ other
      → StandAlike s t most m n → ComeAlike s t most (printed receipt m) (printed other n)
  printed-alike receipt other is x = record { next = x; acts = (ap (λ (r : receipts.Receipt). Receipt r) is, tt) }

  pub held-by : {most : ℕ} (one other : Trip) (m : Meter) (trip : Option MeterTrip) (hold : Option Trip)
      → AreHeldAlike s t one other → GoesOn s.tariff one → IsBeside s t most m trip hold
      → ComeAlike s t most (held one m) (held other (with_trips trip hold m))
  held-by one other m trip hold same on x =
      record { next = record { beside = holding x same on; others = refl }; acts = (same, tt) }

  -- ---- closing

  closed-by : {most : ℕ} (kind : Kind) (finish : ℕ) (a b : Option MeterTrip) (m : Meter) (trip : Option MeterTrip)
      (hold : Option Trip) → AreTripsOfBothAlike s t a b → IsBeside s t most m trip hold
      → ComeAlike s t most (trip_closed s kind finish a m) (trip_closed t kind finish b (with_trips trip hold m))
  closed-by kind finish None None m trip hold trips x = quiet-alike m trip hold x
  closed-by kind finish None (Some b) m trip hold trips x = absurd trips
  closed-by kind finish (Some a) None m trip hold trips x = absurd trips
  closed-by kind finish (Some a) (Some b) m trip hold trips x =
      let entry = entry-alike s t kind m.position a b x.agree trips in
      let first = entered-alike (entry_of_trip s kind m.position a)
      (entry_of_trip t kind m.position b) entry m trip hold x in
      let number = m.durable.number + 1 in
      let last = printed-alike (receipt_of s kind finish m.position a number)
      (receipt_of t kind finish m.position b number)
      (receipt-alike s t kind finish m.position a b number x.agree trips) first.next in
      let both = then-alike first last in both

  pub closed-alike : {most least : ℕ} (kind : Kind) (finish : ℕ) (m : Meter) (trip : Option MeterTrip)
      (hold : Option Trip) → IsBeside s t most m trip hold
      → ComeAlike s t least (closed s kind finish m) (closed t kind finish (with_trips trip hold m))
  closed-alike kind finish m trip hold x =
      closed-by kind finish m.trip trip (record m { operating = ForHire; trip = None }) None hold x.trips
      (having x tt (omega arith))
