-- The fare of a trip that lasts over events.
use Rattle.{std.specs.List.{Contains}, meter_model.specs.declared.act.Act.TheVariants.{Enter, Hold, Refuse, Show}}
use Rattle.std.proofs.Common.{[], ℕ, ◌++◌, ◌<◌, ◌∙◌, ◌∷◌, ◌≡◌, List, Option, Some, ap, append_assoc, arith, get_or}
use Rattle.std.proofs.{Common.{length, option_map, subst, suc, sym, zero}, lemmas.List.{append-nil}}
use Rattle.meter_model.{specs.{Trip.{fare_of}, TripParts.{IsOnTrip}}, proofs.Laws.{the_store_keeps_the_trip-step}}
use Rattle.trip_fares.specs.Common.{Act, Event, IsTripKept, Lasts, Meter, MeterTrip, Part, Receipt, Setting, parts_by}
use Rattle.trip_fares.specs.Common.{parts_over, run, step, with_parts}
use Rattle.trip_fares.proofs.Events.{AreOf, IsReceiptOf, Stays, one_step, trip_at, trip_grows}
use Rattle.meter_model.specs.declared.act.Act.TheVariants as acts

-- a receipt among acts is of their trip
receipt_at : (s : Setting) (trip : Option MeterTrip) (list : List Act) (receipt : Receipt) (place : ℕ)
    → place < length list → get_or list place (acts.Receipt receipt) ≡ acts.Receipt receipt → AreOf s trip list
    → IsReceiptOf s trip receipt
receipt_at s trip [] receipt place within is are = absurd (omega arith)
receipt_at s trip (acts.Receipt other ∷ more) receipt zero within is are =
    let same : other ≡ receipt = cc in
    subst (λ (r : Receipt). IsReceiptOf s trip r) same are.0
receipt_at s trip (acts.Receipt other ∷ more) receipt (suc place) within is are =
    receipt_at s trip more receipt place (omega (arith, within)) is are.1
receipt_at s trip (Show display ∷ more) receipt zero within is are = absurd (cc)
receipt_at s trip (Show display ∷ more) receipt (suc place) within is are =
    receipt_at s trip more receipt place (omega (arith, within)) is are
receipt_at s trip (Refuse why ∷ more) receipt zero within is are = absurd (cc)
receipt_at s trip (Refuse why ∷ more) receipt (suc place) within is are =
    receipt_at s trip more receipt place (omega (arith, within)) is are
receipt_at s trip (Enter entry ∷ more) receipt zero within is are = absurd (cc)
receipt_at s trip (Enter entry ∷ more) receipt (suc place) within is are =
    receipt_at s trip more receipt place (omega (arith, within)) is are
receipt_at s trip (Hold held ∷ more) receipt zero within is are = absurd (cc)
receipt_at s trip (Hold held ∷ more) receipt (suc place) within is are =
    receipt_at s trip more receipt place (omega (arith, within)) is are

-- so a receipt of an event is of the trip with the event's part
pub receipt_of_event : (s : Setting) (event : Event) (m : Meter) (receipt : Receipt) → IsTripKept s m
    → Contains (step s event m).acts (acts.Receipt receipt) → IsReceiptOf s (trip_at s event m) receipt
receipt_of_event s event m receipt kept among =
    receipt_at s (trip_at s event m) (step s event m).acts receipt among.0 among.1 among.2 (one_step s event m kept).are

pub trip_with : (s : Setting) (event : Event) (m : Meter) (t : MeterTrip) → m.trip ≡ Some t
    → trip_at s event m ≡ Some (with_parts (parts_by s event m) t)
trip_with s event m t has =
    trip_grows s event m ∙ ap (λ (o : Option MeterTrip). option_map (with_parts (parts_by s event m)) o) has

-- the trip behind an event in which it goes on
pub trip_behind : (s : Setting) (event : Event) (m : Meter) (t u : MeterTrip) → IsTripKept s m → m.trip ≡ Some t
    → (step s event m).next.trip ≡ Some u → u ≡ record (with_parts (parts_by s event m) t) { extras = u.extras }
trip_behind s event m t u kept has next =
    let stays : Stays (trip_at s event m) (step s event m).next.trip = (one_step s event m kept).stays in
    let one = subst (λ (o : Option MeterTrip). Stays o (step s event m).next.trip) (trip_with s event m t has) stays in
    subst (λ (o : Option MeterTrip). Stays (Some (with_parts (parts_by s event m) t)) o) next one

on_first : (s : Setting) (amid : List Event) (closing : Event) (m : Meter) → Lasts s (amid ++ closing ∷ []) m
    → IsOnTrip m
on_first s [] closing m lasts = lasts.0
on_first s (event ∷ amid) closing m lasts = lasts.0

-- the fare of a receipt is that of the trip with the parts of all events up to the one that prints it
pub fare_over : (s : Setting) (amid : List Event) (closing : Event) (m : Meter) (t : MeterTrip) (receipt : Receipt)
    → m.trip ≡ Some t → IsTripKept s m → Lasts s (amid ++ closing ∷ []) m
    → Contains (step s closing (run s amid m).next).acts (acts.Receipt receipt)
    → receipt.fare ≡ fare_of s (with_parts (parts_over s (amid ++ closing ∷ []) m) t)
fare_over s [] closing m t receipt has kept lasts printed =
    let of = receipt_of_event s closing m receipt kept printed in
    let both : Some of.t ≡ Some (with_parts (parts_by s closing m) t) = sym of.there ∙ trip_with s closing m t has in
    let same : of.t ≡ with_parts (parts_by s closing m) t = cc in
    ap (λ (r : Receipt). r.fare) of.is
    ∙ (ap (λ (u : MeterTrip). fare_of s u) same
    ∙ ap (λ (ps : List Part). fare_of s (with_parts ps t)) (sym (append-nil (parts_by s closing m))))
fare_over s (event ∷ amid) closing m t receipt has kept lasts printed =
    let next = (step s event m).next in
    let on = on_first s amid closing next lasts.1 in
    let u = on.trip in
    let ps = parts_by s event m in
    let qs = parts_over s (amid ++ closing ∷ []) next in
    let same = trip_behind s event m t u kept has on.has in
    fare_over s amid closing next u receipt on.has (the_store_keeps_the_trip-step s event m kept) lasts.1 printed
    ∙ (ap (λ (v : MeterTrip). fare_of s (with_parts qs v)) same
    ∙ ap (λ (all : List Part). fare_of s (record t { parts = all })) (append_assoc t.parts ps qs))
