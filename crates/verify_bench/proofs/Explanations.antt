-- Explanations have the receipts of the meter's run, and what an event makes of a trip and its receipts.
use Rattle.std.{specs.Prelude.{if◌then◌else◌, nat_le, nat_lt}, proofs.Common.{false, map, refl, subst, sum, sym, true}}
use Rattle.std.proofs.Common.{[], ℕ, ◌++◌, ◌+◌, ◌-◌, ◌∙◌, ◌∷◌, ◌≡◌, Bool, List, None, Option, Some, ap, append_assoc}
use Rattle.std.proofs.lemmas.List.{map-append, Elements.{All-append, All-cons, All-nil, filter_map-append}}
use Rattle.{taxi_units.specs.Limits.{roaming_most}, meter_model.specs.ClosedTrip.{roaming_checked_in, trip_closed}}
use Rattle.meter_model.specs.{KeptTrip.{IsTripKeptIn}, Step.{off_step}, Trip.{begun, with_extra}}
use Rattle.meter_model.specs.Keys.{extra_added_to, hiring, key_pressed, latch_pressed, position_set, zone_set}
use Rattle.verify_bench.specs.Common.{◌>>=◌, Context, Event, ForHire, Hired, InHired, InStopped, IsSupplementNumber}
use Rattle.verify_bench.specs.Common.{IsTripKept, Key, Kind, Meter, MeterTrip, Off, Operating, Outcome, Part, Receipt}
use Rattle.verify_bench.specs.Common.{Refuse, Rest, Setting, Show, Stopped, Supplement, TooFast, Trip, aborted}
use Rattle.verify_bench.specs.Common.{actions_of, clock_read, closed, context_now, context_of, counted_in, display_of}
use Rattle.verify_bench.specs.Common.{ended, ended_in, expired, expired_or_pressed, extra_added, fees_in_force}
use Rattle.verify_bench.specs.Common.{first_state, held_or_closed, hired, hirings_end, hold_taken, interval_begun}
use Rattle.verify_bench.specs.Common.{interval_counted, interval_left, is_among, is_shown, is_within_hold, key_in}
use Rattle.verify_bench.specs.Common.{last_number, latch_refused, latched, left_in, longest_trip, opened, powered}
use Rattle.verify_bench.specs.Common.{powered_step, pulses_taken, quiet, receipt_of, resumed, roaming_checked}
use Rattle.verify_bench.specs.Common.{roaming_entered, room_of, run, shown, step, step_in, supplement_numbered}
use Rattle.verify_bench.specs.Common.{supply_came, supply_dropped, ticked, ticks_so_far, times, turned_off}
use Rattle.verify_bench.specs.{Common.{with_interval}, TripExplanations.{explanations_of, hired_at, hired_by, trip_at}}
use Rattle.verify_bench.{specs.Receipts.{receipt_in, receipts_in}, proofs.TreeParts.{supplement_of_text}}
use Rattle.verify_bench.specs.TripExplanations.{Explanation, explanation, explanations_from, explanations_in}
use Rattle.verify_bench.{specs.Wholes.{IsOfText}, proofs.Benches.{hired_after}}
use Rattle.meter_model.proofs.Laws as states
use Rattle.taxi_units.specs.declared.event.Event.TheVariants as events
use Rattle.taxi_units.specs.declared.event.Key.TheVariants as keys
use Rattle.taxi_units.specs.declared.receipt.Kind.TheVariants as kinds

-- the receipts of explanations
receipts_told : (s : Setting) (hired : Context) (trip : Option MeterTrip) (list : List Receipt)
    → map (λ (e : Explanation). e.receipt) (map (explanation s hired trip) list) ≡ list
receipts_told s hired trip [] = refl
receipts_told s hired trip (receipt ∷ more) =
    ap (λ (list : List Receipt). receipt ∷ list) (receipts_told s hired trip more)

receipts_from : (s : Setting) (events : List Event) (m : Meter) (hired : Context)
    → map (λ (e : Explanation). e.receipt) (explanations_from s events m hired)
    ≡ receipts_in ((run s events m).acts ++ (ended s (run s events m).next).acts)
unfolding explanations_from
receipts_from s [] m hired = receipts_told s hired (trip_at s events.Down m) (receipts_in (ended s m).acts)
receipts_from s (event ∷ events) m hired =
    let next = (step s event m).next in
    let first = (step s event m).acts in
    let others = (run s events next).acts in
    let last = (ended s (run s events next).next).acts in
    let told = explanations_in s hired (trip_at s event m) first in
    let rest = explanations_from s events next (hired_at s event m hired) in
    map-append (λ (e : Explanation). e.receipt) told rest
    ∙ (ap (λ (list : List Receipt). list ++ map (λ (e : Explanation). e.receipt) rest)
    (receipts_told s hired (trip_at s event m) (receipts_in first))
    ∙ (ap (λ (list : List Receipt). receipts_in first ++ list)
    (receipts_from s events next (hired_at s event m hired))
    ∙ (sym (filter_map-append receipt_in first (others ++ last))
    ∙ ap receipts_in (sym (append_assoc first others last)))))

pub receipts_explained : (s : Setting) (events : List Event)
    → map (λ (e : Explanation). e.receipt) (explanations_of s events) ≡ receipts_in (actions_of s first_state events)
receipts_explained s events = receipts_from s events (opened s first_state) (context_now s (opened s first_state))

-- a receipt of a trip that may be none
pub record IsReceiptOf (s : Setting) (trip : Option MeterTrip) (receipt : Receipt) : Type 0 where
  pub t : MeterTrip
  pub kind : Kind
  pub finish : ℕ
  pub position : ℕ
  pub number : ℕ
  pub there : trip ≡ Some t
  pub is : receipt ≡ receipt_of s kind finish position t number

abbrev pub AreOf : Setting → Option MeterTrip → List Receipt → Type 0
AreOf s trip [] = Unit {0}
AreOf s trip (receipt ∷ more) = IsReceiptOf s trip receipt × AreOf s trip more

are_both : (s : Setting) (trip : Option MeterTrip) (first others : List Receipt) → AreOf s trip first
    → AreOf s trip others → AreOf s trip (first ++ others)
are_both s trip [] others one other = other
are_both s trip (receipt ∷ more) others one other = (one.0, are_both s trip more others one.1 other)

-- an outcome whose receipts are of a trip, and of whose own trip something holds that goes by a context
pub record Goes (F : Context → Option MeterTrip → Type 0) (s : Setting) (hired : Context) (trip : Option MeterTrip)
    (o : Outcome) : Type 0 where
  pub are : AreOf s trip (receipts_in o.acts)
  pub holds : F hired o.next.trip

-- the trip that a hiring begins
abbrev pub begun_at : Setting → Meter → MeterTrip
begun_at s m = begun s (fees_in_force s.tariff (context_now s m)) m.clock (sum m.roaming)

-- what is for hire has no trip
pub none_kept : (s : Setting) (operating : Operating) (m : Meter) → operating ≡ ForHire
    → IsTripKeptIn s operating m.durable.hold m.trip m.roaming → m.trip ≡ None
none_kept s operating m is kept = (rw is at kept).1

pub none_counted : (s : Setting) (operating : Operating) (pulses : ℕ) (m : Meter) → m.operating ≡ operating
    → IsTripKept s m
    → (counted_in s operating pulses m).operating ≡ ForHire → (counted_in s operating pulses m).trip ≡ None
none_counted s Off pulses m is kept for_hire = none_kept s m.operating m for_hire kept
none_counted s ForHire pulses m is kept for_hire = none_kept s m.operating m for_hire kept
none_counted s Hired pulses m is kept for_hire = absurd (let e : Hired ≡ ForHire = sym is ∙ for_hire in cc)
none_counted s Stopped pulses m is kept for_hire = absurd (let e : Stopped ≡ ForHire = sym is ∙ for_hire in cc)

-- an event in Off ends no interval, and leaves none unfinished
counted_off : (s : Setting) (m : Meter) → m.operating ≡ Off → (interval_counted s m).next.trip ≡ m.trip
counted_off s m off = ap (λ (o : Operating). (counted_in s o (sum m.taken) m).trip) off

left_off : (m : Meter) → m.operating ≡ Off → (interval_left m).next.trip ≡ m.trip
left_off m off = ap (λ (o : Operating). (left_in o (sum m.taken) m).trip) off

hired_off : (latch : Option Key) (now hired : Context) → hired_by latch Off now hired ≡ hired
hired_off (Some keys.Hire) now hired = refl
hired_off latch now hired = refl

surplus_by : (s : Setting) (trip : Option MeterTrip) (b : Bool) (n : ℕ)
    → AreOf s trip (receipts_in (if b then Refuse (TooFast n) ∷ [] else []))
surplus_by s trip true n = tt
surplus_by s trip false n = tt

shown_by : (s : Setting) (trip : Option MeterTrip) (m : Meter) (b : Bool)
    → AreOf s trip (receipts_in (if b then [] else Show (display_of s m) ∷ []))
shown_by s trip m true = tt
shown_by s trip m false = tt

-- what holds without a trip, and of a trip with a supplement more if it holds of the trip, holds behind an event if it
-- holds of the trip with the event's part, and of the trip that a hiring begins
module _ (s : Setting) (F : Context → Option MeterTrip → Type 0) (nothing : (hired : Context) → F hired None)
    (extra : (hired : Context) (n : ℕ) (t : MeterTrip) → (IsOfText s → IsSupplementNumber n) → F hired (Some t)
    → F hired (Some (with_extra n t))) where
  abbrev Comes : Context → Option MeterTrip → Outcome → Type 0
  Comes hired trip o = Goes F s hired trip o

  without : (hired : Context) (trip : Option MeterTrip) → trip ≡ None → F hired trip
  without hired trip none = subst (λ (o : Option MeterTrip). F hired o) (sym none) (nothing hired)

  goes_then : (mid hired : Context) (trip : Option MeterTrip) (o : Outcome) (next : Meter → Outcome)
      → Comes mid trip o → Comes hired trip (next o.next) → Comes hired trip (o >>= next)
  goes_then mid hired trip o next one other = record {
    are = subst (λ (list : List Receipt). AreOf s trip list)
        (sym (filter_map-append receipt_in o.acts (next o.next).acts))
        (are_both s trip (receipts_in o.acts) (receipts_in (next o.next).acts) one.are other.are);
    holds = other.holds;
  }

  goes_quietly : (hired : Context) (trip : Option MeterTrip) (m : Meter) → F hired m.trip → Comes hired trip (quiet m)
  goes_quietly hired trip m holds = record { are = tt; holds = holds }

  goes_if : (hired : Context) (trip : Option MeterTrip) (b : Bool) (first second : Outcome)
      → Comes hired trip first → Comes hired trip second → Comes hired trip (if b then first else second)
  goes_if hired trip true first second one other = one
  goes_if hired trip false first second one other = other

  closed_by : (hired : Context) (kind : Kind) (finish : ℕ) (trip : Option MeterTrip) (m : Meter)
      → m.trip ≡ None → Comes hired trip (trip_closed s kind finish trip m)
  closed_by hired kind finish None m none = record { are = tt; holds = without hired m.trip none }
  closed_by hired kind finish (Some t) m none = record {
    are = (
      record {
        t = t;
        kind = kind;
        finish = finish;
        position = m.position;
        number = m.durable.number + 1;
        there = refl;
        is = refl;
      },
      tt,
    );
    holds = without hired m.trip none;
  }

  goes_closed : (hired : Context) (kind : Kind) (finish : ℕ) (m : Meter) → Comes hired m.trip (closed s kind finish m)
  goes_closed hired kind finish m =
      closed_by hired kind finish m.trip (record m { operating = ForHire; trip = None }) refl

  goes_shown : (hired : Context) (trip : Option MeterTrip) (m : Meter) → F hired m.trip → Comes hired trip (shown s m)
  goes_shown hired trip m holds =
      record { are = shown_by s trip m (is_shown m.shown (display_of s m)); holds = holds }

  goes_entered : (hired : Context) (trip : Option MeterTrip) (m : Meter) → F hired m.trip
      → Comes hired trip (roaming_entered s m)
  goes_entered hired trip m holds = record { are = tt; holds = holds }

  roaming_by : (hired : Context) (trip : Option MeterTrip) (operating : Operating) (m : Meter)
      → F hired m.trip → Comes hired trip (roaming_checked_in s operating m)
  roaming_by hired trip Off m holds = goes_quietly hired trip m holds
  roaming_by hired trip ForHire m holds = goes_if hired trip (nat_le roaming_most (sum m.roaming))
      (roaming_entered s m) (quiet m) (goes_entered hired trip m holds) (goes_quietly hired trip m holds)
  roaming_by hired trip Hired m holds = goes_quietly hired trip m holds
  roaming_by hired trip Stopped m holds = goes_quietly hired trip m holds

  latch_by : (hired : Context) (trip : Option MeterTrip) (latch : Option Key) (m : Meter)
      → F hired m.trip → Comes hired trip (latch_refused latch m)
  latch_by hired trip None m holds = goes_quietly hired trip m holds
  latch_by hired trip (Some key) m holds = record { are = tt; holds = holds }

  extra_by : (hired : Context) (n : ℕ) (supplement : Supplement) (trip : Option MeterTrip) (m : Meter)
      → (IsOfText s → IsSupplementNumber n) → m.trip ≡ trip → F hired trip
      → Comes hired trip (extra_added_to n supplement trip m)
  extra_by hired n supplement None m numbered is holds = record { are = tt; holds = without hired m.trip is }
  extra_by hired n supplement (Some t) m numbered is holds =
      let refused_there : F hired m.trip = subst (λ (o : Option MeterTrip). F hired o) (sym is) holds in
      goes_if hired (Some t) (nat_le supplement.max (times n t.extras)) _ _
      (record { are = tt; holds = refused_there }) (record { are = tt; holds = extra hired n t numbered holds })

  goes_extra : (hired : Context) (n : ℕ) (supplement : Option Supplement) (m : Meter)
      → supplement_numbered s.tariff.supplements n ≡ supplement → F hired m.trip
      → Comes hired m.trip (extra_added n supplement m)
  goes_extra hired n None m there holds = record { are = tt; holds = holds }
  goes_extra hired n (Some supplement) m there holds = extra_by hired n supplement m.trip m
      (λ of_text. supplement_of_text s n supplement of_text there) refl holds

  goes_position : (hired : Context) (n : ℕ) (m : Meter) → F hired m.trip → Comes hired m.trip (position_set s n m)
  goes_position hired n m holds =
      goes_if hired m.trip (is_among s.tariff.positions n) _ _ (record { are = tt; holds = holds })
      (record { are = tt; holds = holds })

  goes_zone : (hired : Context) (n : ℕ) (m : Meter) → F hired m.trip → Comes hired m.trip (zone_set s n m)
  goes_zone hired n m holds =
      goes_if hired m.trip (is_among s.tariff.zones n) _ _ (record { are = tt; holds = holds })
      (record { are = tt; holds = holds })

  goes_hiring : (trip : Option MeterTrip) (m : Meter) → m.trip ≡ None → F (context_now s m) (Some (begun_at s m))
      → Comes (context_now s m) trip (hiring s m)
  goes_hiring trip m none begins =
      goes_if (context_now s m) trip (nat_le hirings_end m.durable.number) _ _
      (record { are = tt; holds = without (context_now s m) m.trip none }) (record { are = tt; holds = begins })

  goes_key : (hired : Context) (key : Key) (operating : Operating) (m : Meter)
      → (operating ≡ ForHire → m.trip ≡ None)
      → (key ≡ keys.Hire → operating ≡ ForHire → F (context_now s m) (Some (begun_at s m))) → F hired m.trip
      → Comes (hired_by (Some key) operating (context_now s m) hired) m.trip (key_in s key operating m)
  goes_key hired keys.Hire ForHire m none begins holds = goes_hiring m.trip m (none refl) (begins refl refl)
  goes_key hired keys.Stop Hired m none begins holds = record { are = tt; holds = holds }
  goes_key hired keys.Clear Stopped m none begins holds = goes_closed hired kinds.Closed m.clock m
  goes_key hired (keys.Position n) ForHire m none begins holds = goes_position hired n m holds
  goes_key hired (keys.Position n) Hired m none begins holds = goes_position hired n m holds
  goes_key hired (keys.Zone n) ForHire m none begins holds = goes_zone hired n m holds
  goes_key hired (keys.Zone n) Hired m none begins holds = goes_zone hired n m holds
  goes_key hired (keys.Extra n) Hired m none begins holds =
      goes_extra hired n (supplement_numbered s.tariff.supplements n) m refl holds
  goes_key hired (keys.Extra n) Stopped m none begins holds =
      goes_extra hired n (supplement_numbered s.tariff.supplements n) m refl holds
  goes_key hired key operating m none begins holds = record { are = tt; holds = holds }

  goes_latch : (hired : Context) (latch : Option Key) (m : Meter) → (m.operating ≡ ForHire → m.trip ≡ None)
      → (latch ≡ Some keys.Hire → m.operating ≡ ForHire → F (context_now s m) (Some (begun_at s m))) → F hired m.trip
      → Comes (hired_by latch m.operating (context_now s m) hired) m.trip (latch_pressed s latch m)
  goes_latch hired None m none begins holds = goes_quietly hired m.trip m holds
  goes_latch hired (Some key) m none begins holds = goes_key hired key m.operating (record m { latch = None }) none
      (λ is for_hire. begins (ap (λ (k : Key). Some k) is) for_hire) holds

  goes_expired : (hired : Context) (m : Meter) → Comes hired m.trip (expired s m)
  goes_expired hired m =
      let first = goes_closed hired kinds.Expired m.clock m in
      let o = closed s kinds.Expired m.clock m in
      goes_then hired hired m.trip o (λ (n : Meter). latch_refused n.latch n) first
      (latch_by hired m.trip o.next.latch o.next first.holds)

  -- the hiring that a tick may begin
  abbrev Begins : Meter → Type 0
  Begins m = m.latch ≡ Some keys.Hire → m.operating ≡ ForHire → F (context_now s m) (Some (begun_at s m))

  goes_pressed : (hired : Context) (m : Meter) → (m.operating ≡ ForHire → m.trip ≡ None) → Begins m → F hired m.trip
      → Comes (hired_by m.latch m.operating (context_now s m) hired) m.trip (expired_or_pressed s m)
  goes_pressed hired m none begins holds =
      goes_if _ m.trip (nat_le longest_trip (ticks_so_far m.trip)) (expired s m) (key_pressed s m)
      (goes_expired _ m) (goes_latch hired m.latch m none begins holds)

  goes_ticked : (hired : Context) (m : Meter) → IsTripKept s m → Begins (interval_counted s m).next
      → F hired (trip_at s events.Tick m)
      → Comes (hired_at s events.Tick m hired) (trip_at s events.Tick m) (ticked s m)
  goes_ticked hired m kept begins holds =
      let m1 = (interval_counted s m).next in
      let t = m1.trip in
      let x = hired_by m.latch m.operating (context_now s m) hired in
      let none1 = none_counted s m.operating (sum m.taken) m refl kept in
      let acted = subst (λ (y : Context). Comes y t (expired_or_pressed s m1)) (hired_after s m hired)
      (goes_pressed hired m1 none1 begins holds) in
      let m2 = (expired_or_pressed s m1).next in
      let roamed = roaming_by x t m2.operating m2 acted.holds in
      let m3 = (roaming_checked s m2).next in
      let seen = goes_shown x t m3 roamed.holds in
      let last : Comes x t (interval_begun (shown s m3).next) = record { are = tt; holds = seen.holds } in
      let four = goes_then x x t (shown s m3) interval_begun seen last in
      let five = goes_then x x t (roaming_checked s m2) (λ (n : Meter). shown s n >>= interval_begun) roamed four in
      let six = goes_then x x t (expired_or_pressed s m1)
      (λ (n : Meter). roaming_checked s n >>= (λ (n : Meter). shown s n >>= interval_begun)) acted five in
      goes_then hired x t (interval_counted s m) (λ (n : Meter). expired_or_pressed s n
      >>= (λ (n : Meter). roaming_checked s n >>= (λ (n : Meter). shown s n >>= interval_begun)))
      (goes_quietly hired t m1 holds) six

  kept_by : (hired : Context) (trip : Option MeterTrip) (m : Meter) → m.trip ≡ trip → F hired trip
      → Comes hired trip (held_or_closed s trip m)
  kept_by hired None m is holds =
      goes_if hired None (nat_lt 0 (sum m.roaming)) (roaming_entered s m) (quiet m)
      (goes_entered hired None m (without hired m.trip is)) (goes_quietly hired None m (without hired m.trip is))
  kept_by hired (Some t) m is holds =
      goes_if hired (Some t) (nat_lt m.durable.number last_number) _ (closed s kinds.Aborted m.clock m)
      (record { are = tt; holds = subst (λ (o : Option MeterTrip). F hired o) (sym is) holds })
      (subst (λ (o : Option MeterTrip). Comes hired o (closed s kinds.Aborted m.clock m)) is
      (goes_closed hired kinds.Aborted m.clock m))

  pub goes_dropped : (hired : Context) (m : Meter) → F hired (trip_at s events.Down m)
      → Comes hired (trip_at s events.Down m) (supply_dropped s m)
  goes_dropped hired m holds =
      let m1 = (interval_left m).next in
      let stays = kept_by hired m1.trip m1 refl holds in
      let off : Comes hired m1.trip (turned_off (held_or_closed s m1.trip m1).next) =
      record { are = tt; holds = stays.holds } in
      goes_then hired hired m1.trip (interval_left m) (λ (n : Meter). held_or_closed s n.trip n >>= turned_off)
      (goes_quietly hired m1.trip m1 holds)
      (goes_then hired hired m1.trip (held_or_closed s m1.trip m1) turned_off stays off)

  goes_aborted : (hired : Context) (trip : Trip) (m : Meter) → Comes hired m.trip (aborted s trip m)
  goes_aborted hired trip m =
      let o = closed s kinds.Aborted trip.saved (record m { position = trip.position }) in
      let first = goes_closed hired kinds.Aborted trip.saved (record m { position = trip.position }) in
      goes_then hired hired m.trip o (λ (n : Meter). quiet (record n { position = 1; zone = 1 })) first
      (record { are = tt; holds = first.holds })

  hold_by : (hired : Context) (second : ℕ) (hold : Option Trip) (m : Meter) → F hired m.trip
      → Comes hired m.trip (hold_taken s second hold m)
  hold_by hired second None m holds = record { are = tt; holds = nothing hired }
  hold_by hired second (Some trip) m holds =
      goes_if hired m.trip (is_within_hold s second trip) (resumed trip m) (aborted s trip m)
      (record { are = tt; holds = holds }) (goes_aborted hired trip m)

  goes_came : (hired : Context) (second : ℕ) (m : Meter) → F hired m.trip
      → Comes hired m.trip (supply_came s second m)
  goes_came hired second m holds =
      let taken = hold_by hired second m.durable.hold (powered second m) holds in
      let o = hold_taken s second m.durable.hold (powered second m) in
      goes_then hired hired m.trip o (shown s) taken (goes_shown hired m.trip o.next taken.holds)

  goes_pulses : (hired : Context) (n : ℕ) (m : Meter) → F hired m.trip → Comes hired m.trip (pulses_taken n m)
  goes_pulses hired n m holds =
      record { are = surplus_by s m.trip (nat_lt 0 (n - room_of m)) (n - room_of m); holds = holds }

  goes_clock : (hired : Context) (operating : Operating) (second : ℕ) (m : Meter) → F hired m.trip
      → Comes hired m.trip (clock_read operating second m)
  goes_clock hired Off second m holds = record { are = tt; holds = holds }
  goes_clock hired ForHire second m holds = record { are = tt; holds = holds }
  goes_clock hired Hired second m holds = goes_if hired m.trip (nat_lt second m.clock) _ _
      (record { are = tt; holds = holds }) (record { are = tt; holds = holds })
  goes_clock hired Stopped second m holds = goes_if hired m.trip (nat_lt second m.clock) _ _
      (record { are = tt; holds = holds }) (record { are = tt; holds = holds })

  goes_latched : (hired : Context) (latch : Option Key) (key : Key) (m : Meter) → F hired m.trip
      → Comes hired m.trip (latched latch key m)
  goes_latched hired None key m holds = record { are = tt; holds = holds }
  goes_latched hired (Some waiting) key m holds = record { are = tt; holds = holds }

  goes_powered : (hired : Context) (event : Event) (m : Meter) → IsTripKept s m
      → (event ≡ events.Tick → Begins (interval_counted s m).next) → F hired (trip_at s event m)
      → Comes (hired_at s event m hired) (trip_at s event m) (powered_step s event m)
  goes_powered hired (events.Up second) m kept begins holds = record { are = tt; holds = holds }
  goes_powered hired events.Down m kept begins holds = goes_dropped hired m holds
  goes_powered hired (events.Pulses n) m kept begins holds = goes_pulses hired n m holds
  goes_powered hired events.Tick m kept begins holds = goes_ticked hired m kept (begins refl) holds
  goes_powered hired (events.Clock second) m kept begins holds = goes_clock hired m.operating second m holds
  goes_powered hired (events.Key key) m kept begins holds = goes_latched hired m.latch key m holds

  goes_off : (hired : Context) (event : Event) (m : Meter) → m.operating ≡ Off → F hired (trip_at s event m)
      → Comes (hired_at s event m hired) (trip_at s event m) (off_step s event m)
  goes_off hired (events.Up second) m off holds = goes_came hired second m holds
  goes_off hired events.Down m off holds =
      record { are = tt; holds = subst (λ (o : Option MeterTrip). F hired o) (left_off m off) holds }
  goes_off hired (events.Pulses n) m off holds = record { are = tt; holds = holds }
  goes_off hired events.Tick m off holds =
      let there : F hired m.trip = subst (λ (o : Option MeterTrip). F hired o) (counted_off s m off) holds in
      let same : hired_at s events.Tick m hired ≡ hired = rw off (hired_off m.latch (context_now s m) hired) in
      record { are = tt; holds = subst (λ (y : Context). F y m.trip) (sym same) there }
  goes_off hired (events.Clock second) m off holds = record { are = tt; holds = holds }
  goes_off hired (events.Key key) m off holds = record { are = tt; holds = holds }

  pub step_goes : (hired : Context) (operating : Operating) (event : Event) (m : Meter) → m.operating ≡ operating
      → IsTripKept s m → (event ≡ events.Tick → Begins (interval_counted s m).next) → F hired (trip_at s event m)
      → Comes (hired_at s event m hired) (trip_at s event m) (step_in s operating event m)
  step_goes hired Off event m is kept begins holds = goes_off hired event m is holds
  step_goes hired ForHire event m is kept begins holds = goes_powered hired event m kept begins holds
  step_goes hired Hired event m is kept begins holds = goes_powered hired event m kept begins holds
  step_goes hired Stopped event m is kept begins holds = goes_powered hired event m kept begins holds
