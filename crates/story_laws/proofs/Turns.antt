-- What an event does to the trip: it hires one, leaves it, or closes it with a receipt.
use Rattle.std.{specs.Prelude.{if◌then◌else◌, nat_le}, proofs.lemmas.List.Elements.{filter_map-append}}
use Rattle.std.proofs.Common.{[], ℕ, ◌++◌, ◌∙◌, ◌∷◌, ◌≡◌, Bool, List, None, Option, Some, ap, false, refl, true}
use Rattle.{taxi_units.specs.{Limits.{hirings_end}, Time.{longest_trip}}, drive_modes.specs.Distance.{millimetres_of}}
use Rattle.tariff_check.specs.{SoundTariff.{supplement_numbered}, declared.values.Supplement.{Supplement}}
use Rattle.meter_model.specs.{ClosedTrip.{closed, trip_closed}, Step.{expired, expired_or_pressed, latch_refused}}
use Rattle.meter_model.specs.Keys.{extra_added, extra_added_to, is_among, key_in, key_pressed, latch_pressed}
use Rattle.meter_model.specs.{Meter.{◌>>=◌, refused}, Supplements.{times}, Trip.{pulses_of}}
use Rattle.story_laws.specs.Common.{Display, ForHire, Hired, Key, Kind, Meter, MeterTrip, Operating, Outcome, Receipt}
use Rattle.story_laws.specs.Common.{Setting, Stopped, Why, display_in, displays_in, hired, quiet, receipt_in}
use Rattle.story_laws.specs.Common.{receipts_in, stamp_at, ticks_so_far}
use Rattle.taxi_units.specs.declared.event.Key.TheVariants as keys
use Rattle.taxi_units.specs.declared.receipt.Kind.TheVariants as kinds

-- a receipt is of a trip
pub record IsOf (s : Setting) (t : MeterTrip) (r : Receipt) : Type 0 where
  pub start : r.start ≡ stamp_at s t.started
  pub initial : r.initial ≡ t.fees.initial
  pub minimum : r.minimum ≡ t.fees.minimum
  pub distance : r.hired_mm ≡ millimetres_of s.constant (pulses_of t)

-- the trip behind something is the same but for its supplements, or it was closed, or there was none
pub data Turn (s : Setting) (trip next : Option MeterTrip) (list : List Receipt) : Type 0 where
  without : trip ≡ None → next ≡ None → list ≡ [] → Turn s trip next list
  stays : (t : MeterTrip) (extras : List ℕ) → trip ≡ Some t → next ≡ Some (record t { extras = extras }) → list ≡ []
      → Turn s trip next list
  closes : (t : MeterTrip) (r : Receipt) → trip ≡ Some t → next ≡ None → list ≡ r ∷ [] → IsOf s t r
      → Turn s trip next list

pub record Stage (s : Setting) (trip : Option MeterTrip) (o : Outcome) : Type 0 where
  pub turn : Turn s trip o.next.trip (receipts_in o.acts)
  pub unseen : displays_in o.acts ≡ []

turn_same : (s : Setting) (trip next : Option MeterTrip) (list : List Receipt) → next ≡ trip → list ≡ []
    → Turn s trip next list
turn_same s None next list same none = without refl same none
turn_same s (Some t) next list same none = stays t t.extras refl same none

-- a turn, and behind it nothing of the trip and no receipt
pub turn_then : (s : Setting) (trip mid next : Option MeterTrip) (list more all : List Receipt) → Turn s trip mid list
    → next ≡ mid → more ≡ [] → all ≡ list ++ more → Turn s trip next all
turn_then s trip mid next list more all (without a b c) same none is =
    without a (same ∙ b) (is ∙ (ap (λ (l : List Receipt). l ++ more) c ∙ none))
turn_then s trip mid next list more all (stays t extras a b c) same none is =
    stays t extras a (same ∙ b) (is ∙ (ap (λ (l : List Receipt). l ++ more) c ∙ none))
turn_then s trip mid next list more all (closes t r a b c of) same none is =
    closes t r a (same ∙ b) (is ∙ (ap (λ (l : List Receipt). l ++ more) c
    ∙ ap (λ (l : List Receipt). r ∷ l) none)) of

pub still : (s : Setting) (m : Meter) (trip : Option MeterTrip) (o : Outcome) → o.next.trip ≡ trip → receipts_in o.acts ≡ []
    → displays_in o.acts ≡ [] → Stage s trip o
still s m trip o same none unseen = record {
  turn = turn_same s trip o.next.trip (receipts_in o.acts) same none;
  unseen = unseen;
}

pub stage_if : (s : Setting) (trip : Option MeterTrip) (b : Bool) (o p : Outcome) → Stage s trip o → Stage s trip p
    → Stage s trip (if b then o else p)
stage_if s trip true o p one other = one
stage_if s trip false o p one other = other

-- something that leaves the trip behind a stage
pub stage_then : (s : Setting) (trip : Option MeterTrip) (o : Outcome) (more : Meter → Outcome) → Stage s trip o
    → (more o.next).next.trip ≡ o.next.trip → receipts_in (more o.next).acts ≡ [] → displays_in (more o.next).acts ≡ []
    → Stage s trip (o >>= more)
stage_then s trip o more first same none unseen = record {
  turn = turn_then s trip o.next.trip (more o.next).next.trip (receipts_in o.acts) (receipts_in (more o.next).acts) _
      first.turn same none (filter_map-append receipt_in o.acts (more o.next).acts);
  unseen = filter_map-append display_in o.acts (more o.next).acts
      ∙ (ap (λ (l : List Display). l ++ displays_in (more o.next).acts) first.unseen ∙ unseen);
}

module _ (s : Setting) where
  closed_by : (kind : Kind) (finish : ℕ) (trip : Option MeterTrip) (m : Meter) → m.trip ≡ None
      → Stage s trip (trip_closed s kind finish trip m)
  closed_by kind finish None m none = still s m None _ none refl refl
  closed_by kind finish (Some t) m none = record {
    turn = closes t _ refl none refl (record { start = refl; initial = refl; minimum = refl; distance = refl });
    unseen = refl;
  }

  pub stage_closed : (kind : Kind) (finish : ℕ) (m : Meter) → Stage s m.trip (closed s kind finish m)
  stage_closed kind finish m = closed_by kind finish m.trip (record m { operating = ForHire; trip = None }) refl

  latch_still : (latch : Option Key) (m : Meter) → Stage s m.trip (latch_refused latch m)
  latch_still None m = still s m m.trip _ refl refl refl
  latch_still (Some key) m = still s m m.trip _ refl refl refl

  latch_same : (latch : Option Key) (m : Meter) → (latch_refused latch m).next.trip ≡ m.trip
      × (receipts_in (latch_refused latch m).acts ≡ []) × (displays_in (latch_refused latch m).acts ≡ [])
  latch_same None m = (refl, refl, refl)
  latch_same (Some key) m = (refl, refl, refl)

  extra_to : (n : ℕ) (supplement : Supplement) (trip : Option MeterTrip) (m : Meter) → m.trip ≡ trip
      → Stage s trip (extra_added_to n supplement trip m)
  extra_to n supplement None m is = still s m None _ is refl refl
  extra_to n supplement (Some t) m is = stage_if s (Some t) (nat_le supplement.max (times n t.extras)) _ _
      (still s m (Some t) _ is refl refl)
      (record { turn = stays t (t.extras ++ n ∷ []) refl refl refl; unseen = refl })

  stage_extra : (n : ℕ) (supplement : Option Supplement) (m : Meter) → Stage s m.trip (extra_added n supplement m)
  stage_extra n None m = still s m m.trip _ refl refl refl
  stage_extra n (Some supplement) m = extra_to n supplement m.trip m refl

  -- a key that acts, or hires
  pub data Acts (key : Key) (operating : Operating) (m : Meter) (o : Outcome) : Type 0 where
    acts : Stage s m.trip o → Acts key operating m o
    hires : key ≡ keys.Hire → operating ≡ ForHire → o ≡ quiet (hired s m) → Acts key operating m o

  hiring_if : (b : Bool) (m : Meter) (why : Why)
      → Acts keys.Hire ForHire m (if b then refused why m else quiet (hired s m))
  hiring_if true m why = acts (still s m m.trip _ refl refl refl)
  hiring_if false m why = hires refl refl refl

  act_by : (key : Key) (operating : Operating) (m : Meter) → Acts key operating m (key_in s key operating m)
  act_by keys.Hire ForHire m = hiring_if (nat_le hirings_end m.durable.number) m _
  act_by keys.Stop Hired m = acts (still s m m.trip _ refl refl refl)
  act_by keys.Clear Stopped m = acts (stage_closed kinds.Closed m.clock m)
  act_by (keys.Position n) ForHire m = acts (stage_if s m.trip (is_among s.tariff.positions n) _ _
      (still s m m.trip _ refl refl refl) (still s m m.trip _ refl refl refl))
  act_by (keys.Position n) Hired m = acts (stage_if s m.trip (is_among s.tariff.positions n) _ _
      (still s m m.trip _ refl refl refl) (still s m m.trip _ refl refl refl))
  act_by (keys.Zone n) ForHire m = acts (stage_if s m.trip (is_among s.tariff.zones n) _ _
      (still s m m.trip _ refl refl refl) (still s m m.trip _ refl refl refl))
  act_by (keys.Zone n) Hired m = acts (stage_if s m.trip (is_among s.tariff.zones n) _ _
      (still s m m.trip _ refl refl refl) (still s m m.trip _ refl refl refl))
  act_by (keys.Extra n) Hired m = acts (stage_extra n (supplement_numbered s.tariff.supplements n) m)
  act_by (keys.Extra n) Stopped m = acts (stage_extra n (supplement_numbered s.tariff.supplements n) m)
  act_by key operating m = acts (still s m m.trip _ refl refl refl)

  stage_expired : (m : Meter) → Stage s m.trip (expired s m)
  stage_expired m =
      let o = closed s kinds.Expired m.clock m in
      let rest = latch_same o.next.latch o.next in
      stage_then s m.trip o (λ (n : Meter). latch_refused n.latch n) (stage_closed kinds.Expired m.clock m) rest.0
      rest.1 rest.2

  -- the end of an interval: the trip turns, or one is hired
  pub data Ends (m : Meter) (o : Outcome) : Type 0 where
    turns : Stage s m.trip o → Ends m o
    begins : m.latch ≡ Some keys.Hire → m.operating ≡ ForHire → o ≡ quiet (hired s (record m { latch = None })) → Ends m o

  ends_by : (key : Key) (m : Meter) (o : Outcome) → m.latch ≡ Some key
      → Acts key m.operating (record m { latch = None }) o → Ends m o
  ends_by key m o waits (acts stage) = turns (record { turn = stage.turn; unseen = stage.unseen })
  ends_by key m o waits (hires is free made) = begins (waits ∙ ap (λ (k : Key). Some k) is) free made

  latch_ends : (latch : Option Key) (m : Meter) → m.latch ≡ latch → Ends m (latch_pressed s latch m)
  latch_ends None m waits = turns (still s m m.trip _ refl refl refl)
  latch_ends (Some key) m waits =
      ends_by key m _ waits (act_by key m.operating (record m { latch = None }))

  ends_if : (b : Bool) (m : Meter) (o p : Outcome) → Stage s m.trip o → Ends m p → Ends m (if b then o else p)
  ends_if true m o p one other = turns one
  ends_if false m o p one other = other

  pub interval_ends : (m : Meter) → Ends m (expired_or_pressed s m)
  interval_ends m = ends_if (nat_le longest_trip (ticks_so_far m.trip)) m (expired s m) (key_pressed s m)
      (stage_expired m) (latch_ends m.latch m refl)
