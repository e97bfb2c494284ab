-- One event, and the supply drop at the end.
use Rattle.{std.{specs.Option.{ForSome}, proofs.lemmas.List.{append-nil}}, tariff_check.specs.SoundTariff.{sound_of}}
use Rattle.std.proofs.Common.{[], ℕ, ◌++◌, ◌∙◌, ◌∷◌, ◌≡◌, ◌≢◌, ◌≤◌, All, Err, List, Ok, OnErr, OnOk, Result, ap}
use Rattle.std.proofs.{Common.{append_assoc, inl, inr, refl, subst, sym}, lemmas.List.Elements.{All-cons, All-nil}}
use Rattle.{taxi_units.specs.declared.event.Why.TheVariants.{NotNow}, meter_model.specs.Supply.{supply_dropped}}
use Rattle.{outside.proofs.Laws.{begins_after, begins_more, begins_whole}, tariff_compile.specs.Tables.{IsCompiled}}
use Rattle.meter_model.{specs.{KeptTrip.{IsSavedIn}, Run.{ended_in}}, proofs.Laws.{the_store_keeps_the_trip-step}}
use Rattle.{meter_states.proofs.Laws.{the_store_has_what_the_acts_commit-event}, meter_run.specs.Common.{supply_came}}
use Rattle.meter_run.specs.{BetweenEvents.{IsTripKept, IsTripKeptIn, StandsWith}, RunLaws.{after_is, texts_append}}
use Rattle.meter_run.{specs.Commits.{AreFor, after_acts, commits_in}, proofs.OneCommit.{commits_once}}
use Rattle.meter_run.specs.Common.{Act, Begins, CachedCore, Clock, CoreData, Down, Durable, Event, Fits, ForHire}
use Rattle.meter_run.specs.Common.{Ghosts, Hired, IsDurable, IsLawful, IsLawfulAct, IsSettingOf, KeepsStore, Key, Meets}
use Rattle.meter_run.specs.Common.{Meter, Off, Operating, Outcome, Pulses, Refuse, Seal, Setting, Stands, Stopped}
use Rattle.meter_run.specs.Common.{TableParts, Tick, Up, actions_of, ended, first_state, opened, run, step, step_in}
use Rattle.meter_run.specs.{Dry.{BreaksOff, CarriesEvents, IsMeterReady, Prints, PrintsSome}, Texts.{shown_texts}}
use Rattle.meter_run.{specs.declared.dry.DryMeter.{DryMeter}, proofs.CommittedStates.{are_for, fits_after, range_after}}

-- ---- off

-- a core that is off stands for states that are off
pub off_of : (s : Setting) (core : CachedCore) (m : Meter) → Stands s core.state m → core.state.operating ≡ Off
    → m.operating ≡ Off
off_of s core m (inl both) off = both.1
off_of s core m (inr on) off = absurd (on.0 (sym (ap (λ (p : CoreData). p.operating) on.1) ∙ off))

up_is : (s : Setting) (second : ℕ) (m : Meter) → m.operating ≡ Off → step s (Up second) m ≡ supply_came s second m
up_is s second m off = rw off refl

saved_off : (s : Setting) (m : Meter) → m.operating ≡ Off → IsTripKept s m → IsSavedIn s m.durable.hold m.trip
saved_off s m off kept = subst (λ (x : Operating). IsTripKeptIn s x m.durable.hold m.trip m.roaming) off kept

-- the supply comes
pub came : (s : Setting) (second : ℕ) (core core' : CachedCore) (d : Durable) (acts : List Act)
    → core.state.operating ≡ Off
    → ((m : Meter) → m.durable ≡ d → IsSavedIn s d.hold m.trip → Meets s core'.state acts (supply_came s second m))
    → (m : Meter) → StandsWith s core.state d m → Meets s core'.state acts (step s (Up second) m)
came s second core core' d acts off meets m st =
    let is = off_of s core m st.core off in
    let saved : IsSavedIn s d.hold m.trip =
    subst (λ (x : Durable). IsSavedIn s x.hold m.trip) (sym st.durable) (saved_off s m is st.kept) in
    subst (λ (o : Outcome). Meets s core'.state acts o) (sym (up_is s second m is)) (meets m (sym st.durable) saved)

-- ---- the acts of other events

refused_off : (s : Setting) (event : Event) (m : Meter) → m.operating ≡ Off → ((second : ℕ) → event ≢ Up second)
    → (step s event m).acts ≡ Refuse NotNow ∷ []
refused_off s (Up second) m off other = absurd (other second refl)
refused_off s Down m off other = rw off refl
refused_off s (Pulses n) m off other = rw off refl
refused_off s Tick m off other = rw off refl
refused_off s (Clock second) m off other = rw off refl
refused_off s (Key key) m off other = rw off refl

-- an event that isn't the coming of the supply
pub stepped : (tables : TableParts) (s : Setting) (event : Event) (core : CachedCore) (d : Durable) (acts : List Act)
    (m : Meter) → StandsWith s core.state d m
    → ((second : ℕ) → core.state.operating ≡ Off → event ≢ Up second) → acts ≡ (step s event m).acts
    → All (IsLawfulAct tables core.state.number) acts → All (IsLawfulAct tables d.number) acts
stepped tables s event core d acts m st other is lawful = by st.core
  where
    by : Stands s core.state m → All (IsLawfulAct tables d.number) acts
    by (inl both) = subst (All (IsLawfulAct tables d.number))
        (sym (is ∙ refused_off s event m both.1 (λ second. other second both.0)))
        (All-cons (IsLawfulAct tables d.number) (Refuse NotNow) [] tt (All-nil (IsLawfulAct tables d.number)))
    by (inr on) = subst (λ (n : ℕ). All (IsLawfulAct tables n) acts)
        (ap (λ (p : CoreData). p.number) on.1 ∙ sym (ap (λ (x : Durable). x.number) st.durable)) lawful

-- ---- after an event

pub stands_after : (s : Setting) (event : Event) (core core' : CachedCore) (d d' : Durable) (acts : List Act)
    (m : Meter) → StandsWith s core.state d m → Meets s core'.state acts (step s event m) → d' ≡ after_acts d acts
    → StandsWith s core'.state d' (step s event m).next
stands_after s event core core' d d' acts m st meets is = record {
  core = meets.state;
  durable = is ∙ ap (λ (x : Durable). after_acts x acts) st.durable ∙ ap (after_acts m.durable) meets.done
      ∙ after_is m.durable (step s event m).acts ∙ sym (the_store_has_what_the_acts_commit-event s event m);
  kept = the_store_keeps_the_trip-step s event m st.kept;
}

-- they commit once at most
pub few_commits : (tables : TableParts) (seal : Seal) (event : Event) (core core' : CachedCore) (d : Durable)
    (acts : List Act) → IsMeterReady tables seal core d
    → ((s : Setting) (m : Meter) → IsSettingOf s tables seal → StandsWith s core.state d m
    → Meets s core'.state acts (step s event m)) → commits_in acts ≤ 1
few_commits tables seal event core core' d acts ready meets =
    let way = ready.way in
    subst (λ (xs : List Act). commits_in xs ≤ 1) (sym (meets way.setting way.meter way.is way.stands).done)
    (commits_once way.setting event way.meter way.stands.kept)

-- the acts may be carried out
pub acts_for : (tables : TableParts) (seal : Seal) (event : Event) (core core' : CachedCore) (d : Durable)
    (acts : List Act) → IsMeterReady tables seal core d
    → ((s : Setting) (m : Meter) → IsSettingOf s tables seal → StandsWith s core.state d m
    → Meets s core'.state acts (step s event m)) → All (IsLawfulAct tables d.number) acts → AreFor d acts
acts_for tables seal event core core' d acts ready meets lawful =
    are_for tables d acts ready.range (few_commits tables seal event core core' d acts ready meets) lawful

pub ready_after : (tables : TableParts) (seal : Seal) (event : Event) (core core' : CachedCore) (d d' : Durable)
    (acts : List Act) → IsMeterReady tables seal core d
    → ((s : Setting) (m : Meter) → IsSettingOf s tables seal → StandsWith s core.state d m
    → Meets s core'.state acts (step s event m)) → All (IsLawfulAct tables d.number) acts
    → IsLawful tables seal core' → d' ≡ after_acts d acts → IsMeterReady tables seal core' d'
ready_after tables seal event core core' d d' acts ready meets lawful on is =
    let way = ready.way in
    record {
      lawful = on;
      range = subst IsDurable (sym is)
          (range_after d acts ready.range (acts_for tables seal event core core' d acts ready meets lawful));
      fits = subst (λ (x : Durable). ForSome x.hold (Fits tables)) (sym is)
          (fits_after tables d.number d acts ready.fits lawful);
      way = record {
        setting = way.setting;
        meter = (step way.setting event way.meter).next;
        is = way.is;
        stands = stands_after way.setting event core core' d d' acts way.meter way.stands
            (meets way.setting way.meter way.is way.stands) is;
      };
    }

-- a meter that begins, off, with nothing in its store
pub begins : (s : Setting) (core : CachedCore) (d : Durable) → core.state.operating ≡ Off → d ≡ first_state
    → StandsWith s core.state d (opened s first_state)
begins s core d off is = record { core = inl (off, refl); durable = is; kept = refl }

pub ready_first : (tables : TableParts) (seal : Seal) (core : CachedCore) (d : Durable) → IsCompiled tables
    → tables.constant ≡ seal.params.constant → IsLawful tables seal core → core.state.operating ≡ Off → IsDurable d
    → d ≡ first_state
    → IsMeterReady tables seal core d
ready_first tables seal core d compiled constant lawful off range is =
    let s : Setting = record {
      tariff = sound_of compiled.0;
      constant = tables.constant;
      mode = seal.params.mode;
      hold_time = seal.params.hold_time;
      offsets = seal.params.offsets;
    } in
    record {
      lawful = lawful;
      range = range;
      fits = λ trip holds. absurd (let bad = sym (ap (λ (x : Durable). x.hold) is) ∙ holds in cc);
      way = record {
        setting = s;
        meter = opened s first_state;
        is = record {
          tariff = record { tree = compiled.0; compiled = compiled.1; parts = refl; constant = refl };
          secured = record { constant = sym constant; mode = refl; hold_time = refl; offsets = refl };
        };
        stands = begins s core d off is;
      };
    }

-- ---- the supply drop at the end

ended_off : (s : Setting) (m : Meter) → m.operating ≡ Off → (ended s m).acts ≡ []
ended_off s m off = rw off refl

ended_on_in : (s : Setting) (operating : Operating) (m : Meter) → operating ≢ Off
    → (ended_in s operating m).acts ≡ (step_in s operating Down m).acts ++ []
ended_on_in s Off m on = absurd (on refl)
ended_on_in s ForHire m on = sym (append-nil (supply_dropped s m).acts)
ended_on_in s Hired m on = sym (append-nil (supply_dropped s m).acts)
ended_on_in s Stopped m on = sym (append-nil (supply_dropped s m).acts)

pub ended_on : (s : Setting) (m : Meter) → m.operating ≢ Off → (ended s m).acts ≡ (run s (Down ∷ []) m).acts
ended_on s m on = ended_on_in s m.operating m on

pub on_of : (s : Setting) (core : CachedCore) (m : Meter) → Stands s core.state m → core.state.operating ≢ Off
    → m.operating ≢ Off
on_of s core m (inl both) on = absurd (on both.0)
on_of s core m (inr both) on = both.0

module _ {D L : Type 0} {N : ℕ} (B : Ghosts D N L) (tables : TableParts) (seal : Seal) where
  -- one event
  texts_one : (s : Setting) (event : Event) (m : Meter) (acts : List Act) → acts ≡ (step s event m).acts
      → shown_texts acts ≡ shown_texts (run s (event ∷ []) m).acts
  texts_one s event m acts is = ap shown_texts (is ∙ sym (append-nil (step s event m).acts))

  pub carries_event : (x : DryMeter) (b : D) (y : DryMeter) (c : D) (event : Event) (acts : List Act)
      → ((s : Setting) (m : Meter) → IsSettingOf s tables seal → StandsWith s x.core.state x.durable m
      → Meets s y.core.state acts (step s event m))
      → y.durable ≡ after_acts x.durable acts → (B.tells_text → B.printed c ≡ B.printed b ++ shown_texts acts)
      → KeepsStore B b c → CarriesEvents B tables seal x b (event ∷ []) y c
  carries_event x b y c event acts meets durable printed store = record {
    stands = λ s m is st. stands_after s event x.core y.core x.durable y.durable acts m st (meets s m is st) durable;
    printed = λ told s m is st. printed told
        ∙ ap (λ (t : List ℕ). B.printed b ++ t) (texts_one s event m acts (meets s m is st).done);
    store = store;
  }

  pub breaks_event : (x : DryMeter) (b c : D) (core : CachedCore) (event : Event) (acts : List Act)
      → ((s : Setting) (m : Meter) → IsSettingOf s tables seal → StandsWith s x.core.state x.durable m
      → Meets s core.state acts (step s event m))
      → (B.tells_text → Begins (B.printed b) (B.printed c) (shown_texts acts)) → KeepsStore B b c
      → BreaksOff B tables seal x b (event ∷ []) c
  breaks_event x b c core event acts meets begun store = record {
    begun = λ told s m is st. subst (Begins (B.printed b) (B.printed c))
        (texts_one s event m acts (meets s m is st).done) (begun told);
    store = store;
  }

  pub ends_off : (x : DryMeter) (b : D) → x.core.state.operating ≡ Off → Prints B tables seal (λ s m. ended s m) x b b
  ends_off x b off told s m is st = sym (append-nil (B.printed b))
      ∙ ap (λ (acts : List Act). B.printed b ++ shown_texts acts) (sym (ended_off s m (off_of s x.core m st.core off)))

  pub ends_on : (x : DryMeter) (b : D) (y : DryMeter) (c : D) → x.core.state.operating ≢ Off
      → CarriesEvents B tables seal x b (Down ∷ []) y c → Prints B tables seal (λ s m. ended s m) x b c
  ends_on x b y c on h told s m is st = h.printed told s m is st
      ∙ ap (λ (acts : List Act). B.printed b ++ shown_texts acts) (sym (ended_on s m (on_of s x.core m st.core on)))

  pub ends_broken : (x : DryMeter) (b c : D) → x.core.state.operating ≢ Off → BreaksOff B tables seal x b (Down ∷ []) c
      → PrintsSome B tables seal (λ s m. ended s m) x b c
  ends_broken x b c on h told s m is st = subst (λ (acts : List Act). Begins (B.printed b) (B.printed c)
      (shown_texts acts)) (sym (ended_on s m (on_of s x.core m st.core on))) (h.begun told s m is st)

  pub off_some : (x : DryMeter) (b : D) → x.core.state.operating ≡ Off
      → PrintsSome B tables seal (λ s m. ended s m) x b b
  off_some x b off told s m is st =
      begins_whole (B.printed b) (B.printed b) (shown_texts (ended s m).acts) (ends_off x b off told s m is st)

  pub ends_some : {A E : Type 0} (r : Result A E) (x : DryMeter) (b : D) (y : DryMeter) (c : D) → x.core.state.operating
      ≢ Off → OnOk r (CarriesEvents B tables seal x b (Down ∷ []) y c)
      → OnErr r (BreaksOff B tables seal x b (Down ∷ []) c)
      → PrintsSome B tables seal (λ s m. ended s m) x b c
  ends_some (Ok u) x b y c on h k told s m is st =
      begins_whole (B.printed b) (B.printed c) (shown_texts (ended s m).acts) (ends_on x b y c on h told s m is st)
  ends_some (Err e) x b y c on h k told s m is st = ends_broken x b c on k told s m is st

  -- the store, if events were carried out or broke off
  pub event_store : {A E : Type 0} (r : Result A E) (x : DryMeter) (b : D) (y : DryMeter) (c : D) (events : List Event)
      → OnOk r (CarriesEvents B tables seal x b events y c) → OnErr r (BreaksOff B tables seal x b events c)
      → KeepsStore B b c
  event_store (Ok u) x b y c events h k = h.store
  event_store (Err e) x b y c events h k = k.store

  -- ---- a whole run
  texts_whole : (s : Setting) (events : List Event) → shown_texts (actions_of s first_state events) ≡ shown_texts (run s
      events (opened s first_state)).acts ++ shown_texts (ended s (run s events (opened s first_state)).next).acts
  texts_whole s events =
      texts_append (run s events (opened s first_state)).acts (ended s (run s events (opened s first_state)).next).acts

  module _ (x : DryMeter) (a : D) (off : x.core.state.operating ≡ Off) (first : x.durable ≡ first_state)
      (events : List Event) where
    pub whole_printed : (y : DryMeter) (b c : D) → CarriesEvents B tables seal x a events y b
        → Prints B tables seal (λ s m. ended s m) y b c
        → B.tells_text → (s : Setting) → IsSettingOf s tables seal
        → B.printed c ≡ B.printed a ++ shown_texts (actions_of s first_state events)
    whole_printed y b c carried drop told s is =
        let m = opened s first_state in
        let n = (run s events m).next in
        let st = begins s x.core x.durable off first in
        drop told s n is (carried.stands s m is st)
        ∙ ap (λ (p : List ℕ). p ++ shown_texts (ended s n).acts) (carried.printed told s m is st)
        ∙ append_assoc (B.printed a) (shown_texts (run s events m).acts) (shown_texts (ended s n).acts)
        ∙ ap (λ (p : List ℕ). B.printed a ++ p) (sym (texts_whole s events))

    pub end_begun : (y : DryMeter) (b c : D) → CarriesEvents B tables seal x a events y b
        → PrintsSome B tables seal (λ s m. ended s m) y b c
        → B.tells_text → (s : Setting) → IsSettingOf s tables seal
        → Begins (B.printed a) (B.printed c) (shown_texts (actions_of s first_state events))
    end_begun y b c carried drop told s is =
        let m = opened s first_state in
        let n = (run s events m).next in
        let st = begins s x.core x.durable off first in
        subst (λ (p : List ℕ). Begins (B.printed a) (B.printed c) p) (sym (texts_whole s events))
        (begins_after (B.printed a) (B.printed b) (B.printed c) (shown_texts (run s events m).acts)
        (shown_texts (ended s n).acts) (carried.printed told s m is st) (drop told s n is (carried.stands s m is st)))

    pub run_begun : (c : D) → BreaksOff B tables seal x a events c → B.tells_text → (s : Setting)
        → IsSettingOf s tables seal → Begins (B.printed a) (B.printed c) (shown_texts (actions_of s first_state events))
    run_begun c broken told s is =
        let m = opened s first_state in
        subst (λ (p : List ℕ). Begins (B.printed a) (B.printed c) p) (sym (texts_whole s events))
        (begins_more (B.printed a) (B.printed c) (shown_texts (run s events m).acts) (shown_texts
        (ended s (run s events m).next).acts) (broken.begun told s m is (begins s x.core x.durable off first)))
