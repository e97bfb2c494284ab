-- One event on a store.
use Rattle.{std.specs.Option.{ForSome}, taxi_units.specs.declared.event.Why.TheVariants.{NotNow}}
use Rattle.std.proofs.Common.{[], ℕ, ◌++◌, ◌∙◌, ◌∷◌, ◌≡◌, ◌≢◌, All, IfSome, List, None, OnErr, OnOk, Option, Result}
use Rattle.std.proofs.{Common.{Some, ap, inl, refl, subst, sym}, lemmas.{List.{append-nil}, Result.{on_ok_weaker}}}
use Rattle.{outside.proofs.Laws.{cause_behind}, totals_record.specs.{Ranges.{IsHeld}, declared.trip.Trip.{Trip}}}
use Rattle.meter_model.{specs.{KeptTrip.{IsSavedIn}, Meter.{refused}}, proofs.Laws.{the_store_keeps_the_trip-begins}}
use Rattle.meter_states.{specs.{EventOnCore.{Takes}, Setting.{IsTariffOf}}, proofs.Laws.{the_store_keeps_the_trip-fits}}
use Rattle.meter_run.{specs.BetweenEvents.{StandsWith}, proofs.BoardDeeds.{beside_kept, print_point, settled_kept}}
use Rattle.meter_run.{specs.Commits.{after_acts}, proofs.SupplyDrop.{came, off_of, ready_after, stands_after, stepped}}
use Rattle.meter_run.specs.Common.{Act, Begins, CachedCore, Clock, Down, Durable, Event, Fits, Ghosts, HasCause}
use Rattle.meter_run.specs.Common.{HoldsState, IsDurable, IsLawful, IsLawfulAct, IsSettingOf, KeepsStore, Key, Known}
use Rattle.meter_run.specs.Common.{LeavesNow, LeavesOnly, MayLeaveAmid, Meets, Meter, Off, Outcome, Place, Pulses}
use Rattle.meter_run.specs.Common.{Refuse, Seal, Setting, StoreMeter, TableParts, Tick, Up, opened, refusal_text, run}
use Rattle.meter_run.specs.{Common.{step, supply_came}, OnStore.{MayDo, StandsOn, StopsAmid, WritesTotals}}
use Rattle.meter_run.specs.{Deeds.{Deed, Does, changes_of, deeds_of, texts}, StoreLaws.{beside_then, has_settled}}
use Rattle.meter_run.specs.{Dry.{IsMeterReady}, PointLaws.{keeps_longer, keeps_next, turn_next}, Supply.{StaysOff}}
use Rattle.meter_run.{specs.InTurn.{CommitsInTurn}, proofs.EventLists.{on_err, on_ok, on_ok_both, on_ok_under}}
use Rattle.meter_run.specs.OnStore.{Agrees, Attempts, CarriesEvents, CarriesOut, Has, IsMeterReadyOn, IsSecured, Knows}
use Rattle.meter_run.specs.Points.{GoesBy}
use Rattle.meter_model.specs.KeptTrip as kept

-- ---- a meter that opens with a durable state

hold_fits : (s : Setting) (tables : TableParts) (number : ℕ) (hold : Option Trip) → IsTariffOf s tables
    → IfSome hold (IsHeld number) → ForSome hold (Fits tables) → kept.HoldFits s hold
hold_fits s tables number None is held fits = tt
hold_fits s tables number (Some trip) is held fits =
    the_store_keeps_the_trip-fits s tables trip is (fits trip refl) held.ranges.extras.0

pub stands_opened : (s : Setting) (tables : TableParts) (core : CachedCore) (d : Durable) → IsTariffOf s tables
    → core.state.operating ≡ Off → IsDurable d → ForSome d.hold (Fits tables) → StandsWith s core.state d (opened s d)
stands_opened s tables core d is off range fits = record {
  core = inl (off, refl);
  durable = refl;
  kept = the_store_keeps_the_trip-begins s d (hold_fits s tables d.number d.hold is range.held fits);
}

pub ready_opened : (tables : TableParts) (seal : Seal) (core : CachedCore) (d : Durable) → IsSecured tables seal
    → core.state.operating ≡ Off → IsLawful tables seal core → IsDurable d → ForSome d.hold (Fits tables)
    → IsMeterReady tables seal core d
ready_opened tables seal core d secured off lawful range fits = record {
  lawful = lawful;
  range = range;
  fits = fits;
  way = record {
    setting = secured.setting;
    meter = opened secured.setting d;
    is = secured.is;
    stands = stands_opened secured.setting tables core d secured.is.tariff off range fits;
  };
}

-- ---- one event

pub refused_event : (s : Setting) (event : Event) (m : Meter) → m.operating ≡ Off → ((second : ℕ) → event ≢ Up second)
    → step s event m ≡ refused NotNow m
refused_event s (Up second) m off other = absurd (other second refl)
refused_event s Down m off other = rw off refl
refused_event s (Pulses n) m off other = rw off refl
refused_event s Tick m off other = rw off refl
refused_event s (Clock second) m off other = rw off refl
refused_event s (Key key) m off other = rw off refl

-- what the core's step says of its acts beside the durable state that is known
pub meets_with : (tables : TableParts) (seal : Seal) (event : Event) (core core' : CachedCore) (d : Durable)
    (acts : List Act) → Takes tables seal event core acts core'
    → (s : Setting) (m : Meter) → IsSettingOf s tables seal → StandsWith s core.state d m
    → Meets s core'.state acts (step s event m)
meets_with tables seal event core core' d acts takes s m is st = takes.meets s m is st.core

pub lawful_beside : (tables : TableParts) (seal : Seal) (event : Event) (core core' : CachedCore) (d : Durable)
    (acts : List Act) → IsMeterReady tables seal core d
    → ((second : ℕ) → core.state.operating ≡ Off → event ≢ Up second) → Takes tables seal event core acts core'
    → All (IsLawfulAct tables d.number) acts
lawful_beside tables seal event core core' d acts ready other takes =
    let way = ready.way in
    stepped tables way.setting event core d acts way.meter way.stands other
    (takes.meets way.setting way.meter way.is way.stands.core).done takes.ranges

-- acts under another name
pub meets_as : (tables : TableParts) (seal : Seal) (core : CachedCore) (d : Durable) (core' : CachedCore)
    (event : Event) (xs ys : List Act) → xs ≡ ys
    → ((s : Setting) (m : Meter) → IsSettingOf s tables seal → StandsWith s core.state d m
    → Meets s core'.state ys (step s event m))
    → (s : Setting) (m : Meter) → IsSettingOf s tables seal → StandsWith s core.state d m
    → Meets s core'.state xs (step s event m)
meets_as tables seal core d core' event xs ys same meets s m is st =
    subst (λ (acts : List Act). Meets s core'.state acts (step s event m)) (sym same) (meets s m is st)

pub came_as : (tables : TableParts) (seal : Seal) (core : CachedCore) (d : Durable) (core' : CachedCore) (second : ℕ)
    (xs ys : List Act) → xs ≡ ys → core.state.operating ≡ Off
    → ((s : Setting) (m : Meter) → IsSettingOf s tables seal → m.durable ≡ d → IsSavedIn s d.hold m.trip
    → Meets s core'.state ys (supply_came s second m))
    → (s : Setting) (m : Meter) → IsSettingOf s tables seal → StandsWith s core.state d m
    → Meets s core'.state xs (step s (Up second) m)
came_as tables seal core d core' second xs ys same off meets =
    meets_as tables seal core d core' (Up second) xs ys same
    (λ s m is st. came s second core core' d ys off (λ n at saved. meets s n is at saved) m st)

-- what was found is one
pub found_same : (o : Option Known) (a b : Known) (d : Durable) → o ≡ Some a → o ≡ Some b → a.durable ≡ d
    → b.durable ≡ d
found_same o a b d one other is = ap (λ (k : Known). k.durable) (by (sym other ∙ one)) ∙ is
  where
    by : Some b ≡ Some a → b ≡ a
    by same = cc

pub never_found : (o : Option Known) (a : Known) → o ≡ Some a → o ≡ None → ⊥
never_found o a one none = by (sym one ∙ none)
  where
    by : Some a ≡ None → ⊥
    by bad = absurd cc

module _ {D L : Type 0} {N : ℕ} (B : Ghosts D N L) (tables : TableParts) (seal : Seal) where
  -- a meter that knows a state is ready at it, and one that knows none is off
  pub known_ready : (x : StoreMeter) (k : Known) (a : D) → x.known ≡ Some k → IsMeterReadyOn B tables seal x a
      → IsMeterReady tables seal x.core k.durable
  known_ready x k a is ready = (subst (λ (o : Option Known). Knows B tables seal x.core o a) is ready.knows).0

  pub may_known : (x : StoreMeter) (k : Known) (a : D) (acts : List Act) → x.known ≡ Some k
      → IsMeterReadyOn B tables seal x a → All (IsLawfulAct tables k.durable.number) acts
      → MayDo B tables k a acts
  may_known x k a acts is ready lawful = record {
    agrees = (subst (λ (o : Option Known). Knows B tables seal x.core o a) is ready.knows).1;
    number = k.durable.number;
    lawful = lawful;
  }

  pub unknown_off : (x : StoreMeter) (a : D) → x.known ≡ None → IsMeterReadyOn B tables seal x a
      → x.core.state.operating ≡ Off
  unknown_off x a is ready = subst (λ (o : Option Known). Knows B tables seal x.core o a) is ready.knows

  -- the state that is known
  known_is : (known : Option Known) (k : Known) (a : D) (d : Durable) → known ≡ Some k → Has B known a d
      → (d ≡ k.durable) × HoldsState B k.place a k.durable
  known_is known k a d is has = subst (λ (o : Option Known). Has B o a d) is has

  stands_known : (s : Setting) (x : StoreMeter) (k : Known) (a : D) (m : Meter) → x.known ≡ Some k
      → StandsOn B tables s x a m → StandsWith s x.core.state k.durable m
  stands_known s x k a m is h =
      record { core = h.stands.core; durable = sym (known_is x.known k a m.durable is h.has).0; kept = h.stands.kept }

  -- from a state that is known, by the acts of the core
  module _ (x : StoreMeter) (a : D) (k : Known) (core : CachedCore) (b : D) (event : Event) (acts : List Act)
      (known : x.known ≡ Some k)
      (meets : (s : Setting) (m : Meter) → IsSettingOf s tables seal → StandsWith s x.core.state k.durable m
      → Meets s core.state acts (step s event m))
      (points : B.tells_image → GoesBy B tables seal a b k.durable (deeds_of acts))
      (beside : B.tells_image → WritesTotals B a b) where
    acts_are : (s : Setting) (m : Meter) → IsSettingOf s tables seal → StandsOn B tables s x a m
        → acts ≡ (step s event m).acts
    acts_are s m is h = (meets s m is (stands_known s x k a m known h)).done

    points_are : B.tells_image → (s : Setting) (m : Meter) → IsSettingOf s tables seal → StandsOn B tables s x a m
        → GoesBy B tables seal a b m.durable (deeds_of (step s event m).acts)
    points_are told s m is h =
        subst (λ (d : Durable). GoesBy B tables seal a b d (deeds_of (step s event m).acts))
        (sym (known_is x.known k a m.durable known h.has).0)
        (subst (λ (xs : List Act). GoesBy B tables seal a b k.durable (deeds_of xs)) (acts_are s m is h) (points told))

    out_event : (l : Known) → l.durable ≡ after_acts k.durable acts → Agrees B tables l b
        → (B.tells_text → B.printed b ≡ B.printed a ++ texts seal (deeds_of acts))
        → (B.tells_image → CommitsInTurn B k.durable (changes_of (deeds_of acts)) a b)
        → CarriesOut B tables seal (λ s m. step s event m) x a (record { core = core; known = Some l }) b
    out_event l durable agrees whole turn = record {
      stands = λ told s m is h.
          let st = stands_known s x k a m known h in
          let after = stands_after s event x.core core k.durable l.durable acts m st (meets s m is st) durable in
          record {
            stands = record { core = after.core; durable = refl; kept = after.kept };
            has = (sym after.durable, agrees.settled told);
            fits = subst (λ (d : Durable). ForSome d.hold (Fits tables)) after.durable agrees.fits;
          };
      printed = λ told s m is h t. subst (λ (xs : List Act). B.printed b ≡ B.printed a ++ texts seal (deeds_of xs))
          (acts_are s m is h) (whole t);
      points = points_are;
      turn = λ told s m is h.
          subst (λ (d : Durable). CommitsInTurn B d (changes_of (deeds_of (step s event m).acts)) a b)
          (sym (known_is x.known k a m.durable known h.has).0)
          (subst (λ (xs : List Act). CommitsInTurn B k.durable (changes_of (deeds_of xs)) a b) (acts_are s m is h)
          (turn told));
      beside = beside;
    }

    pub event_attempted : {T E : Type 0} (r : Result T E) (l : Known) → IsSecured tables seal → IsMeterReady tables seal
        x.core k.durable → All (IsLawfulAct tables k.durable.number) acts → IsLawful tables seal core
        → OnOk r (l.durable ≡ after_acts k.durable acts) → OnOk r (Agrees B tables l b) → (B.tells_text
        → OnOk r (B.printed b ≡ B.printed a ++ texts seal (deeds_of acts)))
        → (B.tells_image → OnOk r (CommitsInTurn B k.durable (changes_of (deeds_of acts)) a b))
        → HasCause (B.faults a) (B.faults b) r
        → Attempts B tables seal (λ s m. step s event m) x a r (record { core = core; known = Some l }) b
    event_attempted r l secured ready ranges lawful durable agrees whole turn cause = record {
      ready = on_ok_weaker r (λ both. record {
        secured = secured;
        lawful = lawful;
        knows = (
          ready_after tables seal event x.core core k.durable l.durable acts ready meets ranges lawful both.0,
          both.1,
        );
      }) (on_ok_both _ _ r durable agrees);
      carried = on_ok_weaker r (λ all. out_event l all.0 all.1.0 all.1.1.0 all.1.1.1) (on_ok_both _ _ r durable
          (on_ok_both _ _ r agrees (on_ok_both _ _ r (on_ok_under _ _ r whole) (on_ok_under _ _ r turn))));
      stopped = record { points = points_are; beside = beside };
      cause = cause;
    }

  -- a refusal while the meter is off
  module _ (x : StoreMeter) (a b : D) (event : Event) (ready : IsMeterReadyOn B tables seal x a) (unknown : x.known
      ≡ None)
      (other : (second : ℕ) → x.core.state.operating ≡ Off → event ≢ Up second)
      (now : LeavesNow B a) (kept : KeepsStore B a b)
      (leaves : LeavesOnly B a b (MayLeaveAmid (B.image a) (B.in_flight a) (B.printed a) (refusal_text NotNow)))
      (begun : B.tells_text → Begins (B.printed a) (B.printed b) (refusal_text NotNow)) where
    off : x.core.state.operating ≡ Off
    off = unknown_off x a unknown ready

    refuses : (s : Setting) (m : Meter) → StandsOn B tables s x a m → step s event m ≡ refused NotNow m
    refuses s m h = refused_event s event m (off_of s x.core m h.stands.core off) (λ second. other second off)

    refused_points : (s : Setting) (m : Meter) → StandsOn B tables s x a m
        → GoesBy B tables seal a b m.durable (deeds_of (step s event m).acts)
    refused_points s m h =
        let at = has_settled B x.known a m.durable h.has in
        subst (λ (o : Outcome). GoesBy B tables seal a b m.durable (deeds_of o.acts)) (sym (refuses s m h))
        (print_point B tables seal a b m.durable at.0 (Does (Refuse NotNow))
        (refusal_text NotNow) refl at.1 h.fits kept leaves begun)

    has_kept : (known : Option Known) (d : Durable) → Has B known a d → Has B known b d
    has_kept None d h = (h.0, settled_kept B h.0 d a b kept h.1)
    has_kept (Some k) d h = (h.0, settled_kept B k.place k.durable a b kept h.1)

    out_refused : (B.tells_text → B.printed b ≡ B.printed a ++ refusal_text NotNow)
        → CarriesOut B tables seal (λ s m. step s event m) x a x b
    out_refused whole = record {
      stands = λ told s m is h. subst (λ (o : Outcome). StandsOn B tables s x b o.next) (sym (refuses s m h))
          (record { stands = h.stands; has = has_kept x.known m.durable h.has; fits = h.fits });
      printed = λ told s m is h t. subst (λ (o : Outcome). B.printed b ≡ B.printed a ++ texts seal (deeds_of o.acts))
          (sym (refuses s m h))
          (whole t ∙ ap (λ (text : List ℕ). B.printed a ++ text) (sym (append-nil (refusal_text NotNow))));
      points = λ told s m is h. refused_points s m h;
      turn = λ told s m is h. subst (λ (o : Outcome). CommitsInTurn B m.durable (changes_of (deeds_of o.acts)) a b)
          (sym (refuses s m h)) kept;
      beside = λ told. beside_kept B a b now kept;
    }

    pub refusal_attempted : {T E : Type 0} (r : Result T E) → (B.tells_text
        → OnOk r (B.printed b ≡ B.printed a ++ refusal_text NotNow)) → HasCause (B.faults a) (B.faults b) r
        → Attempts B tables seal (λ s m. step s event m) x a r x b
    refusal_attempted r whole cause = record {
      ready = on_ok r _ (record {
        secured = ready.secured;
        lawful = ready.lawful;
        knows = subst (λ (o : Option Known). Knows B tables seal x.core o b) (sym unknown) off;
      });
      carried = on_ok_weaker r out_refused (on_ok_under _ _ r whole);
      stopped = record { points = λ told s m is h. refused_points s m h; beside = λ told. beside_kept B a b now kept };
      cause = cause;
    }

  -- ---- the supply comes

  -- a scan before it: what is found is the state of the store
  module _ (x : StoreMeter) (a b : D) (second : ℕ)
      (points : B.tells_image → (place : Place) (d : Durable) → HoldsState B place a d → ForSome d.hold (Fits tables)
      → GoesBy B tables seal a b d [])
      (text : B.printed b ≡ B.printed a) (beside : B.tells_image → WritesTotals B a b) where
    -- the board failed in it
    pub amid_scan : StopsAmid B tables seal (λ s m. step s (Up second) m) x a b
    amid_scan = record {
      points = λ told s m is h. let at = has_settled B x.known a m.durable h.has in
          keeps_longer B tables seal a b m.durable [] (deeds_of (step s (Up second) m).acts)
          (points told at.0 m.durable at.1 h.fits);
      beside = beside;
    }

    -- nothing was found, which isn't so on a board that tells its image
    pub blank_attempted : {T E : Type 0} (r : Result T E) → IsMeterReadyOn B tables seal x a
        → x.core.state.operating ≡ Off
        → ((s : Setting) (m : Meter) → B.tells_image → StandsOn B tables s x a m → ⊥)
        → HasCause (B.faults a) (B.faults b) r
        → Attempts B tables seal (λ s m. step s (Up second) m) x a r (record { core = x.core; known = None }) b
    blank_attempted r ready off never cause = record {
      ready = on_ok r _ (record { secured = ready.secured; lawful = ready.lawful; knows = off });
      carried = on_ok r _ (record {
        stands = λ told s m is h. absurd (never s m told h);
        printed = λ told s m is h t. absurd (never s m told h);
        points = amid_scan.points;
        turn = λ told s m is h. absurd (never s m told h);
        beside = beside;
      });
      stopped = amid_scan;
      cause = cause;
    }

    module _ (k : Known) (agrees : Agrees B tables k b) (finds : B.tells_image → (place : Place) (d : Durable)
        → HoldsState B place a d → ForSome d.hold (Fits tables) → k.durable ≡ d) (kept : KeepsStore B a b) where
      abbrev found : StoreMeter
      found = record { core = x.core; known = Some k }

      stands_found : B.tells_image → (s : Setting) (m : Meter) → StandsOn B tables s x a m
          → StandsOn B tables s found b m
      stands_found told s m h = let at = has_settled B x.known a m.durable h.has in record {
        stands = h.stands;
        has = (sym (finds told at.0 m.durable at.1 h.fits), agrees.settled told);
        fits = h.fits;
      }

      behind_scan : (c : D) (d : Durable) (deeds : List Deed) → GoesBy B tables seal a b d []
          → GoesBy B tables seal b c d deeds → GoesBy B tables seal a c d deeds
      behind_scan c d deeds h k =
          keeps_next B tables seal a b c d [] deeds (λ t. text ∙ sym (append-nil (B.printed a))) h k

      points_found : (c : D) → StopsAmid B tables seal (λ s m. step s (Up second) m) found b c → B.tells_image
          → (s : Setting) (m : Meter) → IsSettingOf s tables seal → StandsOn B tables s x a m
          → GoesBy B tables seal a c m.durable (deeds_of (step s (Up second) m).acts)
      points_found c h told s m is st = let at = has_settled B x.known a m.durable st.has in
          behind_scan c m.durable (deeds_of (step s (Up second) m).acts) (points told at.0 m.durable at.1 st.fits)
          (h.points told s m is (stands_found told s m st))

      out_found : (y : StoreMeter) (c : D) → CarriesOut B tables seal (λ s m. step s (Up second) m) found b y c
          → CarriesOut B tables seal (λ s m. step s (Up second) m) x a y c
      out_found y c h = record {
        stands = λ told s m is st. h.stands told s m is (stands_found told s m st);
        printed = λ told s m is st t. subst (λ (p : List ℕ). B.printed c ≡ p ++ texts seal
            (deeds_of (step s (Up second) m).acts)) text (h.printed told s m is (stands_found told s m st) t);
        points = points_found c (record { points = h.points; beside = h.beside });
        turn = λ told s m is st. turn_next B a b c m.durable [] (deeds_of (step s (Up second) m).acts) kept
            (h.turn told s m is (stands_found told s m st));
        beside = λ told. beside_then B a b c (beside told) (h.beside told);
      }

      pub found_attempted : {T E : Type 0} (r : Result T E) (y : StoreMeter) (c : D) → B.faults b ≡ B.faults a
          → Attempts B tables seal (λ s m. step s (Up second) m) found b r y c
          → Attempts B tables seal (λ s m. step s (Up second) m) x a r y c
      found_attempted r y c same h = record {
        ready = h.ready;
        carried = on_ok_weaker r (out_found y c) h.carried;
        stopped = record {
          points = points_found c h.stopped;
          beside = λ told. beside_then B a b c (beside told) (h.stopped.beside told);
        };
        cause = cause_behind r same h.cause;
      }

  -- ---- an event as a list of one

  out_one : (x : StoreMeter) (a : D) (y : StoreMeter) (b : D) (event : Event) → CarriesOut B tables seal
      (λ s m. step s event m) x a y b → CarriesOut B tables seal (λ s m. run s (event ∷ []) m) x a y b
  out_one x a y b event h = record {
    stands = h.stands;
    printed = λ told s m is st t. subst (λ (xs : List Act). B.printed b ≡ B.printed a ++ texts seal (deeds_of xs))
        (sym (append-nil (step s event m).acts)) (h.printed told s m is st t);
    points = λ told s m is st. subst (λ (xs : List Act). GoesBy B tables seal a b m.durable (deeds_of xs))
        (sym (append-nil (step s event m).acts)) (h.points told s m is st);
    turn = λ told s m is st. subst (λ (xs : List Act). CommitsInTurn B m.durable (changes_of (deeds_of xs)) a b)
        (sym (append-nil (step s event m).acts)) (h.turn told s m is st);
    beside = h.beside;
  }

  amid_one : (x : StoreMeter) (a b : D) (event : Event) → StopsAmid B tables seal (λ s m. step s event m) x a b
      → StopsAmid B tables seal (λ s m. run s (event ∷ []) m) x a b
  amid_one x a b event h = record {
    points = λ told s m is st. subst (λ (xs : List Act). GoesBy B tables seal a b m.durable (deeds_of xs))
        (sym (append-nil (step s event m).acts)) (h.points told s m is st);
    beside = h.beside;
  }

  pub carried_one : {T E : Type 0} (r : Result T E) (x : StoreMeter) (a : D) (y : StoreMeter) (b : D) (event : Event)
      → Attempts B tables seal (λ s m. step s event m) x a r y b → StaysOff x.core.state (event ∷ []) y.core.state
      → OnOk r (CarriesEvents B tables seal (event ∷ []) x a y b)
  carried_one r x a y b event h off =
      on_ok_weaker r (λ out. record { out = out_one x a y b event out; supply = off }) h.carried

  pub stopped_one : {T E : Type 0} (r : Result T E) (x : StoreMeter) (a : D) (y : StoreMeter) (b : D) (event : Event)
      → Attempts B tables seal (λ s m. step s event m) x a r y b
      → OnErr r (StopsAmid B tables seal (λ s m. run s (event ∷ []) m) x a b)
  stopped_one r x a y b event h = on_err r _ (amid_one x a b event h.stopped)
