-- A whole run on a store: its events, and the supply drop at its end.
use Rattle.{std.specs.Option.{ForSome}, outside.proofs.Laws.{leaves_wider}, slot_store.specs.Slots.{slot_at}}
use Rattle.std.proofs.Common.{[], ℕ, ◌++◌, ◌+◌, ◌∙◌, ◌∷◌, ◌≡◌, ◌≢◌, ◌≤◌, Err, IsOk, List, None, Ok, OnErr, OnOk, Option}
use Rattle.std.proofs.Common.{Result, ap, drop, inl, inr, length, refl, subst, sym, take, ⊎_elim}
use Rattle.{drive_text.specs.Ending.{ReachesEnd}, totals_record.proofs.Laws.{states_are_read_by_their_table}}
use Rattle.{tariff_check.specs.SoundTariff.{sound_of}, tariff_compile.specs.Tables.{IsCompiled}}
use Rattle.{meter_model.specs.Run.{ended_in}, meter_run.specs.Common.{events_in, opened, run, step_in, stream_limit}}
use Rattle.meter_states.proofs.Laws.{receipts_follow_their_entries-run, the_store_has_what_the_acts_commit-run}
use Rattle.meter_run.specs.Common.{Act, BadAt, Down, Durable, Endless, EndsBy, Event, Fits, ForHire, Ghosts, Hired}
use Rattle.meter_run.specs.Common.{HoldsState, IsDurable, IsLawful, IsSeal, IsSettingOf, IsSplit, Known, LeavesNow}
use Rattle.meter_run.specs.Common.{LeavesOnly, Meter, Off, Operating, Outcome, Place, RunFault, Seal, Setting, Stop}
use Rattle.meter_run.specs.Common.{Stopped, StoreMeter, StreamEnd, TableParts, Whole, actions_of, drive_end, ended}
use Rattle.meter_run.{specs.Deeds.{Deed, after_deeds, changes_of, deeds_of, texts}, proofs.EventOnStore.{stands_opened}}
use Rattle.meter_run.specs.{Drives.{BreaksDrive, TakesDrive, answer_of}, StoreLaws.{beside_then, has_settled, out_none}}
use Rattle.meter_run.specs.{InTurn.{CommitsInTurn}, OnStore.{StandsOn, StopsAmid, WritesTotals}, Runs.{RunsUpTo}}
use Rattle.meter_run.specs.OnStore.{CarriesEvents, CarriesOut, Has, HasBeside, IsMeterReadyOn, IsSecured, Knows}
use Rattle.meter_run.specs.PointLaws.{deeds_joined, keeps_longer, keeps_next, text_next, turn_next}
use Rattle.meter_run.specs.Points.{GoesBy, IsCutOfDeeds, IsPointOfDeeds}
use Rattle.meter_run.{specs.RunLaws.{after_deeds_of, after_is, run_durable}, proofs.RunEnds.{events_taken}}
use Rattle.meter_run.specs.Runs.{CutsLeave, EndsRun, FromOpening, HasDone, HasStopped, LeavesPoints, OpensWith}
use Rattle.meter_run.proofs.{Cuts.{acts_have_entries, cut_of, deeds_follow}, SupplyDrop.{ended_on, off_of, on_of}}
use Rattle.meter_run.specs.declared.fault.RunFault.TheVariants as faults
use Rattle.drive_source.specs.declared.source.Stop.TheVariants as stops

-- ---- the supply drop at the end

ended_quiet : (s : Setting) (m : Meter) → m.operating ≡ Off → ended s m ≡ run s [] m
ended_quiet s m off = rw off refl

ended_next_in : (s : Setting) (operating : Operating) (m : Meter) → operating ≢ Off
    → (ended_in s operating m).next ≡ (step_in s operating Down m).next
ended_next_in s Off m on = absurd (on refl)
ended_next_in s ForHire m on = refl
ended_next_in s Hired m on = refl
ended_next_in s Stopped m on = refl

-- two runs, of each of which a cut leaves a kind
leaves_both : {D L : Type 0} {N : ℕ} (B : Ghosts D N L) (a b : D) (one two : List ℕ → List ℕ → Type 0)
    → LeavesOnly B a b one → LeavesOnly B a b two → LeavesOnly B a b (λ i x. one i x × two i x)
leaves_both B a b one two h k = record {
  later = h.later;
  each = λ i x left. (h.each i x left, k.each i x left);
  before = λ start i x le left. ⊎_elim (λ was. inl was) (λ first. ⊎_elim (λ was. inl was)
      (λ second. inr (first, second)) (k.before start i x le left)) (h.before start i x le left);
}

-- a drive without a bad line, of which each read went well, is done with
pub done_whole : (drive left taken : List ℕ) (stop : Stop) → EndsBy drive taken left stop → drive_end drive ≡ Whole
    → (stop ≡ stops.ReadFault → ⊥) → IsOk (answer_of stop)
done_whole drive left taken stops.Whole h whole calm = refl
done_whole drive left taken (stops.BadLine line) h whole calm =
    absurd (let bad : Whole ≡ BadAt line = sym whole ∙ h.ends.end_is in cc)
done_whole drive left taken stops.TooLong h whole calm =
    absurd (let bad : Whole ≡ Endless = sym whole ∙ h.ends.end_is in cc)
done_whole drive left taken stops.ReadFault h whole calm = absurd (calm refl)

-- tables that were compiled with the seal's constant have a setting
pub secured_of : (tables : TableParts) (seal : Seal) → IsCompiled tables → tables.constant ≡ seal.params.constant
    → IsSeal seal → IsSecured tables seal
secured_of tables seal compiled constant range = record {
  range = range;
  setting = record {
    tariff = sound_of compiled.0;
    constant = tables.constant;
    mode = seal.params.mode;
    hold_time = seal.params.hold_time;
    offsets = seal.params.offsets;
  };
  is = record {
    tariff = record { tree = compiled.0; compiled = compiled.1; parts = refl; constant = refl };
    secured = record { constant = sym constant; mode = refl; hold_time = refl; offsets = refl };
  };
}

-- a meter before the supply first comes
pub ready_new : {D L : Type 0} {N : ℕ} (B : Ghosts D N L) (tables : TableParts) (seal : Seal) (x : StoreMeter) (a : D)
    → IsSecured tables seal → IsLawful tables seal x.core → x.core.state.operating ≡ Off → x.known ≡ None
    → IsMeterReadyOn B tables seal x a
ready_new B tables seal x a secured lawful off unknown = record {
  secured = secured;
  lawful = lawful;
  knows = subst (λ (o : Option Known). Knows B tables seal x.core o a) (sym unknown) off;
}

module _ {D L : Type 0} {N : ℕ} (B : Ghosts D N L) (tables : TableParts) (seal : Seal) where
  -- the same outcome by another name
  out_as : (o p : Setting → Meter → Outcome) (x : StoreMeter) (a : D) (y : StoreMeter) (b : D)
      → ((s : Setting) (m : Meter) → StandsOn B tables s x a m → (o s m).next ≡ (p s m).next)
      → ((s : Setting) (m : Meter) → StandsOn B tables s x a m → (o s m).acts ≡ (p s m).acts)
      → CarriesOut B tables seal o x a y b → CarriesOut B tables seal p x a y b
  out_as o p x a y b next acts h = record {
    stands = λ told s m is st. subst (λ (n : Meter). StandsOn B tables s y b n) (next s m st) (h.stands told s m is st);
    printed = λ told s m is st t. subst (λ (xs : List Act). B.printed b ≡ B.printed a ++ texts seal (deeds_of xs))
        (acts s m st) (h.printed told s m is st t);
    points = λ told s m is st. subst (λ (xs : List Act). GoesBy B tables seal a b m.durable (deeds_of xs))
        (acts s m st) (h.points told s m is st);
    turn = λ told s m is st. subst (λ (xs : List Act). CommitsInTurn B m.durable (changes_of (deeds_of xs)) a b)
        (acts s m st) (h.turn told s m is st);
    beside = h.beside;
  }

  amid_as : (o p : Setting → Meter → Outcome) (x : StoreMeter) (a b : D)
      → ((s : Setting) (m : Meter) → StandsOn B tables s x a m → (o s m).acts ≡ (p s m).acts)
      → StopsAmid B tables seal o x a b → StopsAmid B tables seal p x a b
  amid_as o p x a b acts h = record {
    points = λ told s m is st. subst (λ (xs : List Act). GoesBy B tables seal a b m.durable (deeds_of xs))
        (acts s m st) (h.points told s m is st);
    beside = h.beside;
  }

  -- what was carried out came amid nothing else
  pub amid_of : (o : Setting → Meter → Outcome) (x : StoreMeter) (a : D) (y : StoreMeter) (b : D)
      → CarriesOut B tables seal o x a y b → StopsAmid B tables seal o x a b
  amid_of o x a y b h = record { points = h.points; beside = h.beside }

  -- carried out or not, it came amid nothing else
  pub amid_either : {A E : Type 0} (r : Result A E) (events : List Event) (x : StoreMeter) (a : D) (y : StoreMeter)
      (b : D) → OnOk r (CarriesEvents B tables seal events x a y b)
      → OnErr r (StopsAmid B tables seal (λ s m. run s events m) x a b)
      → StopsAmid B tables seal (λ s m. run s events m) x a b
  amid_either (Ok u) events x a y b h k = amid_of (λ s m. run s events m) x a y b h.out
  amid_either (Err e) events x a y b h k = k

  pub ends_off : (x : StoreMeter) (a : D) → LeavesNow B a → x.core.state.operating ≡ Off
      → CarriesOut B tables seal (λ s m. ended s m) x a x a
  ends_off x a now off = out_as (λ s m. run s [] m) (λ s m. ended s m) x a x a
      (λ s m st. ap (λ (o : Outcome). o.next) (sym (ended_quiet s m (off_of s x.core m st.stands.core off))))
      (λ s m st. ap (λ (o : Outcome). o.acts) (sym (ended_quiet s m (off_of s x.core m st.stands.core off))))
      (out_none B tables seal x a now)

  pub ends_on : (x : StoreMeter) (a : D) (y : StoreMeter) (b : D) → x.core.state.operating ≢ Off → CarriesOut B tables
      seal (λ s m. run s (Down ∷ []) m) x a y b → CarriesOut B tables seal (λ s m. ended s m) x a y b
  ends_on x a y b on h = out_as (λ s m. run s (Down ∷ []) m) (λ s m. ended s m) x a y b
      (λ s m st. sym (ended_next_in s m.operating m (on_of s x.core m st.stands.core on)))
      (λ s m st. sym (ended_on s m (on_of s x.core m st.stands.core on))) h

  pub ends_amid : (x : StoreMeter) (a b : D) → x.core.state.operating ≢ Off
      → StopsAmid B tables seal (λ s m. run s (Down ∷ []) m) x a b → StopsAmid B tables seal (λ s m. ended s m) x a b
  ends_amid x a b on h = amid_as (λ s m. run s (Down ∷ []) m) (λ s m. ended s m) x a b
      (λ s m st. sym (ended_on s m (on_of s x.core m st.stands.core on))) h

  -- ---- from the opening

  settled_range : (place : Place) (a : D) (d : Durable) → HoldsState B place a d → IsDurable d
  settled_range place a d settled = ((states_are_read_by_their_table
      (take 511 (drop (slot_at 0 place.slot + 1) (B.image a))) d).0 settled.is_at.latest.body_is).0

  opening : (x : StoreMeter) (a : D) (s : Setting) (d : Durable) → x.core.state.operating ≡ Off → x.known ≡ None
      → IsSettingOf s tables seal → OpensWith B tables a d → StandsOn B tables s x a (opened s d)
  opening x a s d off unknown is opens = record {
    stands = stands_opened s tables x.core d is.tariff off (settled_range opens.place a d opens.settled) opens.fits;
    has = subst (λ (o : Option Known). Has B o a d) (sym unknown) (opens.place, opens.settled);
    fits = opens.fits;
  }

  -- what a run over events does
  abbrev all_deeds : Setting → Durable → List Event → List Deed
  all_deeds s d events = deeds_of (actions_of s d events)

  all_joined : (s : Setting) (d : Durable) (events : List Event) → all_deeds s d events
      ≡ deeds_of (run s events (opened s d)).acts ++ deeds_of (ended s (run s events (opened s d)).next).acts
  all_joined s d events = deeds_joined (run s events (opened s d)).acts (ended s (run s events (opened s d)).next).acts

  cuts_of : (a c : D) (s : Setting) (d : Durable) (events : List Event) → GoesBy B tables seal a c d
      (all_deeds s d events) → WritesTotals B a c → CutsLeave B tables seal a c d (all_deeds s d events)
  cuts_of a c s d events h beside = leaves_both B a c
      (IsCutOfDeeds tables seal B.tells_text d (B.printed a) (all_deeds s d events)) (λ i x. HasBeside B a i)
      (leaves_wider B (IsPointOfDeeds tables seal B.tells_text d (B.printed a) (all_deeds s d events))
      (IsCutOfDeeds tables seal B.tells_text d (B.printed a) (all_deeds s d events)) a c
      (λ i x at. cut_of tables seal B.tells_text d (B.printed a) (all_deeds s d events) i x (acts_have_entries d.number
      (actions_of s d events) (receipts_follow_their_entries-run s d events)) at) h.leaves) beside.leaves

  module _ (x : StoreMeter) (a : D) (off : x.core.state.operating ≡ Off) (unknown : x.known ≡ None)
      (events : List Event) where
    -- the board failed amid the events
    run_points : (c : D) → StopsAmid B tables seal (λ s m. run s events m) x a c → B.tells_image
        → (s : Setting) (d : Durable) → IsSettingOf s tables seal → OpensWith B tables a d
        → GoesBy B tables seal a c d (all_deeds s d events)
    run_points c h told s d is opens =
        subst (λ (deeds : List Deed). GoesBy B tables seal a c d deeds) (sym (all_joined s d events))
        (keeps_longer B tables seal a c d (deeds_of (run s events (opened s d)).acts)
        (deeds_of (ended s (run s events (opened s d)).next).acts)
        (h.points told s (opened s d) is (opening x a s d off unknown is opens)))

    -- or amid the supply drop
    end_points : (y : StoreMeter) (b c : D) → CarriesOut B tables seal (λ s m. run s events m) x a y b
        → StopsAmid B tables seal (λ s m. ended s m) y b c
        → B.tells_image → (s : Setting) (d : Durable) → IsSettingOf s tables seal → OpensWith B tables a d
        → GoesBy B tables seal a c d (all_deeds s d events)
    end_points y b c h k told s d is opens =
        let m = opened s d in
        let n = (run s events m).next in
        let st = opening x a s d off unknown is opens in
        subst (λ (deeds : List Deed). GoesBy B tables seal a c d deeds) (sym (all_joined s d events))
        (keeps_next B tables seal a b c d (deeds_of (run s events m).acts) (deeds_of (ended s n).acts)
        (h.printed told s m is st) (h.points told s m is st)
        (subst (λ (e : Durable). GoesBy B tables seal b c e (deeds_of (ended s n).acts)) (run_durable s events m)
        (k.points told s n is (h.stands told s m is st))))

    stopped_of : (c : D) → (B.tells_image → (s : Setting) (d : Durable) → IsSettingOf s tables seal → OpensWith B tables
        a d → GoesBy B tables seal a c d (all_deeds s d events)) → (B.tells_image → WritesTotals B a c)
        → FromOpening B tables seal a c (λ s d. HasStopped B tables seal a c d (all_deeds s d events))
    stopped_of c points beside told s d is opens = let h = points told s d is opens in record {
      stops = cut_of tables seal B.tells_text d (B.printed a) (all_deeds s d events) (B.image c) (B.printed c)
          (acts_have_entries d.number (actions_of s d events) (receipts_follow_their_entries-run s d events)) h.stops;
      cuts = cuts_of a c s d events h (beside told);
    }

    run_stopped : (c : D) → StopsAmid B tables seal (λ s m. run s events m) x a c
        → FromOpening B tables seal a c (λ s d. HasStopped B tables seal a c d (all_deeds s d events))
    run_stopped c h = stopped_of c (run_points c h) h.beside

    end_stopped : (y : StoreMeter) (b c : D) → CarriesOut B tables seal (λ s m. run s events m) x a y b
        → StopsAmid B tables seal (λ s m. ended s m) y b c
        → FromOpening B tables seal a c (λ s d. HasStopped B tables seal a c d (all_deeds s d events))
    end_stopped y b c h k =
        stopped_of c (end_points y b c h k) (λ told. beside_then B a b c (h.beside told) (k.beside told))

    -- all was done
    durable_end : (s : Setting) (d : Durable)
        → (ended s (run s events (opened s d)).next).next.durable ≡ after_deeds d (all_deeds s d events)
    durable_end s d = the_store_has_what_the_acts_commit-run s d events ∙ sym (after_is d (actions_of s d events))
        ∙ sym (after_deeds_of d (actions_of s d events))

    all_done : (y : StoreMeter) (b : D) (z : StoreMeter) (c : D)
        → CarriesOut B tables seal (λ s m. run s events m) x a y b → CarriesOut B tables seal (λ s m. ended s m) y b z c
        → FromOpening B tables seal a c (λ s d. HasDone B tables seal a c d (all_deeds s d events))
    all_done y b z c h k told s d is opens =
        let m = opened s d in
        let n = (run s events m).next in
        let st = opening x a s d off unknown is opens in
        let at = h.stands told s m is st in
        let last = k.stands told s n is at in
        let e = (ended s n).next.durable in
        let place = has_settled B z.known c e last.has in
        record {
          printed = λ t. subst (λ (deeds : List Deed). B.printed c ≡ B.printed a ++ texts seal deeds)
              (sym (all_joined s d events))
              (text_next B tables seal a b c (deeds_of (run s events m).acts) (deeds_of (ended s n).acts)
              (h.printed told s m is st) (k.printed told s n is at) t);
          opens = record {
            place = place.0;
            settled = subst (λ (f : Durable). HoldsState B place.0 c f) (durable_end s d) place.1;
            fits = subst (λ (f : Durable). ForSome f.hold (Fits tables)) (durable_end s d) last.fits;
          };
          follows = deeds_follow d (all_deeds s d events);
          turn = subst (λ (deeds : List Deed). CommitsInTurn B d (changes_of deeds) a c) (sym (all_joined s d events))
              (turn_next B a b c d (deeds_of (run s events m).acts) (deeds_of (ended s n).acts)
              (h.turn told s m is st)
              (subst (λ (f : Durable). CommitsInTurn B f (changes_of (deeds_of (ended s n).acts)) b c)
              (run_durable s events m) (k.turn told s n is at)));
          cuts = cuts_of a c s d events (end_points y b c h (amid_of (λ s m. ended s m) y b z c k) told s d is opens)
              (beside_then B a b c (h.beside told) (k.beside told));
        }

  -- ---- by what the drive came to

  module _ (a c : D) (drive left : List ℕ) where
    abbrev DoneAll : List Event → Type 0
    DoneAll events = FromOpening B tables seal a c (λ s d. HasDone B tables seal a c d (all_deeds s d events))

    abbrev DonePart : List Event → Type 0
    DonePart events = FromOpening B tables seal a c (λ s d. HasStopped B tables seal a c d (all_deeds s d events))

    up_to : (taken : List ℕ) (reached : StreamEnd) → ReachesEnd drive taken left reached → DoneAll (events_in taken)
        → RunsUpTo B tables seal a c drive left reached
    up_to taken reached h done = record {
      end_is = h.ends.end_is;
      tells = record { taken = taken; split = h.ends.split; shows = h.ends.shows };
      runs = subst DoneAll (sym h.given_is) done;
    }

    run_ends : (taken : List ℕ) (stop : Stop) → length taken ≤ stream_limit → IsSplit drive taken left → EndsBy drive
        taken left stop → DoneAll (events_in taken) → EndsRun B tables seal a c drive left (answer_of stop)
    run_ends taken stops.Whole few split h done = up_to taken Whole h done
    run_ends taken (stops.BadLine line) few split h done = up_to taken (BadAt line) h done
    run_ends taken stops.TooLong few split h done = up_to taken Endless h done
    run_ends taken stops.ReadFault few split h done =
        record { taken = taken; split = split; stands = h; printed = subst DoneAll (sym (events_taken taken few)) done }

    run_breaks : (taken : List ℕ) → length taken ≤ stream_limit → IsSplit drive taken left → DonePart (events_in taken)
        → EndsRun B tables seal a c drive left {T = Unit {0}} (Err faults.BoardFault)
    run_breaks taken few split part = record {
      taken = taken;
      split = split;
      stands = tt;
      printed = subst DonePart (sym (events_taken taken few)) part;
    }

    points_done : (taken : List ℕ) → length taken ≤ stream_limit → IsSplit drive taken left → DoneAll (events_in taken)
        → LeavesPoints B tables seal a c drive left
    points_done taken few split done = record {
      taken = taken;
      split = split;
      cuts = λ told s d is opens. (subst DoneAll (sym (events_taken taken few)) done told s d is opens).cuts;
    }

    points_part : (taken : List ℕ) → length taken ≤ stream_limit → IsSplit drive taken left → DonePart (events_in taken)
        → LeavesPoints B tables seal a c drive left
    points_part taken few split part = record {
      taken = taken;
      split = split;
      cuts = λ told s d is opens. (subst DonePart (sym (events_taken taken few)) part told s d is opens).cuts;
    }

  -- what a run came to, and what a cut of it leaves
  pub record Ran {T : Type 0} (a c : D) (drive left : List ℕ) (answer : Result T RunFault) : Type 0 where
    pub ends : EndsRun B tables seal a c drive left answer
    pub cuts : LeavesPoints B tables seal a c drive left

  module _ (x : StoreMeter) (a : D) (off : x.core.state.operating ≡ Off)
      (unknown : x.known ≡ None) {told : Type 0} {drive left : List ℕ} {before now : ℕ} where
    -- the drive was taken, and the supply dropped
    pub ran_whole : {stop : Stop} (y : StoreMeter) (b : D) (z : StoreMeter) (c : D)
        → TakesDrive told drive left stop (λ events. CarriesEvents B tables seal events x a y b) before now
        → CarriesOut B tables seal (λ s m. ended s m) y b z c → told → Ran a c drive left (answer_of stop)
    ran_whole {stop} y b z c h last tells =
        let done = all_done x a off unknown (events_in h.taken) y b z c h.carried.out last in
        record {
          ends = run_ends a c drive left h.taken stop h.few (h.split tells) (h.ends tells) done;
          cuts = points_done a c drive left h.taken h.few (h.split tells) done;
        }

    -- the board failed in the supply drop
    pub ran_to_end : {stop : Stop} (y : StoreMeter) (b c : D)
        → TakesDrive told drive left stop (λ events. CarriesEvents B tables seal events x a y b) before now
        → StopsAmid B tables seal (λ s m. ended s m) y b c → told
        → Ran {T = Unit {0}} a c drive left (Err faults.BoardFault)
    ran_to_end y b c h last tells =
        let part = end_stopped x a off unknown (events_in h.taken) y b c h.carried.out last in
        record {
          ends = run_breaks a c drive left h.taken h.few (h.split tells) part;
          cuts = points_part a c drive left h.taken h.few (h.split tells) part;
        }

    -- or amid the drive
    pub ran_amid : (c : D) → BreaksDrive told drive left (λ events. StopsAmid B tables seal
        (λ s m. run s events m) x a c) before now → told → Ran {T = Unit {0}} a c drive left (Err faults.BoardFault)
    ran_amid c h tells =
        let part = run_stopped x a off unknown (events_in h.taken) c h.broke_off in
        record {
          ends = run_breaks a c drive left h.taken h.few (h.split tells) part;
          cuts = points_part a c drive left h.taken h.few (h.split tells) part;
        }
