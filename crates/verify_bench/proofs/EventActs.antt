-- What the acts of an event refuse and show.
use Rattle.std.specs.Prelude.{if◌then◌else◌, nat_le, nat_lt, option_map, option_to_list}
use Rattle.std.proofs.Common.{[], ℕ, ◌++◌, ◌-◌, ◌∙◌, ◌∷◌, ◌≡◌, Bool, List, None, Option, Some, ap, false, refl, subst}
use Rattle.std.proofs.{Common.{sum, sym, true}, lemmas.List.{append-nil, Elements.{filter_map-append}}}
use Rattle.taxi_units.specs.{Limits.{roaming_most}, declared.event.Why.TheVariants.{Ended}}
use Rattle.meter_model.specs.{ClosedTrip.{roaming_checked_in, trip_closed}, declared.key_act.KeyAct.{KeyAct}}
use Rattle.meter_model.specs.{Keys.{act_done, act_of, extra_added_to, key_pressed, latch_pressed}, Meter.{refused}}
use Rattle.{meter_model.specs.Step.{off_step}, verify_bench.specs.Common.{turned_off, with_part}}
use Rattle.verify_bench.specs.Common.{◌>>=◌, Act, Display, Event, ForHire, Hired, InHired, InStopped, Key, Kind, Meter}
use Rattle.verify_bench.specs.Common.{MeterTrip, Off, Operating, Outcome, Part, Refuse, Setting, Show, Stopped}
use Rattle.verify_bench.specs.Common.{Supplement, TooFast, Trip, Why, aborted, clock_read, closed, context_of}
use Rattle.verify_bench.specs.Common.{counted_in, display_of, expired, expired_or_pressed, extra_added, held_or_closed}
use Rattle.verify_bench.specs.Common.{hired, hirings_end, hold_taken, interval_begun, interval_counted, interval_left}
use Rattle.verify_bench.specs.Common.{is_among, is_shown, is_within_hold, last_number, latch_refused, latched, left_in}
use Rattle.verify_bench.specs.Common.{longest_trip, powered, powered_step, pulses_taken, quiet, resumed}
use Rattle.verify_bench.specs.Common.{roaming_checked, roaming_entered, room_of, shown, step, step_in}
use Rattle.verify_bench.specs.Common.{supplement_numbered, supply_came, supply_dropped, ticked, ticks_so_far, times}
use Rattle.verify_bench.specs.Refusals.{act_refusal, added_refusal, clock_refusal, extra_refusal, latch_refusal}
use Rattle.verify_bench.specs.Refusals.{powered_refusal, refusal_in, refusal_of, waiting_refusal}
use Rattle.verify_bench.specs.Story.{display_in, displays_in, is_in_trip, is_off, why_in, whys_in}
use Rattle.verify_bench.specs.Told.{ShowsAs, displays_if, does_show, seen_before}
use Rattle.verify_bench.proofs.Benches.{same_latch, same_operating}
use Rattle.taxi_units.specs.declared.event.Event.TheVariants as events
use Rattle.taxi_units.specs.declared.receipt.Kind.TheVariants as kinds
use Rattle.meter_model.specs.declared.key_act.KeyAct.TheVariants as key_acts

-- ---- acts, one behind the other

displays_both : (first others : List Act) → displays_in (first ++ others) ≡ displays_in first ++ displays_in others
displays_both first others = filter_map-append display_in first others

whys_both : (first others : List Act) → whys_in (first ++ others) ≡ whys_in first ++ whys_in others
whys_both first others = filter_map-append why_in first others

-- acts of which the first show nothing, and acts of which the first refuse nothing
shown_by_others : (first others : List Act) → displays_in first ≡ []
    → displays_in (first ++ others) ≡ displays_in others
shown_by_others first others none =
    displays_both first others ∙ ap (λ (list : List Display). list ++ displays_in others) none

refused_by_others : (first others : List Act) → whys_in first ≡ [] → whys_in (first ++ others) ≡ whys_in others
refused_by_others first others none =
    whys_both first others ∙ ap (λ (list : List Why). list ++ whys_in others) none

refused_by_first : (first others : List Act) → whys_in others ≡ [] → whys_in (first ++ others) ≡ whys_in first
refused_by_first first others none =
    whys_both first others ∙ (ap (λ (list : List Why). whys_in first ++ list) none ∙ append-nil (whys_in first))

-- ---- stages that show nothing

record Unshown (m : Meter) (o : Outcome) : Type 0 where
  pub displays : displays_in o.acts ≡ []
  pub shown : o.next.shown ≡ m.shown

unshown_then : (m : Meter) (o : Outcome) (more : Meter → Outcome) → Unshown m o → Unshown o.next (more o.next)
    → Unshown m (o >>= more)
unshown_then m o more first other = record {
  displays = shown_by_others o.acts (more o.next).acts first.displays ∙ other.displays;
  shown = other.shown ∙ first.shown;
}

unshown_if : (m : Meter) (b : Bool) (o p : Outcome) → Unshown m o → Unshown m p → Unshown m (if b then o else p)
unshown_if m true o p one other = one
unshown_if m false o p one other = other

unshown_quiet : (m : Meter) → Unshown m (quiet m)
unshown_quiet m = record { displays = refl; shown = refl }

unshown_refused : (why : Why) (m : Meter) → Unshown m (refused why m)
unshown_refused why m = record { displays = refl; shown = refl }

module _ (s : Setting) where
  unshown_closed_by : (kind : Kind) (finish : ℕ) (trip : Option MeterTrip) (m : Meter)
      → Unshown m (trip_closed s kind finish trip m)
  unshown_closed_by kind finish None m = record { displays = refl; shown = refl }
  unshown_closed_by kind finish (Some t) m = record { displays = refl; shown = refl }

  unshown_closed : (kind : Kind) (finish : ℕ) (m : Meter) → Unshown m (closed s kind finish m)
  unshown_closed kind finish m =
      let closes = unshown_closed_by kind finish m.trip (record m { operating = ForHire; trip = None }) in
      record { displays = closes.displays; shown = closes.shown }

  unshown_roaming : (operating : Operating) (m : Meter) → Unshown m (roaming_checked_in s operating m)
  unshown_roaming Off m = record { displays = refl; shown = refl }
  unshown_roaming ForHire m = unshown_if m _ (roaming_entered s m) (quiet m)
      (record { displays = refl; shown = refl }) (unshown_quiet m)
  unshown_roaming Hired m = record { displays = refl; shown = refl }
  unshown_roaming Stopped m = record { displays = refl; shown = refl }

  unshown_latch : (latch : Option Key) (m : Meter) → Unshown m (latch_refused latch m)
  unshown_latch None m = record { displays = refl; shown = refl }
  unshown_latch (Some key) m = record { displays = refl; shown = refl }

  unshown_extra_to : (n : ℕ) (supplement : Supplement) (trip : Option MeterTrip) (m : Meter)
      → Unshown m (extra_added_to n supplement trip m)
  unshown_extra_to n supplement None m = record { displays = refl; shown = refl }
  unshown_extra_to n supplement (Some t) m = unshown_if m (nat_le supplement.max (times n t.extras)) _ _
      (record { displays = refl; shown = refl }) (record { displays = refl; shown = refl })

  unshown_extra : (n : ℕ) (supplement : Option Supplement) (m : Meter) → Unshown m (extra_added n supplement m)
  unshown_extra n None m = record { displays = refl; shown = refl }
  unshown_extra n (Some supplement) m = unshown_extra_to n supplement m.trip m

  unshown_act : (act : KeyAct) (m : Meter) → Unshown m (act_done s act m)
  unshown_act key_acts.Hire m = unshown_if m (nat_le hirings_end m.durable.number) _ _
      (record { displays = refl; shown = refl }) (record { displays = refl; shown = refl })
  unshown_act (key_acts.Move to) m = record { displays = refl; shown = refl }
  unshown_act key_acts.Clear m = unshown_closed kinds.Closed m.clock m
  unshown_act (key_acts.Position n) m = unshown_if m (is_among s.tariff.positions n) _ _
      (record { displays = refl; shown = refl }) (record { displays = refl; shown = refl })
  unshown_act (key_acts.Zone n) m = unshown_if m (is_among s.tariff.zones n) _ _
      (record { displays = refl; shown = refl }) (record { displays = refl; shown = refl })
  unshown_act (key_acts.Extra n) m = unshown_extra n (supplement_numbered s.tariff.supplements n) m
  unshown_act key_acts.Refuse m = record { displays = refl; shown = refl }

  unshown_pressed : (latch : Option Key) (m : Meter) → Unshown m (latch_pressed s latch m)
  unshown_pressed None m = record { displays = refl; shown = refl }
  unshown_pressed (Some key) m =
      let acts = unshown_act (act_of key m.operating) (record m { latch = None }) in
      record { displays = acts.displays; shown = acts.shown }

  unshown_expired : (m : Meter) → Unshown m (expired s m)
  unshown_expired m =
      let o = closed s kinds.Expired m.clock m in
      unshown_then m o (λ (n : Meter). latch_refused n.latch n) (unshown_closed kinds.Expired m.clock m)
      (unshown_latch o.next.latch o.next)

  unshown_end : (m : Meter) → Unshown m (expired_or_pressed s m)
  unshown_end m = unshown_if m (nat_le longest_trip (ticks_so_far m.trip)) (expired s m) (key_pressed s m)
      (unshown_expired m) (unshown_pressed m.latch m)

  same_shown : (operating : Operating) (pulses : ℕ) (m : Meter) → (counted_in s operating pulses m).shown ≡ m.shown
  same_shown Off pulses m = refl
  same_shown ForHire pulses m = refl
  same_shown Hired pulses m = refl
  same_shown Stopped pulses m = refl

  left_shown : (operating : Operating) (pulses : ℕ) (m : Meter) → (left_in operating pulses m).shown ≡ m.shown
  left_shown Off pulses m = refl
  left_shown ForHire pulses m = refl
  left_shown Hired pulses m = refl
  left_shown Stopped pulses m = refl

  unshown_kept : (trip : Option MeterTrip) (m : Meter) → Unshown m (held_or_closed s trip m)
  unshown_kept None m = unshown_if m (nat_lt 0 (sum m.roaming)) (roaming_entered s m) (quiet m)
      (record { displays = refl; shown = refl }) (unshown_quiet m)
  unshown_kept (Some t) m = unshown_if m (nat_lt m.durable.number last_number) _ (closed s kinds.Aborted m.clock m)
      (record { displays = refl; shown = refl }) (unshown_closed kinds.Aborted m.clock m)

  unshown_dropped : (m : Meter) → Unshown m (supply_dropped s m)
  unshown_dropped m =
      let m1 = (interval_left m).next in
      let o = held_or_closed s m1.trip m1 in
      unshown_then m (interval_left m) (λ (n : Meter). held_or_closed s n.trip n >>= turned_off)
      (record { displays = refl; shown = left_shown m.operating (sum m.taken) m })
      (unshown_then m1 o turned_off (unshown_kept m1.trip m1) (record { displays = refl; shown = refl }))

  unshown_aborted : (trip : Trip) (m : Meter) → Unshown m (aborted s trip m)
  unshown_aborted trip m =
      let n = record m { position = trip.position } in
      let closes = unshown_closed kinds.Aborted trip.saved n in
      unshown_then m (closed s kinds.Aborted trip.saved n) (λ (n : Meter). quiet (record n { position = 1; zone = 1 }))
      (record { displays = closes.displays; shown = closes.shown }) (record { displays = refl; shown = refl })

  unshown_hold : (second : ℕ) (hold : Option Trip) (m : Meter) → Unshown m (hold_taken s second hold m)
  unshown_hold second None m = record { displays = refl; shown = refl }
  unshown_hold second (Some trip) m = unshown_if m (is_within_hold s second trip) (resumed trip m) (aborted s trip m)
      (record { displays = refl; shown = refl }) (unshown_aborted trip m)

  -- ---- what is shown

  displays_by : (b : Bool) (display : Display)
      → displays_in (if b then [] else Show display ∷ []) ≡ (if b then [] else display ∷ [])
  displays_by true display = refl
  displays_by false display = refl

  -- the display of a state in which something else was shown
  displays_shown : (last : Option Display) (m : Meter) → m.shown ≡ last
      → displays_in (shown s m).acts ≡ displays_if last (display_of s m)
  displays_shown last m is =
      displays_by (is_shown m.shown (display_of s m)) (display_of s m)
      ∙ ap (λ (o : Option Display). displays_if o (display_of s m)) is

  shows_came : (second : ℕ) (m : Meter)
      → displays_in (supply_came s second m).acts ≡ displays_if None (display_of s (supply_came s second m).next)
  shows_came second m =
      let o = hold_taken s second m.durable.hold (powered second m) in
      let takes = unshown_hold second m.durable.hold (powered second m) in
      shown_by_others o.acts (shown s o.next).acts takes.displays ∙ displays_shown None o.next takes.shown

  -- a tick, from the end of its interval on
  abbrev behind : Meter → Outcome
  behind m = roaming_checked s m >>= (λ (n : Meter). shown s n >>= interval_begun)

  shows_behind : (last : Option Display) (m : Meter) → m.shown ≡ last
      → displays_in (behind m).acts ≡ displays_if last (display_of s (behind m).next)
  shows_behind last m is =
      let o = roaming_checked s m in
      let roams = unshown_roaming m.operating m in
      shown_by_others o.acts ((shown s o.next).acts ++ []) roams.displays
      ∙ (ap displays_in (append-nil (shown s o.next).acts) ∙ displays_shown last o.next (roams.shown ∙ is))

  shows_ticked : (m : Meter)
      → displays_in (ticked s m).acts ≡ displays_if m.shown (display_of s (ticked s m).next)
  shows_ticked m =
      let m1 = (interval_counted s m).next in
      let o = expired_or_pressed s m1 in
      let ends = unshown_end m1 in
      shown_by_others o.acts (behind o.next).acts ends.displays
      ∙ shows_behind m.shown o.next (ends.shown ∙ same_shown m.operating (sum m.taken) m)

  unshown_pulses : (b : Bool) (n : ℕ) → displays_in (if b then Refuse (TooFast n) ∷ [] else []) ≡ []
  unshown_pulses true n = refl
  unshown_pulses false n = refl

  unshown_clock : (operating : Operating) (second : ℕ) (m : Meter) → Unshown m (clock_read operating second m)
  unshown_clock Off second m = record { displays = refl; shown = refl }
  unshown_clock ForHire second m = record { displays = refl; shown = refl }
  unshown_clock Hired second m = unshown_if m (nat_lt second m.clock) _ _
      (record { displays = refl; shown = refl }) (record { displays = refl; shown = refl })
  unshown_clock Stopped second m = unshown_if m (nat_lt second m.clock) _ _
      (record { displays = refl; shown = refl }) (record { displays = refl; shown = refl })

  unshown_key : (latch : Option Key) (key : Key) (m : Meter) → Unshown m (latched latch key m)
  unshown_key None key m = record { displays = refl; shown = refl }
  unshown_key (Some waiting) key m = record { displays = refl; shown = refl }

  record ShowsIn (event : Event) (operating : Operating) (m : Meter) (o : Outcome) : Type 0 where
    pub displays : displays_in o.acts ≡ (if does_show event operating
        then displays_if (seen_before event m.shown) (display_of s o.next) else [])
    pub shown : o.next.shown ≡ (if does_show event operating then Some (display_of s o.next) else m.shown)

  shows_powered : (event : Event) (operating : Operating) (m : Meter) → is_off operating ≡ false
      → ShowsIn event operating m (powered_step s event m)
  shows_powered (events.Up second) operating m on = record {
    displays = sym (ap (λ (b : Bool). if b then displays_if None (display_of s m) else []) on);
    shown = sym (ap (λ (b : Bool). if b then Some (display_of s m) else m.shown) on);
  }
  shows_powered events.Down operating m on =
      let drops = unshown_dropped m in
      record { displays = drops.displays; shown = drops.shown }
  shows_powered (events.Pulses n) operating m on =
      record { displays = unshown_pulses (nat_lt 0 (n - room_of m)) (n - room_of m); shown = refl }
  shows_powered events.Tick operating m on =
      let n = (ticked s m).next in
      record {
        displays = shows_ticked m
            ∙ sym (ap (λ (b : Bool). if (if b then false else true) then displays_if m.shown (display_of s n) else []) on);
        shown = sym (ap (λ (b : Bool). if (if b then false else true) then Some (display_of s n) else m.shown) on);
      }
  shows_powered (events.Clock second) operating m on =
      let reads = unshown_clock m.operating second m in
      record { displays = reads.displays; shown = reads.shown }
  shows_powered (events.Key key) operating m on =
      let waits = unshown_key m.latch key m in
      record { displays = waits.displays; shown = waits.shown }

  shows_in : (event : Event) (operating : Operating) (m : Meter)
      → ShowsIn event operating m (step_in s operating event m)
  shows_in (events.Up second) Off m = record { displays = shows_came second m; shown = refl }
  shows_in events.Down Off m = record { displays = refl; shown = refl }
  shows_in (events.Pulses n) Off m = record { displays = refl; shown = refl }
  shows_in events.Tick Off m = record { displays = refl; shown = refl }
  shows_in (events.Clock second) Off m = record { displays = refl; shown = refl }
  shows_in (events.Key key) Off m = record { displays = refl; shown = refl }
  shows_in event ForHire m = shows_powered event ForHire m refl
  shows_in event Hired m = shows_powered event Hired m refl
  shows_in event Stopped m = shows_powered event Stopped m refl

  pub shows_step : (event : Event) (m : Meter) → ShowsAs s event m (step s event m)
  shows_step event m =
      let shows = shows_in event m.operating m in
      record { displays = shows.displays; shown = shows.shown }

  -- ---- what is refused

  whys_closed_by : (kind : Kind) (finish : ℕ) (trip : Option MeterTrip) (m : Meter)
      → (whys_in (trip_closed s kind finish trip m).acts ≡ [])
      × ((trip_closed s kind finish trip m).next.operating ≡ m.operating)
  whys_closed_by kind finish None m = (refl, refl)
  whys_closed_by kind finish (Some t) m = (refl, refl)

  pub whys_closed : (kind : Kind) (finish : ℕ) (m : Meter)
      → (whys_in (closed s kind finish m).acts ≡ []) × ((closed s kind finish m).next.operating ≡ ForHire)
  whys_closed kind finish m = whys_closed_by kind finish m.trip (record m { operating = ForHire; trip = None })

  whys_if : (b : Bool) (o p : Outcome) (why other : Option Why) → whys_in o.acts ≡ option_to_list why
      → whys_in p.acts ≡ option_to_list other
      → whys_in (if b then o else p).acts ≡ option_to_list (if b then why else other)
  whys_if true o p why other one two = one
  whys_if false o p why other one two = two

  whys_extra_to : (n : ℕ) (supplement : Supplement) (trip : Option MeterTrip) (m : Meter)
      → whys_in (extra_added_to n supplement trip m).acts ≡ option_to_list (added_refusal n supplement trip)
  whys_extra_to n supplement None m = refl
  whys_extra_to n supplement (Some t) m = whys_if (nat_le supplement.max (times n t.extras)) _ _ _ _ refl refl

  whys_extra : (n : ℕ) (supplement : Option Supplement) (m : Meter)
      → whys_in (extra_added n supplement m).acts ≡ option_to_list (extra_refusal n supplement m.trip)
  whys_extra n None m = refl
  whys_extra n (Some supplement) m = whys_extra_to n supplement m.trip m

  whys_act : (act : KeyAct) (m : Meter) → whys_in (act_done s act m).acts ≡ option_to_list (act_refusal s act m)
  whys_act key_acts.Hire m = whys_if (nat_le hirings_end m.durable.number) _ _ _ _ refl refl
  whys_act (key_acts.Move to) m = refl
  whys_act key_acts.Clear m = (whys_closed kinds.Closed m.clock m).0
  whys_act (key_acts.Position n) m = whys_if (is_among s.tariff.positions n) _ _ _ _ refl refl
  whys_act (key_acts.Zone n) m = whys_if (is_among s.tariff.zones n) _ _ _ _ refl refl
  whys_act (key_acts.Extra n) m = whys_extra n (supplement_numbered s.tariff.supplements n) m
  whys_act key_acts.Refuse m = refl

  -- an interval more doesn't matter to a refusal
  same_number : (operating : Operating) (pulses : ℕ) (m : Meter)
      → (counted_in s operating pulses m).durable.number ≡ m.durable.number
  same_number Off pulses m = refl
  same_number ForHire pulses m = refl
  same_number Hired pulses m = refl
  same_number Stopped pulses m = refl

  added_part : (n : ℕ) (supplement : Supplement) (part : Part) (trip : Option MeterTrip)
      → added_refusal n supplement (option_map (with_part part) trip) ≡ added_refusal n supplement trip
  added_part n supplement part None = refl
  added_part n supplement part (Some t) = refl

  added_counted : (n : ℕ) (supplement : Supplement) (operating : Operating) (pulses : ℕ) (m : Meter)
      → added_refusal n supplement (counted_in s operating pulses m).trip ≡ added_refusal n supplement m.trip
  added_counted n supplement Off pulses m = refl
  added_counted n supplement ForHire pulses m = refl
  added_counted n supplement Hired pulses m = added_part n supplement (InHired pulses (context_of s m)) m.trip
  added_counted n supplement Stopped pulses m = added_part n supplement (InStopped pulses) m.trip

  extra_counted : (n : ℕ) (supplement : Option Supplement) (operating : Operating) (pulses : ℕ) (m : Meter)
      → extra_refusal n supplement (counted_in s operating pulses m).trip ≡ extra_refusal n supplement m.trip
  extra_counted n None operating pulses m = refl
  extra_counted n (Some supplement) operating pulses m = added_counted n supplement operating pulses m

  act_counted : (act : KeyAct) (operating : Operating) (pulses : ℕ) (m : Meter)
      → act_refusal s act (record (counted_in s operating pulses m) { latch = None }) ≡ act_refusal s act m
  act_counted key_acts.Hire operating pulses m =
      ap (λ (number : ℕ). if nat_le hirings_end number then Some Ended else None) (same_number operating pulses m)
  act_counted (key_acts.Move to) operating pulses m = refl
  act_counted key_acts.Clear operating pulses m = refl
  act_counted (key_acts.Position n) operating pulses m = refl
  act_counted (key_acts.Zone n) operating pulses m = refl
  act_counted (key_acts.Extra n) operating pulses m =
      extra_counted n (supplement_numbered s.tariff.supplements n) operating pulses m
  act_counted key_acts.Refuse operating pulses m = refl

  whys_latch : (latch : Option Key) (m : Meter)
      → whys_in (latch_pressed s latch (interval_counted s m).next).acts ≡ option_to_list (latch_refusal s latch m)
  whys_latch None m = refl
  whys_latch (Some key) m =
      let p = sum m.taken in
      let m1 = counted_in s m.operating p m in
      let act = act_of key m1.operating in
      whys_act act (record m1 { latch = None })
      ∙ (ap option_to_list (act_counted act m.operating p m)
      ∙ ap (λ (o : Operating). option_to_list (act_refusal s (act_of key o) m)) (same_operating s m.operating p m))

  pub expired_free : (latch : Option Key) (m : Meter) → (latch_refused latch m).next.operating ≡ m.operating
  expired_free None m = refl
  expired_free (Some key) m = refl

  pub not_for_hire : (operating : Operating) → operating ≡ ForHire → is_in_trip operating ≡ true → ⊥
  not_for_hire Off is there = absurd cc
  not_for_hire ForHire is there = absurd cc
  not_for_hire Hired is there = absurd cc
  not_for_hire Stopped is there = absurd cc

  whys_end : (b : Bool) (m : Meter)
      → (let m1 = (interval_counted s m).next in
      is_in_trip (if b then expired s m1 else key_pressed s m1).next.operating ≡ true
      → whys_in (if b then expired s m1 else key_pressed s m1).acts ≡ option_to_list (latch_refusal s m.latch m))
  whys_end true m there =
      let m1 = (interval_counted s m).next in
      let o = closed s kinds.Expired m1.clock m1 in
      absurd (not_for_hire (latch_refused o.next.latch o.next).next.operating
      (expired_free o.next.latch o.next ∙ (whys_closed kinds.Expired m1.clock m1).1) there)
  whys_end false m there =
      let m1 = (interval_counted s m).next in
      ap (λ (latch : Option Key). whys_in (latch_pressed s latch m1).acts) (same_latch s m.operating (sum m.taken) m)
      ∙ whys_latch m.latch m

  roams : (b : Bool) (m : Meter) → (whys_in (if b then roaming_entered s m else quiet m).acts ≡ [])
      × ((if b then roaming_entered s m else quiet m).next.operating ≡ m.operating)
  roams true m = (refl, refl)
  roams false m = (refl, refl)

  pub whys_roaming : (operating : Operating) (m : Meter) → (whys_in (roaming_checked_in s operating m).acts ≡ [])
      × ((roaming_checked_in s operating m).next.operating ≡ m.operating)
  whys_roaming Off m = (refl, refl)
  whys_roaming ForHire m = roams (nat_le roaming_most (sum m.roaming)) m
  whys_roaming Hired m = (refl, refl)
  whys_roaming Stopped m = (refl, refl)

  whys_shown : (b : Bool) (display : Display) → whys_in (if b then [] else Show display ∷ []) ≡ []
  whys_shown true display = refl
  whys_shown false display = refl

  whys_behind : (m : Meter) → whys_in (behind m).acts ≡ []
  whys_behind m =
      let o = roaming_checked s m in
      let m3 = o.next in
      refused_by_others o.acts ((shown s m3).acts ++ []) (whys_roaming m.operating m).0
      ∙ (ap whys_in (append-nil (shown s m3).acts) ∙ whys_shown (is_shown m3.shown (display_of s m3)) (display_of s m3))

  pub whys_ticked : (m : Meter) → is_in_trip (ticked s m).next.operating ≡ true
      → whys_in (ticked s m).acts ≡ option_to_list (latch_refusal s m.latch m)
  whys_ticked m there =
      let m1 = (interval_counted s m).next in
      let o = expired_or_pressed s m1 in
      let m2 = o.next in
      let there2 : is_in_trip m2.operating ≡ true =
      subst (λ (p : Operating). is_in_trip p ≡ true) (whys_roaming m2.operating m2).1 there in
      refused_by_first o.acts (behind m2).acts (whys_behind m2)
      ∙ whys_end (nat_le longest_trip (ticks_so_far m1.trip)) m there2

  whys_pulses : (b : Bool) (n : ℕ) → whys_in (if b then Refuse (TooFast n) ∷ [] else [])
      ≡ option_to_list (if b then Some (TooFast n) else None)
  whys_pulses true n = refl
  whys_pulses false n = refl

  whys_clock : (operating : Operating) (second : ℕ) (m : Meter)
      → whys_in (clock_read operating second m).acts ≡ option_to_list (clock_refusal operating second m.clock)
  whys_clock Off second m = refl
  whys_clock ForHire second m = refl
  whys_clock Hired second m = whys_if (nat_lt second m.clock) _ _ _ _ refl refl
  whys_clock Stopped second m = whys_if (nat_lt second m.clock) _ _ _ _ refl refl

  whys_key : (latch : Option Key) (key : Key) (m : Meter)
      → whys_in (latched latch key m).acts ≡ option_to_list (waiting_refusal latch)
  whys_key None key m = refl
  whys_key (Some waiting) key m = refl

  nothing : (b : Bool) → option_to_list {X = Why} (if b then None else None) ≡ []
  nothing true = refl
  nothing false = refl

  whys_kept : (trip : Option MeterTrip) (m : Meter) → whys_in (held_or_closed s trip m).acts ≡ []
  whys_kept None m = whys_if (nat_lt 0 (sum m.roaming)) (roaming_entered s m) (quiet m) None None refl refl
      ∙ nothing (nat_lt 0 (sum m.roaming))
  whys_kept (Some t) m =
      whys_if (nat_lt m.durable.number last_number) _ (closed s kinds.Aborted m.clock m) None None refl
      (whys_closed kinds.Aborted m.clock m).0 ∙ nothing (nat_lt m.durable.number last_number)

  whys_dropped : (m : Meter) → whys_in (supply_dropped s m).acts ≡ []
  whys_dropped m =
      let m1 = (interval_left m).next in
      refused_by_first (held_or_closed s m1.trip m1).acts [] refl ∙ whys_kept m1.trip m1

  whys_hold : (second : ℕ) (hold : Option Trip) (m : Meter) → whys_in (hold_taken s second hold m).acts ≡ []
  whys_hold second None m = refl
  whys_hold second (Some trip) m =
      let n = record m { position = trip.position } in
      whys_if (is_within_hold s second trip) (resumed trip m) (aborted s trip m) None None refl
      (refused_by_first (closed s kinds.Aborted trip.saved n).acts [] refl
      ∙ (whys_closed kinds.Aborted trip.saved n).0) ∙ nothing (is_within_hold s second trip)

  whys_came : (second : ℕ) (m : Meter) → whys_in (supply_came s second m).acts ≡ []
  whys_came second m =
      let o = hold_taken s second m.durable.hold (powered second m) in
      refused_by_others o.acts (shown s o.next).acts (whys_hold second m.durable.hold (powered second m))
      ∙ whys_shown (is_shown o.next.shown (display_of s o.next)) (display_of s o.next)

  whys_powered : (event : Event) (m : Meter) → is_in_trip (powered_step s event m).next.operating ≡ true
      → whys_in (powered_step s event m).acts ≡ option_to_list (powered_refusal s event m)
  whys_powered (events.Up second) m there = refl
  whys_powered events.Down m there = whys_dropped m
  whys_powered (events.Pulses n) m there = whys_pulses (nat_lt 0 (n - room_of m)) (n - room_of m)
  whys_powered events.Tick m there = whys_ticked m there
  whys_powered (events.Clock second) m there = whys_clock m.operating second m
  whys_powered (events.Key key) m there = whys_key m.latch key m

  whys_step_in : (event : Event) (operating : Operating) (m : Meter)
      → is_in_trip (step_in s operating event m).next.operating ≡ true
      → whys_in (step_in s operating event m).acts ≡ option_to_list (refusal_in s operating event m)
  whys_step_in (events.Up second) Off m there = whys_came second m
  whys_step_in events.Down Off m there = refl
  whys_step_in (events.Pulses n) Off m there = refl
  whys_step_in events.Tick Off m there = refl
  whys_step_in (events.Clock second) Off m there = refl
  whys_step_in (events.Key key) Off m there = refl
  whys_step_in event ForHire m there = whys_powered event m there
  whys_step_in event Hired m there = whys_powered event m there
  whys_step_in event Stopped m there = whys_powered event m there

  pub whys_step : (event : Event) (m : Meter) → is_in_trip (step s event m).next.operating ≡ true
      → whys_in (step s event m).acts ≡ option_to_list (refusal_of s event m)
  whys_step event m there = whys_step_in event m.operating m there
