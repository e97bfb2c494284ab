-- What holds of the moments of an open story is carried from event to event, up to its end.
use Rattle.std.{specs.List.{AllZip}, proofs.lemmas.List.{append-nil, Elements.{All-cons, All-nil}}}
use Rattle.std.{specs.Prelude.{◌&&◌, if◌then◌else◌, nat_lt, sum}, proofs.Common.{refl, subst, sym, true}}
use Rattle.std.proofs.Common.{[], ℕ, ◌++◌, ◌∙◌, ◌∷◌, ◌≡◌, Bool, List, None, Option, Some, ap, false, flat_map, map}
use Rattle.meter_model.specs.{Interval.{interval_counted}, Step.{clock_read}}
use Rattle.verify_bench.specs.Story.{hiring_told, line_behind, line_in}
use Rattle.story_laws.specs.{ClosedStories.{GoesOn, left_from}, Closings.{Closing, closings_in, closings_of}}
use Rattle.story_laws.specs.Common.{Display, Event, ForHire, Happening, Hired, HiringStory, IsTripKept, IsTripKeptIn}
use Rattle.story_laws.specs.Common.{Key, Meter, MeterTrip, Moment, Off, Operating, Outcome, Receipt, Setting, Stopped}
use Rattle.story_laws.specs.Common.{Telling, Trip, Why, begun, context_now, counted_in, display_told, displays_in}
use Rattle.story_laws.specs.Common.{end_of, ended, fees_in_force, fees_of_hiring, first_state, happenings_of, hired}
use Rattle.story_laws.specs.Common.{is_empty, is_in_trip, key_told, latch_told, line_by, moment_of, moments_at}
use Rattle.story_laws.specs.Common.{moments_in, moments_of, opened, parts_by, rate_told, receipts_in, refusals_told}
use Rattle.story_laws.specs.Common.{run, stamp_at, step, step_in, stories_of, told_behind, trip_at, whys_in, with_parts}
use Rattle.story_laws.proofs.Events.{Comes, Hires, Seen, comes, hires, turned}
use Rattle.story_laws.proofs.Frame.{grown, grows, none_before, nothing, out, rate_out}
use Rattle.story_laws.proofs.Stories.{AllGo, Leaves, Passes, go_both, leaves, no_closing, one_closing, stories_match}
use Rattle.story_laws.proofs.Told.{Each, Plain, go_happenings, go_map, go_rate, on_displays, plain_happenings}
use Rattle.story_laws.proofs.Turns.{IsOf, Turn, closes, stays, without}
use Rattle.meter_model.proofs.Laws as states
use Rattle.taxi_units.specs.declared.event.Event.TheVariants as events
use Rattle.taxi_units.specs.declared.event.Key.TheVariants as keys
use Rattle.verify_bench.specs.declared.moment.Happening.TheVariants as happenings

-- the moment of a hiring by a meter that is for hire
abbrev pub hired_moment : Setting → Meter → Moment
hired_moment s m = record {
  ticks = 0;
  pulses = 0;
  at = stamp_at s m.clock;
  happening = hiring_told m (fees_of_hiring s.tariff (context_now s m));
}

-- what is told of displays behind an event
abbrev pub seen_told : Setting → Meter → List Display → List Moment
seen_told s n list = moments_at s n (flat_map display_told list)

refusals_none : (b : Bool) → (if b then map (λ (why : Why). happenings.Refused why) [] else []) ≡ []
refusals_none true = refl
refusals_none false = refl

abbrev closing_of : Option MeterTrip → Receipt → Closing
closing_of trip r = record { trip = trip; receipt = r }

module _ (s : Setting) where
  -- ---- a hiring

  latch_hires : (m : Meter) (o : Outcome) → m.latch ≡ Some keys.Hire → m.operating ≡ ForHire → o.next.operating ≡ Hired
      → whys_in o.acts ≡ []
      → latch_told s m.latch m o ≡ hiring_told o.next (fees_of_hiring s.tariff (context_now s m)) ∷ []
  latch_hires m o waits free there whys =
      ap (λ (latch : Option Key). latch_told s latch m o) waits
      ∙ (ap (λ (p : Operating). if is_in_trip p && is_empty (whys_in o.acts)
      then key_told s keys.Hire m.operating m o.next else []) there
      ∙ (ap (λ (l : List Why). if is_empty l then key_told s keys.Hire m.operating m o.next else []) whys
      ∙ ap (λ (p : Operating). key_told s keys.Hire p m o.next) free))

  -- the trip that is hired
  abbrev new_trip : Meter → ℕ → MeterTrip
  new_trip m roam = begun s (fees_in_force s.tariff (context_now s m)) m.clock roam

  abbrev roam_of : Meter → ℕ
  roam_of m = sum (counted_in s ForHire (sum m.taken) m).roaming

  hired_trip : (m : Meter) → m.operating ≡ ForHire
      → (hired s (record (interval_counted s m).next { latch = None })).trip ≡ Some (new_trip m (roam_of m))
  hired_trip m free =
      ap (λ (p : Operating). (hired s (record (counted_in s p (sum m.taken) m) { latch = None })).trip) free

  hire_told : (m : Meter) (o : Outcome) → Hires s m o
      → moments_at s o.next (hiring_told o.next (fees_of_hiring s.tariff (context_now s m)) ∷ [])
      ≡ hired_moment s m ∷ []
  hire_told m o h =
      let p = sum m.taken in
      let fees = fees_of_hiring s.tariff (context_now s m) in
      let trip_is = h.trip ∙ hired_trip m h.free in
      let clock_is : o.next.clock ≡ m.clock = h.clock ∙ ap (λ (o : Operating). (counted_in s o p m).clock) h.free in
      let position_is : o.next.position ≡ m.position =
      h.position ∙ ap (λ (o : Operating). (counted_in s o p m).position) h.free in
      let zone_is : o.next.zone ≡ m.zone = h.zone ∙ ap (λ (o : Operating). (counted_in s o p m).zone) h.free in
      ap (λ (trip : Option MeterTrip). moment_of trip (stamp_at s o.next.clock) (hiring_told o.next fees) ∷ []) trip_is
      ∙ (ap (λ (clock : ℕ). moment_of (Some (new_trip m (roam_of m))) (stamp_at s clock) (hiring_told o.next fees) ∷ [])
      clock_is
      ∙ (ap (λ (n : ℕ). moment_of (Some (new_trip m (roam_of m))) (stamp_at s m.clock)
      (happenings.Hired n o.next.zone fees.initial_line fees.minimum_line) ∷ []) position_is
      ∙ ap (λ (n : ℕ). moment_of (Some (new_trip m (roam_of m))) (stamp_at s m.clock)
      (happenings.Hired m.position n fees.initial_line fees.minimum_line) ∷ []) zone_is))

  hire_moments : (telling : Telling) (m : Meter) (o : Outcome) → Hires s m o
      → moments_of s telling events.Tick m o ≡ hired_moment s m ∷ seen_told s o.next (displays_in o.acts)
  hire_moments telling m o h =
      let late = seen_told s o.next (displays_in o.acts) in
      let ends = map (end_of (trip_at s events.Tick m)) (receipts_in o.acts) in
      let told = happenings_of s telling events.Tick m o in
      let fees = fees_of_hiring s.tariff (context_now s m) in
      let told_is : told ≡ hiring_told o.next fees ∷ [] =
      ap (λ (l : List Happening). l ++ refusals_told o.next.operating (whys_in o.acts))
      (latch_hires m o h.waits h.free h.operating h.whys)
      ∙ ap (λ (l : List Happening). hiring_told o.next fees ∷ l)
      (ap (refusals_told o.next.operating) h.whys ∙ refusals_none (is_in_trip o.next.operating)) in
      ap (λ (l : List Moment). l ++ (moments_at s o.next told ++ (ends ++ late)))
      (rate_out s events.Tick telling.line m (ap is_in_trip h.free))
      ∙ (ap (λ (l : List Happening). moments_at s o.next l ++ (ends ++ late)) told_is
      ∙ (ap (λ (l : List Moment). l ++ (ends ++ late)) (hire_told m o h)
      ∙ ap (λ (l : List Receipt). hired_moment s m ∷ (map (end_of (trip_at s events.Tick m)) l ++ late)) h.receipts))

  none_free_in : (operating : Operating) (hold : Option Trip) (trip : Option MeterTrip) (roaming : List ℕ)
      → IsTripKeptIn s operating hold trip roaming → operating ≡ ForHire → trip ≡ None
  none_free_in Off hold trip roaming kept is = absurd cc
  none_free_in ForHire hold trip roaming kept is = kept.1
  none_free_in Hired hold trip roaming kept is = absurd cc
  none_free_in Stopped hold trip roaming kept is = absurd cc

  none_free : (m : Meter) → IsTripKept s m → m.operating ≡ ForHire → m.trip ≡ None
  none_free m kept free = none_free_in m.operating m.durable.hold m.trip m.roaming kept free

  -- ---- a reading of the clock keeps the trip

  clock_if : (b : Bool) (m : Meter) (o p : Outcome) → o.next.trip ≡ m.trip → p.next.trip ≡ m.trip
      → (if b then o else p).next.trip ≡ m.trip
  clock_if true m o p one other = one
  clock_if false m o p one other = other

  clock_keeps : (operating : Operating) (second : ℕ) (m : Meter)
      → (clock_read operating second m).next.trip ≡ m.trip
  clock_keeps Off second m = refl
  clock_keeps ForHire second m = refl
  clock_keeps Hired second m = clock_if (nat_lt second m.clock) m _ _ refl refl
  clock_keeps Stopped second m = clock_if (nat_lt second m.clock) m _ _ refl refl

  clock_steps : (operating : Operating) (second : ℕ) (m : Meter)
      → (step_in s operating (events.Clock second) m).next.trip ≡ m.trip
  clock_steps Off second m = refl
  clock_steps ForHire second m = clock_keeps m.operating second m
  clock_steps Hired second m = clock_keeps m.operating second m
  clock_steps Stopped second m = clock_keeps m.operating second m

  -- ---- an open story

  module _ (O : MeterTrip → (line : Option ℕ) → List Moment → Type 0) (R : Closing → HiringStory → Type 0)
      (hire : (m n : Meter) (roam : ℕ) (list : List Display) → m.trip ≡ None → n.trip ≡ Some (new_trip m roam)
      → O (new_trip m roam) None (hired_moment s m ∷ seen_told s n list))
      (go_on : (event : Event) (m n : Meter) (line : Option ℕ) (so_far : List Moment) (u : MeterTrip) (extras : List ℕ)
      (told : List Happening) (list : List Display) → m.trip ≡ Some u
      → n.trip ≡ Some (record (with_parts (parts_by s event m) u) { extras = extras }) → Each Plain told
      → O u line so_far
      → O (record (with_parts (parts_by s event m) u) { extras = extras }) (line_by s event m line)
      (so_far ++ (rate_told s event line m ++ (moments_at s n told ++ seen_told s n list))))
      (close : (event : Event) (m : Meter) (line : Option ℕ) (so_far : List Moment) (u : MeterTrip) (r : Receipt)
      → m.trip ≡ Some u → IsOf s (with_parts (parts_by s event m) u) r → O u line so_far
      → R (record { trip = Some (with_parts (parts_by s event m) u); receipt = r }) (record {
        kind = r.kind;
        moments = (so_far ++ rate_told s event line m) ++ end_of (Some (with_parts (parts_by s event m) u)) r ∷ [];
      }))
    where
      -- with a trip the story is open, and without one there are no moments yet, and no line
      abbrev IsOpen : Option MeterTrip → (line : Option ℕ) → List Moment → Type 0
      IsOpen None line so_far = (so_far ≡ []) × (line ≡ None)
      IsOpen (Some t) line so_far = O t line so_far

      abbrev pub Open : Meter → Telling → List Moment → Type 0
      Open m telling so_far = IsOpen m.trip telling.line so_far

      abbrev Passing : (event : Event) (m : Meter) (telling : Telling) (so_far : List Moment) → Type 0
      Passing event m telling so_far = Passes R (Open (step s event m).next (told_behind s event m telling))
          (closings_in (trip_at s event m) (step s event m).acts) so_far
          (moments_of s telling event m (step s event m))

      closings_by : (trip : Option MeterTrip) (list others : List Receipt) → list ≡ others
          → map (closing_of trip) list ≡ map (closing_of trip) others
      closings_by trip list others is = ap (λ (l : List Receipt). map (closing_of trip) l) is

      -- the same by equal closings and moments
      passing : (event : Event) (m : Meter) (telling : Telling) (so_far : List Moment) (cs : List Closing)
          (early : List Moment) → closings_in (trip_at s event m) (step s event m).acts ≡ cs
          → moments_of s telling event m (step s event m) ≡ early
          → Passes R (Open (step s event m).next (told_behind s event m telling)) cs so_far early
          → Passing event m telling so_far
      passing event m telling so_far cs early closings_are moments_are p =
          let Q = Open (step s event m).next (told_behind s event m telling) in
          subst (λ (l : List Closing). Passes R Q l so_far (moments_of s telling event m (step s event m)))
          (sym closings_are) (subst (λ (l : List Moment). Passes R Q cs so_far l) (sym moments_are) p)

      go_seen : (n : Meter) (list : List Display) → AllGo (seen_told s n list)
      go_seen n list = go_map n.trip _ (flat_map display_told list) (on_displays list)

      hires_here : (m : Meter) (telling : Telling) (so_far : List Moment) → IsTripKept s m → Open m telling so_far
          → Hires s m (step s events.Tick m) → Passing events.Tick m telling so_far
      hires_here m telling so_far kept begun_so h =
          let o = step s events.Tick m in
          let list = displays_in o.acts in
          let none = none_free m kept h.free in
          let roam = roam_of m in
          let trip_is : o.next.trip ≡ Some (new_trip m roam) = h.trip ∙ hired_trip m h.free in
          let was : IsOpen None telling.line so_far =
          subst (λ (trip : Option MeterTrip). IsOpen trip telling.line so_far) none begun_so in
          let line_is : line_in s m.operating m telling.line ≡ None =
          ap (λ (p : Operating). line_in s p m telling.line) h.free ∙ was.1 in
          let early = hired_moment s m ∷ seen_told s o.next list in
          let there : IsOpen (Some (new_trip m roam)) None early = hire m o.next roam list none trip_is in
          let opened_as : IsOpen (Some (new_trip m roam)) (line_in s m.operating m telling.line) (so_far ++ early) =
          subst (λ (l : List Moment). O (new_trip m roam) (line_in s m.operating m telling.line) (l ++ early)) (sym was.0)
          (subst (λ (line : Option ℕ). O (new_trip m roam) line early) (sym line_is) there) in
          passing events.Tick m telling so_far [] early (closings_by (trip_at s events.Tick m) _ [] h.receipts)
          (hire_moments telling m o h)
          (no_closing R (Open o.next (told_behind s events.Tick m telling)) so_far early
          (All-cons (λ (m : Moment). GoesOn m.happening) (hired_moment s m) (seen_told s o.next list) tt (go_seen o.next list))
          (subst (λ (trip : Option MeterTrip).
          IsOpen trip (line_behind trip (line_in s m.operating m telling.line)) (so_far ++ early)) (sym trip_is) opened_as))

      -- an event that lets the trip be, or closes it
      turned_here : (event : Event) (m : Meter) (telling : Telling) (so_far : List Moment) → IsTripKept s m
          → Open m telling so_far
          → Turn s (trip_at s event m) (step s event m).next.trip (receipts_in (step s event m).acts)
          → Seen (step s event m) → Passing event m telling so_far
      turned_here event m telling so_far kept begun_so (without before behind none) seen =
          let o = step s event m in
          let was_none : m.trip ≡ None = none_before s m.trip (parts_by s event m) (sym (grows s event m) ∙ before) in
          let was : IsOpen None telling.line so_far =
          subst (λ (trip : Option MeterTrip). IsOpen trip telling.line so_far) was_none begun_so in
          let next_kept = states.the_store_keeps_the_trip-step s event m kept in
          let out_next = out s o.next next_kept behind in
          let out_before = out s m kept was_none in
          let told = happenings_of s telling event m o in
          let late = seen_told s o.next (displays_in o.acts) in
          let ends = map (end_of (trip_at s event m)) (receipts_in o.acts) in
          let moments_are : moments_of s telling event m o ≡ [] =
          ap (λ (l : List Moment). l ++ (moments_at s o.next told ++ (ends ++ late)))
          (rate_out s event telling.line m out_before)
          ∙ (ap (λ (l : List Happening). moments_at s o.next l ++ (ends ++ late))
          (nothing s telling event m o out_next behind (λ second is. out_before))
          ∙ (ap (λ (l : List Receipt). map (end_of (trip_at s event m)) l ++ late) none
          ∙ ap (moments_at s o.next) (seen out_next))) in
          passing event m telling so_far [] [] (closings_by (trip_at s event m) _ [] none) moments_are
          (no_closing R (Open o.next (told_behind s event m telling)) so_far []
          (All-nil (λ (m : Moment). GoesOn m.happening))
          (subst (λ (trip : Option MeterTrip). IsOpen trip (line_behind trip (line_by s event m telling.line)) (so_far ++ []))
          (sym behind) (append-nil so_far ∙ was.0, refl)))
      turned_here event m telling so_far kept begun_so (stays t extras before behind none) seen =
          let o = step s event m in
          let parts = parts_by s event m in
          let g = grown s m.trip parts t (sym (grows s event m) ∙ before) in
          let was : O g.u telling.line so_far =
          subst (λ (trip : Option MeterTrip). IsOpen trip telling.line so_far) g.there begun_so in
          let next_is : o.next.trip ≡ Some (record (with_parts parts g.u) { extras = extras }) =
          behind ∙ ap (λ (x : MeterTrip). Some (record x { extras = extras })) g.is in
          let told = happenings_of s telling event m o in
          let list = displays_in o.acts in
          let rate = rate_told s event telling.line m in
          let early = rate ++ (moments_at s o.next told ++ seen_told s o.next list) in
          let goes = go_on event m o.next telling.line so_far g.u extras told list g.there next_is
          (plain_happenings s telling event m o) was in
          passing event m telling so_far [] early (closings_by (trip_at s event m) _ [] none)
          (ap (λ (l : List Receipt). rate ++ (moments_at s o.next told
          ++ (map (end_of (trip_at s event m)) l ++ seen_told s o.next list))) none)
          (no_closing R (Open o.next (told_behind s event m telling)) so_far early
          (go_both rate (moments_at s o.next told ++ seen_told s o.next list) (go_rate s event telling.line m)
          (go_both (moments_at s o.next told) (seen_told s o.next list) (go_happenings s telling event m o o.next.trip _)
          (go_seen o.next list)))
          (subst (λ (trip : Option MeterTrip). IsOpen trip (line_behind trip (line_by s event m telling.line))
          (so_far ++ early)) (sym next_is) goes))
      turned_here event m telling so_far kept begun_so (closes t r before behind one of) seen =
          let o = step s event m in
          let parts = parts_by s event m in
          let g = grown s m.trip parts t (sym (grows s event m) ∙ before) in
          let was : O g.u telling.line so_far =
          subst (λ (trip : Option MeterTrip). IsOpen trip telling.line so_far) g.there begun_so in
          let there_is : trip_at s event m ≡ Some (with_parts parts g.u) =
          before ∙ ap (λ (x : MeterTrip). Some x) g.is in
          let out_next = out s o.next (states.the_store_keeps_the_trip-step s event m kept) behind in
          let rate = rate_told s event telling.line m in
          let told = happenings_of s telling event m o in
          let late = seen_told s o.next (displays_in o.acts) in
          let end = end_of (Some (with_parts parts g.u)) r in
          let clock : (second : ℕ) → event ≡ events.Clock second → is_in_trip m.operating ≡ false =
          λ second is. absurd (
          let same : o.next.trip ≡ m.trip =
          ap (λ (e : Event). (step s e m).next.trip) is ∙ clock_steps m.operating second m in
          let clash : None ≡ Some g.u = sym behind ∙ (same ∙ g.there) in
          cc) in
          let closings_are : closings_in (trip_at s event m) o.acts
          ≡ closing_of (Some (with_parts parts g.u)) r ∷ [] =
          closings_by (trip_at s event m) _ (r ∷ []) one
          ∙ ap (λ (trip : Option MeterTrip). closing_of trip r ∷ []) there_is in
          let moments_are : moments_of s telling event m o ≡ rate ++ end ∷ [] =
          ap (λ (l : List Happening). rate ++ (moments_at s o.next l
          ++ (map (end_of (trip_at s event m)) (receipts_in o.acts) ++ late)))
          (nothing s telling event m o out_next behind clock)
          ∙ (ap (λ (l : List Receipt). rate ++ (map (end_of (trip_at s event m)) l ++ late)) one
          ∙ (ap (λ (l : List Happening). rate ++ (end_of (trip_at s event m) r ∷ moments_at s o.next l)) (seen out_next)
          ∙ ap (λ (trip : Option MeterTrip). rate ++ end_of trip r ∷ []) there_is)) in
          passing event m telling so_far (closing_of (Some (with_parts parts g.u)) r ∷ []) (rate ++ end ∷ [])
          closings_are moments_are
          (one_closing R (Open o.next (told_behind s event m telling))
          (closing_of (Some (with_parts parts g.u)) r) so_far rate end r.kind
          (go_rate s event telling.line m) refl
          (close event m telling.line so_far g.u r g.there
          (subst (λ (x : MeterTrip). IsOf s x r) g.is of) was)
          (subst (λ (trip : Option MeterTrip). IsOpen trip (line_behind trip (line_by s event m telling.line)) [])
          (sym behind) (refl, refl)))

      by_comes : (event : Event) (m : Meter) (telling : Telling) (so_far : List Moment) → IsTripKept s m
          → Open m telling so_far → Comes s event m (step s event m) → Passing event m telling so_far
      by_comes event m telling so_far kept begun_so (turned turn seen) = turned_here event m telling so_far kept begun_so turn seen
      by_comes event m telling so_far kept begun_so (hires is h) =
          subst (λ (e : Event). Hires s m (step s e m) → Passing e m telling so_far) (sym is)
          (hires_here m telling so_far kept begun_so) h

      pub each : (event : Event) (m : Meter) (telling : Telling) (so_far : List Moment) → IsTripKept s m
          → Open m telling so_far → Passing event m telling so_far
      each event m telling so_far kept begun_so = by_comes event m telling so_far kept begun_so (comes s event m kept)

      pub carried : (list : List Event) → AllZip R (closings_of s list) (stories_of s list)
      carried list = stories_match R s Open each list (refl, refl)

      pub carried_left : (list : List Event)
          → Leaves R s Open each (ended s (run s list (opened s first_state)).next).next (left_from [] (moments_in s list))
      carried_left list = leaves R s Open each list (refl, refl)
