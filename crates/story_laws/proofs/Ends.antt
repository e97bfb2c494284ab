-- Stories end with their receipts.
use Rattle.std.{specs.List.{AllZip}, proofs.lemmas.List.Elements.{All-nil, filter_map-append}}
use Rattle.std.proofs.Common.{[], ◌++◌, ◌∙◌, ◌∷◌, ◌≡◌, List, Option, ap, append_assoc, flat_map, map, refl, subst, sym}
use Rattle.story_laws.specs.ClosedStories.{EndsWith, GoesOn}
use Rattle.story_laws.specs.{Closings.{Closing, closings_from, closings_in, closings_of}, Common.{trip_at}}
use Rattle.story_laws.specs.Common.{Event, IsTripKept, Meter, MeterTrip, Moment, Receipt, Setting, Telling, actions_of}
use Rattle.story_laws.specs.Common.{display_told, displays_in, end_of, ended, first_state, happenings_of, moments_at}
use Rattle.story_laws.specs.Common.{moments_of, opened, rate_told, receipt_in, receipts_in, run, step, stories_of}
use Rattle.story_laws.proofs.Stories.{AllGo, Passes, both, go_both, no_closing, one_closing, stories_match}
use Rattle.story_laws.proofs.Told.{go_happenings, go_map, go_rate, on_displays}
use Rattle.taxi_units.specs.declared.event.Event.TheVariants as events

-- ---- the receipts of closings

closed_receipts : (trip : Option MeterTrip) (list : List Receipt)
    → map (λ (c : Closing). c.receipt) (map (λ (r : Receipt). record { trip = trip; receipt = r }) list) ≡ list
closed_receipts trip [] = refl
closed_receipts trip (r ∷ list) = ap (λ (l : List Receipt). r ∷ l) (closed_receipts trip list)

receipts_both : (first others : List Closing)
    → map (λ (c : Closing). c.receipt) (first ++ others)
    ≡ map (λ (c : Closing). c.receipt) first ++ map (λ (c : Closing). c.receipt) others
receipts_both [] others = refl
receipts_both (c ∷ first) others = ap (λ (l : List Receipt). c.receipt ∷ l) (receipts_both first others)

receipts_from : (s : Setting) (list : List Event) (m : Meter)
    → map (λ (c : Closing). c.receipt) (closings_from s list m)
    ≡ receipts_in ((run s list m).acts ++ (ended s (run s list m).next).acts)
unfolding closings_from
receipts_from s [] m = closed_receipts (trip_at s events.Down m) (receipts_in (ended s m).acts)
receipts_from s (event ∷ list) m =
    let next = (step s event m).next in
    let first = (step s event m).acts in
    let others = (run s list next).acts in
    let last = (ended s (run s list next).next).acts in
    receipts_both (closings_in (trip_at s event m) first) (closings_from s list next)
    ∙ (ap (λ (l : List Receipt). l ++ map (λ (c : Closing). c.receipt) (closings_from s list next))
    (closed_receipts (trip_at s event m) (receipts_in first))
    ∙ (ap (λ (l : List Receipt). receipts_in first ++ l) (receipts_from s list next)
    ∙ (sym (filter_map-append receipt_in first (others ++ last))
    ∙ ap receipts_in (sym (append_assoc first others last)))))

pub closings_have_receipts : (s : Setting) (list : List Event)
    → map (λ (c : Closing). c.receipt) (closings_of s list) ≡ receipts_in (actions_of s first_state list)
closings_have_receipts s list = receipts_from s list (opened s first_state)

-- ---- stories

module _ (s : Setting) where
  closes : (trip : Option MeterTrip) (list : List Receipt) (so_far early late : List Moment) → AllGo so_far
      → AllGo early → AllGo late
      → Passes EndsWith AllGo (map (λ (r : Receipt). record { trip = trip; receipt = r }) list) so_far
      (early ++ (map (end_of trip) list ++ late))
  closes trip [] so_far early late begun one other =
      no_closing EndsWith AllGo so_far (early ++ late) (go_both early late one other)
      (go_both so_far (early ++ late) begun (go_both early late one other))
  closes trip (r ∷ list) so_far early late begun one other =
      let c : Closing = record { trip = trip; receipt = r } in
      let end = end_of trip r in
      let first = one_closing EndsWith AllGo c so_far early end r.kind one refl (record {
        kind = refl;
        begun = so_far ++ early;
        ends = refl;
        goes_on = go_both so_far early begun one;
      }) (All-nil (λ (m : Moment). GoesOn m.happening)) in
      let rest = map (end_of trip) list ++ late in
      subst (λ (l : List Moment). Passes EndsWith AllGo
      (c ∷ map (λ (r : Receipt). record { trip = trip; receipt = r }) list) so_far l) (append_assoc early (end ∷ []) rest)
      (both EndsWith AllGo AllGo (c ∷ []) (map (λ (r : Receipt). record { trip = trip; receipt = r }) list) so_far
      (early ++ end ∷ []) rest first (λ (l : List Moment) (there : AllGo l). closes trip list l [] late there
      (All-nil (λ (m : Moment). GoesOn m.happening)) other))

  each_ends : (event : Event) (m : Meter) (telling : Telling) (so_far : List Moment) → IsTripKept s m → AllGo so_far
      → Passes EndsWith AllGo (closings_in (trip_at s event m) (step s event m).acts) so_far
      (moments_of s telling event m (step s event m))
  each_ends event m telling so_far kept begun =
      let o = step s event m in
      let rate = rate_told s event telling.line m in
      let told = moments_at s o.next (happenings_of s telling event m o) in
      let seen = moments_at s o.next (flat_map display_told (displays_in o.acts)) in
      let ends = map (end_of (trip_at s event m)) (receipts_in o.acts) in
      subst (λ (l : List Moment). Passes EndsWith AllGo (closings_in (trip_at s event m) o.acts) so_far l)
      (append_assoc rate told (ends ++ seen))
      (closes (trip_at s event m) (receipts_in o.acts) so_far (rate ++ told) seen begun
      (go_both rate told (go_rate s event telling.line m)
      (go_happenings s telling event m o o.next.trip _))
      (go_map o.next.trip _ (flat_map display_told (displays_in o.acts)) (on_displays (displays_in o.acts))))

  pub stories_end : (list : List Event) → AllZip EndsWith (closings_of s list) (stories_of s list)
  stories_end list = stories_match EndsWith s (λ (m : Meter) (telling : Telling). AllGo) each_ends list
      (All-nil (λ (m : Moment). GoesOn m.happening))
