-- Stories show what the run shows.
use Rattle.std.specs.Prelude.{if◌then◌else◌}
use Rattle.std.proofs.Common.{[], ℕ, ◌++◌, ◌∙◌, ◌∷◌, ◌≡◌, Bool, List, None, Option, Some, ap, append_assoc, false}
use Rattle.std.proofs.{Common.{flat_map, map, refl, sym, true}, lemmas.List.{append-nil, Elements.{filter_map-append}}}
use Rattle.verify_bench.specs.Story.{moments_from, parted_at, stories_from, untold}
use Rattle.story_laws.specs.ClosedStories.{amounts_in, amounts_of, left_behind, left_from, shown_at, shown_by}
use Rattle.story_laws.specs.Common.{Act, Display, Event, ForHire, Happening, Hired, HiringStory, Kind, Meter, MeterTrip}
use Rattle.story_laws.specs.Common.{Moment, Off, Operating, Outcome, Receipt, Setting, Stamp, Stopped, Telling}
use Rattle.story_laws.specs.Common.{actions_of, display_in, display_told, displays_in, end_of, ended, first_state}
use Rattle.story_laws.specs.Common.{happenings_of, is_in_trip, is_line, kind_in, moment_of, moments_at, moments_in}
use Rattle.story_laws.specs.Common.{moments_of, opened, rate_in, rate_line, rate_told, receipts_in, run, step}
use Rattle.story_laws.{specs.Common.{stories_of, told_behind, trip_at}, proofs.Told.{Each, Plain, plain_happenings}}
use Rattle.taxi_units.specs.declared.event.Event.TheVariants as events
use Rattle.verify_bench.specs.declared.moment.Happening.TheVariants as happenings

-- ---- moments in parts

shown_both : (first others : List Moment) → shown_at (first ++ others) ≡ shown_at first ++ shown_at others
shown_both first others = filter_map-append (λ (m : Moment). amounts_in m.happening) first others

by_both : (first others : List Display) → flat_map amounts_of (first ++ others)
    ≡ flat_map amounts_of first ++ flat_map amounts_of others
by_both [] others = refl
by_both (d ∷ first) others =
    ap (λ (l : List (ℕ × ℕ)). amounts_of d ++ l) (by_both first others)
    ∙ sym (append_assoc (amounts_of d) (flat_map amounts_of first) (flat_map amounts_of others))

acts_both : (first others : List Act) → shown_by (first ++ others) ≡ shown_by first ++ shown_by others
acts_both first others = ap (flat_map amounts_of) (filter_map-append display_in first others)
    ∙ by_both (displays_in first) (displays_in others)

abbrev shown_in_stories : List HiringStory → List (ℕ × ℕ)
shown_in_stories stories = flat_map (λ (story : HiringStory). shown_at story.moments) stories

abbrev Parts : (so_far moments : List Moment) → Type 0
Parts so_far moments = shown_at (so_far ++ moments)
    ≡ shown_in_stories (stories_from so_far moments) ++ shown_at (left_from so_far moments)

parts_by : (so_far : List Moment) (m : Moment) (moments : List Moment) (end : Option Kind) → kind_in m.happening ≡ end
    → Parts (so_far ++ m ∷ []) moments → Parts [] moments → Parts so_far (m ∷ moments)
unfolding stories_from left_from
parts_by so_far m moments None is goes_on anew =
    ap shown_at (sym (append_assoc so_far (m ∷ []) moments))
    ∙ (goes_on
    ∙ sym (ap (λ (end : Option Kind).
    shown_in_stories (parted_at end (so_far ++ m ∷ []) (λ (l : List Moment). stories_from l moments))
    ++ shown_at (left_behind end (so_far ++ m ∷ []) (λ (l : List Moment). left_from l moments))) is))
parts_by so_far m moments (Some kind) is goes_on anew =
    let begun = so_far ++ m ∷ [] in
    ap shown_at (sym (append_assoc so_far (m ∷ []) moments))
    ∙ (shown_both begun moments
    ∙ (ap (λ (l : List (ℕ × ℕ)). shown_at begun ++ l) anew
    ∙ (sym (append_assoc (shown_at begun) (shown_in_stories (stories_from [] moments))
    (shown_at (left_from [] moments)))
    ∙ sym (ap (λ (end : Option Kind).
    shown_in_stories (parted_at end begun (λ (l : List Moment). stories_from l moments))
    ++ shown_at (left_behind end begun (λ (l : List Moment). left_from l moments))) is))))

in_parts : (so_far moments : List Moment) → Parts so_far moments
unfolding stories_from left_from
in_parts so_far [] = ap shown_at (append-nil so_far)
in_parts so_far (m ∷ moments) =
    parts_by so_far m moments (kind_in m.happening) refl (in_parts (so_far ++ m ∷ []) moments) (in_parts [] moments)

-- ---- an event

plain_none : (h : Happening) → Plain h → amounts_in h ≡ None
plain_none (happenings.Shown fare supplements) plain = absurd plain
plain_none h plain = refl

unshown : (trip : Option MeterTrip) (at : Stamp) (list : List Happening) → Each Plain list
    → shown_at (map (moment_of trip at) list) ≡ []
unshown trip at [] each = refl
unshown trip at (h ∷ list) each =
    rw (plain_none h each.0) (unshown trip at list each.1)

ends_unshown : (trip : Option MeterTrip) (list : List Receipt) → shown_at (map (end_of trip) list) ≡ []
ends_unshown trip [] = refl
ends_unshown trip (r ∷ list) = ends_unshown trip list

seen_if : (b : Bool) (trip : Option MeterTrip) (at : Stamp) (fare supplements : ℕ)
    → shown_at (map (moment_of trip at) (if b then happenings.Shown fare supplements ∷ [] else []))
    ≡ (if b then (fare, supplements) ∷ [] else [])
seen_if true trip at fare supplements = refl
seen_if false trip at fare supplements = refl

map_both : (trip : Option MeterTrip) (at : Stamp) (first others : List Happening)
    → map (moment_of trip at) (first ++ others) ≡ map (moment_of trip at) first ++ map (moment_of trip at) others
map_both trip at [] others = refl
map_both trip at (h ∷ first) others = ap (λ (l : List Moment). moment_of trip at h ∷ l) (map_both trip at first others)

seen : (trip : Option MeterTrip) (at : Stamp) (list : List Display)
    → shown_at (map (moment_of trip at) (flat_map display_told list)) ≡ flat_map amounts_of list
seen trip at [] = refl
seen trip at (d ∷ list) =
    ap shown_at (map_both trip at (display_told d) (flat_map display_told list))
    ∙ (shown_both (map (moment_of trip at) (display_told d)) (map (moment_of trip at) (flat_map display_told list))
    ∙ (ap (λ (l : List (ℕ × ℕ)). l ++ shown_at (map (moment_of trip at) (flat_map display_told list)))
    (seen_if (is_in_trip d.operating) trip at d.fare d.supplements)
    ∙ ap (λ (l : List (ℕ × ℕ)). amounts_of d ++ l) (seen trip at list)))

module _ (s : Setting) where
  rate_if : (b : Bool) (m : Meter) (at : Stamp)
      → shown_at (if b then [] else moment_of m.trip at (happenings.Rate (rate_line s m)) ∷ []) ≡ []
  rate_if true m at = refl
  rate_if false m at = refl

  rate_unseen : (operating : Operating) (last : Option ℕ) (m : Meter) → shown_at (rate_in s operating last m) ≡ []
  rate_unseen Off last m = refl
  rate_unseen ForHire last m = refl
  rate_unseen Hired last m = rate_if (is_line last (rate_line s m)) m _
  rate_unseen Stopped last m = refl

  rate_unshown : (event : Event) (last : Option ℕ) (m : Meter) → shown_at (rate_told s event last m) ≡ []
  rate_unshown events.Tick last m = rate_unseen m.operating last m
  rate_unshown (events.Up second) last m = refl
  rate_unshown events.Down last m = refl
  rate_unshown (events.Pulses n) last m = refl
  rate_unshown (events.Clock second) last m = refl
  rate_unshown (events.Key key) last m = refl

  event_shows : (telling : Telling) (event : Event) (m : Meter) (o : Outcome)
      → shown_at (moments_of s telling event m o) ≡ shown_by o.acts
  event_shows telling event m o =
      let rate = rate_told s event telling.line m in
      let told = moments_at s o.next (happenings_of s telling event m o) in
      let last = moments_at s o.next (flat_map display_told (displays_in o.acts)) in
      let ends = map (end_of (trip_at s event m)) (receipts_in o.acts) in
      shown_both rate (told ++ (ends ++ last))
      ∙ (ap (λ (l : List (ℕ × ℕ)). l ++ shown_at (told ++ (ends ++ last))) (rate_unshown event telling.line m)
      ∙ (shown_both told (ends ++ last)
      ∙ (ap (λ (l : List (ℕ × ℕ)). l ++ shown_at (ends ++ last))
      (unshown o.next.trip _ (happenings_of s telling event m o) (plain_happenings s telling event m o))
      ∙ (shown_both ends last
      ∙ (ap (λ (l : List (ℕ × ℕ)). l ++ shown_at last) (ends_unshown (trip_at s event m) (receipts_in o.acts))
      ∙ seen o.next.trip _ (displays_in o.acts))))))

  -- ---- events

  from_shows : (telling : Telling) (list : List Event) (m : Meter)
      → shown_at (moments_from s telling list m)
      ≡ shown_by ((run s list m).acts ++ (ended s (run s list m).next).acts)
  unfolding moments_from
  from_shows telling [] m = event_shows telling events.Down m (ended s m)
  from_shows telling (event ∷ list) m =
      let o = step s event m in
      let behind = told_behind s event m telling in
      let others = (run s list o.next).acts in
      let last = (ended s (run s list o.next).next).acts in
      shown_both (moments_of s telling event m o) (moments_from s behind list o.next)
      ∙ (ap (λ (l : List (ℕ × ℕ)). l ++ shown_at (moments_from s behind list o.next)) (event_shows telling event m o)
      ∙ (ap (λ (l : List (ℕ × ℕ)). shown_by o.acts ++ l) (from_shows behind list o.next)
      ∙ (sym (acts_both o.acts (others ++ last)) ∙ ap shown_by (sym (append_assoc o.acts others last)))))

  pub stories_show : (list : List Event)
      → flat_map (λ (story : HiringStory). shown_at story.moments) (stories_of s list)
      ++ shown_at (left_from [] (moments_in s list)) ≡ shown_by (actions_of s first_state list)
  stories_show list = sym (in_parts [] (moments_in s list)) ∙ from_shows untold list (opened s first_state)
