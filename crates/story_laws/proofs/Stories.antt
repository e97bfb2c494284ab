-- How moments part into stories, one for each closing.
use Rattle.{std.specs.List.{AllZip}, meter_model.specs.Run.{ended_in}}
use Rattle.std.proofs.Common.{[], ◌++◌, ◌∙◌, ◌∷◌, ◌≡◌, All, List, None, Option, Some, ap, append_assoc, refl, subst}
use Rattle.std.proofs.{Common.{sym}, lemmas.List.{append-nil, Elements.{All-append, All-head, All-tail}}}
use Rattle.verify_bench.specs.Story.{drop_told, moments_from, parted_at, stories_from, untold}
use Rattle.story_laws.specs.ClosedStories.{GoesOn, left_behind, left_from}
use Rattle.story_laws.specs.Closings.{Closing, closings_from, closings_in, closings_of}
use Rattle.story_laws.specs.Common.{Event, ForHire, Happening, Hired, HiringStory, IsTripKept, Kind, Meter, Moment, Off}
use Rattle.story_laws.specs.Common.{Operating, Outcome, Setting, Stopped, Telling, ended, first_state, kind_in}
use Rattle.story_laws.specs.Common.{moments_at, moments_in, moments_of, opened, quiet, refusals_told, run, step}
use Rattle.story_laws.specs.Common.{step_in, stories_of, told_behind, trip_at}
use Rattle.meter_model.proofs.Laws as states
use Rattle.taxi_units.specs.declared.event.Event.TheVariants as events
use Rattle.verify_bench.specs.declared.moment.Happening.TheVariants as happenings

-- ---- moments that end no story

pub go_none : (h : Happening) → GoesOn h → kind_in h ≡ None
go_none (happenings.Ended kind fare supplements) go = absurd go
go_none h go = refl

abbrev pub AllGo : List Moment → Type 0
AllGo moments = All (λ (m : Moment). GoesOn m.happening) moments

pub passed : (so_far early others : List Moment) → AllGo early
    → stories_from so_far (early ++ others) ≡ stories_from (so_far ++ early) others
unfolding stories_from
passed so_far [] others go = ap (λ (l : List Moment). stories_from l others) (sym (append-nil so_far))
passed so_far (m ∷ ms) others go =
    let here : kind_in m.happening ≡ None =
    go_none m.happening (All-head (λ (m : Moment). GoesOn m.happening) m ms go) in
    ap (λ (end : Option Kind). parted_at end (so_far ++ m ∷ [])
    (λ (begun : List Moment). stories_from begun (ms ++ others))) here
    ∙ (passed (so_far ++ m ∷ []) ms others (All-tail (λ (m : Moment). GoesOn m.happening) m ms go)
    ∙ ap (λ (l : List Moment). stories_from l others) (append_assoc so_far (m ∷ []) ms))

pub left_passed : (so_far early others : List Moment) → AllGo early
    → left_from so_far (early ++ others) ≡ left_from (so_far ++ early) others
unfolding left_from
left_passed so_far [] others go = ap (λ (l : List Moment). left_from l others) (sym (append-nil so_far))
left_passed so_far (m ∷ ms) others go =
    let here : kind_in m.happening ≡ None =
    go_none m.happening (All-head (λ (m : Moment). GoesOn m.happening) m ms go) in
    ap (λ (end : Option Kind). left_behind end (so_far ++ m ∷ [])
    (λ (begun : List Moment). left_from begun (ms ++ others))) here
    ∙ (left_passed (so_far ++ m ∷ []) ms others (All-tail (λ (m : Moment). GoesOn m.happening) m ms go)
    ∙ ap (λ (l : List Moment). left_from l others) (append_assoc so_far (m ∷ []) ms))

pub go_both : (first others : List Moment) → AllGo first → AllGo others → AllGo (first ++ others)
go_both first others one other = All-append (λ (m : Moment). GoesOn m.happening) first others one other

-- ---- moments that come to closings

-- moments come to the stories of closings, each of which is as it should be, and leave moments of which something holds
pub record Passes (R : Closing → HiringStory → Type 0) (Q : List Moment → Type 0) (closings : List Closing)
    (so_far moments : List Moment) : Type 0 where
  pub rest : List Moment
  pub stories : List HiringStory
  pub holds : Q rest
  pub match : AllZip R closings stories
  pub parts : (others : List Moment) → stories_from so_far (moments ++ others) ≡ stories ++ stories_from rest others
  pub left : (others : List Moment) → left_from so_far (moments ++ others) ≡ left_from rest others

zip_both : (R : Closing → HiringStory → Type 0) (first others : List Closing) (xs ys : List HiringStory)
    → AllZip R first xs → AllZip R others ys → AllZip R (first ++ others) (xs ++ ys)
zip_both R [] others [] ys one other = other
zip_both R [] others (x ∷ xs) ys one other = absurd one
zip_both R (c ∷ first) others [] ys one other = absurd one
zip_both R (c ∷ first) others (x ∷ xs) ys one other = (one.0, zip_both R first others xs ys one.1 other)

module _ (R : Closing → HiringStory → Type 0) where
  pub no_closing : (Q : List Moment → Type 0) (so_far early : List Moment) → AllGo early → Q (so_far ++ early)
      → Passes R Q [] so_far early
  no_closing Q so_far early go holds = record {
    rest = so_far ++ early;
    stories = [];
    holds = holds;
    match = tt;
    parts = λ others. passed so_far early others go;
    left = λ others. left_passed so_far early others go;
  }

  pub one_closing : (Q : List Moment → Type 0) (c : Closing) (so_far early : List Moment) (end : Moment) (kind : Kind)
      → AllGo early → kind_in end.happening ≡ Some kind
      → R c (record { kind = kind; moments = (so_far ++ early) ++ end ∷ [] }) → Q []
      → Passes R Q (c ∷ []) so_far (early ++ end ∷ [])
  unfolding stories_from left_from
  one_closing Q c so_far early end kind go ends is holds = record {
    rest = [];
    stories = record { kind = kind; moments = (so_far ++ early) ++ end ∷ [] } ∷ [];
    holds = holds;
    match = (is, tt);
    parts = λ others.
        ap (λ (l : List Moment). stories_from so_far l) (append_assoc early (end ∷ []) others)
        ∙ (passed so_far early (end ∷ others) go
        ∙ ap (λ (o : Option Kind). parted_at o ((so_far ++ early) ++ end ∷ [])
        (λ (begun : List Moment). stories_from begun others)) ends);
    left = λ others.
        ap (λ (l : List Moment). left_from so_far l) (append_assoc early (end ∷ []) others)
        ∙ (left_passed so_far early (end ∷ others) go
        ∙ ap (λ (o : Option Kind). left_behind o ((so_far ++ early) ++ end ∷ [])
        (λ (begun : List Moment). left_from begun others)) ends);
  }

  pub both : (P Q : List Moment → Type 0) (old new : List Closing) (so_far first second : List Moment)
      → Passes R P old so_far first → ((rest : List Moment) → P rest → Passes R Q new rest second)
      → Passes R Q (old ++ new) so_far (first ++ second)
  both P Q old new so_far first second one next =
      let other = next one.rest one.holds in
      record {
        rest = other.rest;
        stories = one.stories ++ other.stories;
        holds = other.holds;
        match = zip_both R old new one.stories other.stories one.match other.match;
        parts = λ others.
            ap (λ (l : List Moment). stories_from so_far l) (append_assoc first second others)
            ∙ (one.parts (second ++ others)
            ∙ (ap (λ (l : List HiringStory). one.stories ++ l) (other.parts others)
            ∙ sym (append_assoc one.stories other.stories (stories_from other.rest others))));
        left = λ others.
            ap (λ (l : List Moment). left_from so_far l) (append_assoc first second others)
            ∙ (one.left (second ++ others) ∙ other.left others);
      }

  -- ---- events, one after the other

  module _ (s : Setting) (Q : Meter → Telling → List Moment → Type 0)
      (each : (event : Event) (m : Meter) (telling : Telling) (so_far : List Moment) → IsTripKept s m → Q m telling so_far
      → Passes R (Q (step s event m).next (told_behind s event m telling))
      (closings_in (trip_at s event m) (step s event m).acts) so_far (moments_of s telling event m (step s event m))) where
    -- what is left at the end
    abbrev pub Leaves : Meter → List Moment → Type 0
    Leaves m rest = (telling : Telling) × Q m telling rest

    -- what an outcome of the supply drop comes to
    abbrev Drops : Meter → Telling → List Moment → Outcome → Type 0
    Drops m telling so_far o = Passes R (Leaves o.next) (closings_in (trip_at s events.Down m) o.acts) so_far
        (moments_of s telling events.Down m o)

    drops : (m : Meter) (telling : Telling) (so_far : List Moment) → IsTripKept s m → Q m telling so_far
        → Drops m telling so_far (step_in s m.operating events.Down m)
    drops m telling so_far kept holds =
        let p = each events.Down m telling so_far kept holds in
        record {
          rest = p.rest;
          stories = p.stories;
          holds = (told_behind s events.Down m telling, p.holds);
          match = p.match;
          parts = p.parts;
          left = p.left;
        }

    none_off : (m : Meter) (telling : Telling) → m.operating ≡ Off
        → moments_of s telling events.Down m (quiet m) ≡ []
    none_off m telling is = ap (λ (o : Operating). moments_at s m (drop_told o m.trip ++ refusals_told o []) ++ []) is

    last : (operating : Operating) (m : Meter) (telling : Telling) (so_far : List Moment) → m.operating ≡ operating
        → IsTripKept s m → Q m telling so_far → Drops m telling so_far (ended_in s operating m)
    last Off m telling so_far is kept holds = record {
      rest = so_far;
      stories = [];
      holds = (telling, holds);
      match = tt;
      parts = λ others. ap (λ (l : List Moment). stories_from so_far (l ++ others)) (none_off m telling is);
      left = λ others. ap (λ (l : List Moment). left_from so_far (l ++ others)) (none_off m telling is);
    }
    last ForHire m telling so_far is kept holds =
        subst (λ (o : Operating). Drops m telling so_far (step_in s o events.Down m)) is (drops m telling so_far kept holds)
    last Hired m telling so_far is kept holds =
        subst (λ (o : Operating). Drops m telling so_far (step_in s o events.Down m)) is (drops m telling so_far kept holds)
    last Stopped m telling so_far is kept holds =
        subst (λ (o : Operating). Drops m telling so_far (step_in s o events.Down m)) is (drops m telling so_far kept holds)

    pub all_pass : (list : List Event) (m : Meter) (telling : Telling) (so_far : List Moment) → IsTripKept s m
        → Q m telling so_far
        → Passes R (Leaves (ended s (run s list m).next).next) (closings_from s list m) so_far
        (moments_from s telling list m)
    unfolding closings_from moments_from
    all_pass [] m telling so_far kept holds = last m.operating m telling so_far refl kept holds
    all_pass (event ∷ list) m telling so_far kept holds =
        let next = (step s event m).next in
        let behind = told_behind s event m telling in
        both (Q next behind) (Leaves (ended s (run s list next).next).next)
        (closings_in (trip_at s event m) (step s event m).acts) (closings_from s list next) so_far
        (moments_of s telling event m (step s event m)) (moments_from s behind list next)
        (each event m telling so_far kept holds)
        (λ rest there. all_pass list next behind rest (states.the_store_keeps_the_trip-step s event m kept) there)

    -- the stories of a drive match its closings
    pub stories_match : (list : List Event) → Q (opened s first_state) untold []
        → AllZip R (closings_of s list) (stories_of s list)
    unfolding stories_from
    stories_match list begins =
        let m = opened s first_state in
        let p = all_pass list m untold [] (states.the_store_keeps_the_trip-begins s first_state tt) begins in
        let same : stories_of s list ≡ p.stories =
        ap (λ (l : List Moment). stories_from [] l) (sym (append-nil (moments_in s list)))
        ∙ (p.parts [] ∙ append-nil p.stories) in
        subst (λ (l : List HiringStory). AllZip R (closings_of s list) l) (sym same) p.match

    pub leaves : (list : List Event) → Q (opened s first_state) untold []
        → Leaves (ended s (run s list (opened s first_state)).next).next (left_from [] (moments_in s list))
    unfolding left_from
    leaves list begins =
        let m = opened s first_state in
        let p = all_pass list m untold [] (states.the_store_keeps_the_trip-begins s first_state tt) begins in
        let same : left_from [] (moments_in s list) ≡ p.rest =
        ap (λ (l : List Moment). left_from [] l) (sym (append-nil (moments_in s list))) ∙ p.left [] in
        subst (λ (l : List Moment). Leaves (ended s (run s list m).next).next l) (sym same) p.holds
