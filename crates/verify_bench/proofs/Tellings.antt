-- Events that a meter tells, one after another.
use Rattle.{std.specs.Prelude.{option_to_list}, verify_bench.specs.Common.{intervals_events, opened, run_events, step}}
use Rattle.std.proofs.Common.{[], ℕ, ◌++◌, ◌+◌, ◌<◌, ◌∙◌, ◌∷◌, ◌≡◌, ◌≢◌, List, ap, append_assoc, drop, flat_map, get_or}
use Rattle.std.proofs.{Common.{length, map, refl, rules, subst, sym}, lemmas.{List.{append-nil}, Simd.{map-map}}}
use Rattle.verify_bench.{specs.{Bench.{BenchStands}, Settings.{setting_under}}, proofs.BenchSupply.{ended_on, step_on}}
use Rattle.verify_bench.specs.Common.{Context, Event, Explained, Happening, Meter, Moment, Off, Operating, Outcome}
use Rattle.verify_bench.specs.Common.{Receipt, Run, Setting, Stories, Teller, ended, first_state, interval_events}
use Rattle.verify_bench.specs.Receipts.{receipts_in}
use Rattle.verify_bench.specs.Story.{HiringStory, Telling, display_told, displays_in, end_of, happenings_of}
use Rattle.verify_bench.specs.Story.{line_behind, line_by, moments_at, moments_from, moments_of, rate_told}
use Rattle.verify_bench.specs.{Story.{stories_from, stories_of, story_of, told_behind, untold}, Told.{stories_with}}
use Rattle.verify_bench.specs.Told.{Adds, Happens, IsAmidTold, TellerStands, Tells, TellsAll, end_by, happenings_in}
use Rattle.verify_bench.specs.TripExplanations.{Explanation, explanation, explanation_of, explanations_in, hired_at}
use Rattle.verify_bench.specs.{TripExplanations.{trip_at}, declared.happenings.Happenings.{Happenings}}
use Rattle.meter_model.proofs.Laws as states
use Rattle.taxi_units.specs.declared.event.Event.TheVariants as events

-- ---- moments that are added, one after another

pub adds_none : (a : Stories) → Adds [] a a
adds_none a others = refl

pub adds_then : (first second : List Moment) (a b c : Stories) → Adds first a b → Adds second b c
    → Adds (first ++ second) a c
adds_then first second a b c one two others =
    two others ∙ (one (second ++ others) ∙ ap (stories_with a) (sym (append_assoc first second others)))

-- the ends of hirings that were taken apart
ends_are : (s : Setting) (hired : Context) (event : Event) (m : Meter) (o : Outcome) (found : List Explained)
    → map explanation_of found ≡ explanations_in s hired (trip_at s event m) o.acts
    → map end_by (map explanation_of found) ≡ map (end_of (trip_at s event m)) (receipts_in o.acts)
ends_are s hired event m o found are =
    ap (map end_by) are ∙ map-map end_by (explanation s hired (trip_at s event m)) (receipts_in o.acts)

-- ---- an event

pub told_event : (s : Setting) (event : Event) (m : Meter) (hired : Context) (telling : Telling)
    (old rated done new : Teller) (told : Happenings) (found : List Explained) (a b c d e : Stories)
    → TellerStands s hired old m telling → rated.line ≡ line_by s event m old.line
    → Adds (rate_told s event old.line m) a b → Happens s event m hired telling done told found
    → done.line ≡ rated.line → Adds (moments_at s (step s event m).next (happenings_in told)) b c
    → Adds (map end_by (map explanation_of found)) c d
    → Adds (moments_at s (step s event m).next (option_to_list told.shown)) d e
    → new ≡ record done { line = new.line } → new.line ≡ line_behind (step s event m).next.trip done.line
    → TellerStands s (hired_at s event m hired) new (step s event m).next (told_behind s event m telling)
    × Adds (moments_of s telling event m (step s event m)) a e
told_event s event m hired telling old rated done new told found a b c d e stands line rate happens kept
    own ends shows others behind =
    let o = step s event m in
    let first = subst (λ (last : _). Adds (rate_told s event last m) a b) stands.line rate in
    let second = subst (λ (list : List Happening). Adds (moments_at s o.next list) b c) happens.told own in
    let third = subst (λ (list : List Moment). Adds list c d) (ends_are s hired event m o found happens.found) ends in
    let fourth = subst (λ (list : List Happening). Adds (moments_at s o.next list) d e) happens.displays shows in (
      subst (λ (t : Teller). TellerStands s (hired_at s event m hired) t o.next (told_behind s event m telling))
          (sym others) (record {
            meter = happens.meter;
            shown = happens.shown;
            since = happens.since;
            line = behind ∙ ap (line_behind o.next.trip)
                (kept ∙ (line ∙ ap (line_by s event m) stands.line));
            kept = states.the_store_keeps_the_trip-step s event m stands.kept;
          }),
      adds_then (rate_told s event telling.line m) _ a b e first
          (adds_then (moments_at s o.next (happenings_of s telling event m o)) _ b c e second
          (adds_then (map (end_of (trip_at s event m)) (receipts_in o.acts)) _ c d e third fourth)),
    )

-- ---- events

pub tells_event : (s : Setting) (event : Event) (old new : Teller) (a b : Stories) → Tells s event old new a b
    → TellsAll s (event ∷ []) old new a b
unfolding moments_from
tells_event s event old new a b tells all left amid =
    let told = tells amid.m amid.hired amid.telling amid.stands in
    record {
      m = (step s event amid.m).next;
      hired = hired_at s event amid.m amid.hired;
      telling = told_behind s event amid.m amid.telling;
      stands = told.0;
      split = told.1 (moments_from s (told_behind s event amid.m amid.telling) left (step s event amid.m).next)
          ∙ amid.split;
    }

pub tells_none : (s : Setting) (teller : Teller) (a : Stories) → TellsAll s [] teller teller a a
tells_none s teller a all left amid = amid

pub tells_then : (s : Setting) (first others : List Event) (old mid new : Teller) (a b c : Stories)
    → TellsAll s first old mid a b → TellsAll s others mid new b c → TellsAll s (first ++ others) old new a c
tells_then s first others old mid new a b c one other all left amid =
    other all left (one all (others ++ left) (rw (append_assoc first others left) at amid))

pub told_next : (s : Setting) (all : List HiringStory) (runs : List Run) (place : ℕ) (d : Run) (teller : Teller)
    (stories : Stories) → flat_map run_events (drop place runs)
    ≡ run_events (get_or runs place d) ++ flat_map run_events (drop (place + 1) runs)
    → IsAmidTold s all (flat_map run_events (drop place runs)) teller stories
    → IsAmidTold s all (run_events (get_or runs place d) ++ flat_map run_events (drop (place + 1) runs)) teller stories
told_next s all runs place d teller stories split amid = rw split at amid

pub told_first : (s : Setting) (events : List Event) (teller : Teller) (stories : Stories)
    → ((hired : Context) → TellerStands s hired teller (opened s first_state) untold)
    → stories.closed.items ≡ [] → stories.begun.items ≡ []
    → (now : Context) → IsAmidTold s (stories_of s events) events teller stories
told_first s events teller stories stands closed begun now = record {
  m = opened s first_state;
  hired = now;
  telling = untold;
  stands = stands now;
  split = rw (closed, begun) refl;
}

-- ---- the end of a drive

nothing_in_off : (s : Setting) (telling : Telling) (m : Meter) → m.operating ≡ Off
    → moments_of s telling events.Down m (ended s m) ≡ []
nothing_in_off s telling m off = rw off refl

end_is_down : (s : Setting) (m : Meter) → m.operating ≢ Off → step s events.Down m ≡ ended s m
end_is_down s m on = step_on s events.Down m.operating m on ∙ sym (ended_on s m.operating m on)

whole : (stories : Stories) (all : List HiringStory) → stories_with stories [] ≡ all
    → map story_of stories.closed.items ≡ all
unfolding stories_from
whole stories all is = sym (append-nil (map story_of stories.closed.items)) ∙ is

pub told_in_off : (s : Setting) (all : List HiringStory) (teller : Teller) (stories : Stories)
    → teller.meter.operating ≡ Off → IsAmidTold s all [] teller stories → map story_of stories.closed.items ≡ all
unfolding moments_from
told_in_off s all teller stories off amid =
    let there : amid.m.operating ≡ Off = sym amid.stands.meter.operating ∙ off in
    whole stories all
    (ap (stories_with stories) (sym (nothing_in_off s amid.telling amid.m there)) ∙ amid.split)

pub told_to_the_end : (s : Setting) (all : List HiringStory) (old new : Teller) (a b : Stories)
    → old.meter.operating ≢ Off → Tells s events.Down old new a b → IsAmidTold s all [] old a
    → map story_of b.closed.items ≡ all
unfolding moments_from
told_to_the_end s all old new a b on tells amid =
    let told = (tells amid.m amid.hired amid.telling amid.stands).1 in
    let is = end_is_down s amid.m (λ off. on (amid.stands.meter.operating ∙ off)) in
    let moments = moments_of s amid.telling events.Down amid.m in
    whole b all (told [] ∙ (ap (stories_with a) (append-nil (moments (step s events.Down amid.m))
    ∙ ap moments is) ∙ amid.split))
