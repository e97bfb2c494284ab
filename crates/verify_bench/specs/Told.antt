-- For proofs: the meter that tells stories, which state it stands for, and how far it has told a drive. Story says what
-- the stories of a drive are.
use Rattle.std.specs.Prelude.{[], ℕ, ◌++◌, ◌∷◌, ◌≡◌, Bool, List, None, Option, Some, false, flat_map, if◌then◌else◌}
use Rattle.std.specs.Prelude.{map, option_to_list, true}
use Rattle.verify_bench.specs.{Bench.{BenchStands}, declared.happenings.Happenings.{Happenings}}
use Rattle.verify_bench.specs.Common.{Context, Display, Event, Explained, Happening, IsTripKept, Meter, Moment}
use Rattle.verify_bench.specs.Common.{Operating, Outcome, Setting, Stories, Teller, Why, display_of, is_shown, step}
use Rattle.verify_bench.specs.Story.{HiringStory, Telling, clock_told, display_told, displays_in, happenings_of, is_off}
use Rattle.verify_bench.specs.Story.{moments_from, moments_of, since_behind, stories_from, story_of, told_behind}
use Rattle.verify_bench.specs.TripExplanations.{Explanation, explanation_of, explanations_in, hired_at, trip_at}
use Rattle.taxi_units.specs.declared.event.Event.TheVariants as events
use Rattle.verify_bench.specs.declared.moment.Happening.TheVariants as happenings

-- ---- the stories so far

-- stories so far come, with moments behind them, to the closed ones and to those of the moments behind the begun ones
abbrev pub stories_with : Stories → List Moment → List HiringStory
stories_with stories moments = map story_of stories.closed.items ++ stories_from stories.begun.items moments

-- moments were added to stories if the stories behind come to what the stories before them come to with the moments
abbrev pub Adds : List Moment → (old new : Stories) → Type 0
Adds moments old new = (others : List Moment) → stories_with new others ≡ stories_with old (moments ++ others)

-- the end of a hiring that was taken apart
abbrev pub end_by : Explanation → Moment
end_by e = record {
  ticks = e.whole.ticks;
  pulses = e.whole.pulses;
  at = e.receipt.finish;
  happening = happenings.Ended e.receipt.kind e.receipt.fare e.receipt.supplements;
}

-- ---- what happened at an event

-- what an event does to a trip that goes on is what it is told by itself, and a refusal, if each is there
abbrev pub happenings_in : Happenings → List Happening
happenings_in h = option_to_list h.own ++ option_to_list h.refusal

-- what is told of a reading of the clock, and of no other event
abbrev pub reading_by : Telling → Event → Meter → List Happening
reading_by telling (events.Clock second) m = clock_told telling second m
reading_by telling event m = []

-- ---- the display

-- a tick of a powered meter shows, and the supply that comes in Off
abbrev pub does_show : Event → Operating → Bool
does_show events.Tick operating = if is_off operating then false else true
does_show (events.Up second) operating = is_off operating
does_show event operating = false

-- as the supply comes nothing was shown yet
abbrev pub seen_before : Event → Option Display → Option Display
seen_before (events.Up second) last = None
seen_before event last = last

-- a display is shown unless it is the one that was shown last
abbrev pub displays_if : (last : Option Display) → (new : Display) → List Display
displays_if last new = if is_shown last new then [] else new ∷ []

-- an outcome of an event shows as the event does, and remembers what it shows
pub record ShowsAs (s : Setting) (event : Event) (m : Meter) (o : Outcome) : Type 0 where
  pub displays : displays_in o.acts ≡ (if does_show event m.operating
      then displays_if (seen_before event m.shown) (display_of s o.next) else [])
  pub shown : o.next.shown ≡ (if does_show event m.operating then Some (display_of s o.next) else m.shown)

-- ---- the meter that tells

-- a meter that tells stands for a state beside what a story goes by if it has both, with what was shown last; the state
-- keeps its trip as the store does
pub record TellerStands (s : Setting) (hired : Context) (teller : Teller) (m : Meter) (telling : Telling) : Type 0 where
  pub meter : BenchStands s hired teller.meter m
  pub shown : teller.shown ≡ m.shown
  pub since : teller.since ≡ telling.since
  pub line : teller.line ≡ telling.line
  pub kept : IsTripKept s m

-- an event was carried out between two meters that tell if the second stands for the next state, but for the line that
-- charged last, and what happened and which trips were closed is known
pub record Happens (s : Setting) (event : Event) (m : Meter) (hired : Context) (telling : Telling) (new : Teller)
    (happened : Happenings) (ended : List Explained) : Type 0 where
  pub meter : BenchStands s (hired_at s event m hired) new.meter (step s event m).next
  pub shown : new.shown ≡ (step s event m).next.shown
  pub since : new.since ≡ since_behind event m telling.since
  pub told : happenings_in happened ≡ happenings_of s telling event m (step s event m)
  pub displays : option_to_list happened.shown ≡ flat_map display_told (displays_in (step s event m).acts)
  pub found : map explanation_of ended ≡ explanations_in s hired (trip_at s event m) (step s event m).acts

-- an event was told between two meters that tell if from each state for which the first stood the second stands for the
-- next one, and the moments of the event were added to the stories
abbrev pub Tells : Setting → Event → (old new : Teller) → (before after : Stories) → Type 0
Tells s event old new before after =
    (m : Meter) (hired : Context) (telling : Telling) → TellerStands s hired old m telling
    → TellerStands s (hired_at s event m hired) new (step s event m).next (told_behind s event m telling)
    × Adds (moments_of s telling event m (step s event m)) before after

-- ---- a drive

-- a meter that tells is amid a drive if the stories so far, with the moments of the events left from the state for
-- which the meter stands, are all stories of the drive
pub record IsAmidTold (s : Setting) (all : List HiringStory) (left : List Event) (teller : Teller) (stories : Stories)
    : Type 0 where
  pub m : Meter
  pub hired : Context
  pub telling : Telling
  pub stands : TellerStands s hired teller m telling
  pub split : stories_with stories (moments_from s telling left m) ≡ all

-- events were told between two meters if in each drive that goes on with these events the first is amid it before
-- them, and the second behind them
abbrev pub TellsAll : Setting → List Event → (old new : Teller) → (before after : Stories) → Type 0
TellsAll s events old new before after =
    (all : List HiringStory) (left : List Event)
    → IsAmidTold s all (events ++ left) old before → IsAmidTold s all left new after
