-- Rules: the story of each hiring that a drive closes, which is what happened in it, in order.
use Rattle.std.specs.{List.{filter_map}, Prelude.{flat_map, get_or, if◌then◌else◌, map, nat_le, nat_lt, true}}
use Rattle.std.specs.Prelude.{[], ℕ, ◌&&◌, ◌++◌, ◌+◌, ◌-◌, ◌/◌, ◌==◌, ◌∷◌, Bool, List, None, Option, Some, false}
use Rattle.{taxi_units.specs.declared.receipt.Stamp.{Stamp}, verify_bench.specs.Groups.{rate_place_of}}
use Rattle.verify_bench.specs.Common.{Act, Context, Display, Event, ForHire, Happening, Hired, HiringFees, Key, Kind}
use Rattle.verify_bench.specs.Common.{Meter, MeterTrip, Moment, Off, Operating, Outcome, Receipt, Refuse, Setting, Show}
use Rattle.verify_bench.specs.Common.{Stopped, Story, Why, context_now, context_of, ended, first_state, lines_of}
use Rattle.verify_bench.specs.{Common.{opened, pulses_so_far, stamp_at, step, ticks_so_far}, TripExplanations.{trip_at}}
use Rattle.verify_bench.specs.{Fees.{fees_of_hiring}, Receipts.{receipts_in}}
use Rattle.taxi_units.specs.declared.event.Event.TheVariants as events
use Rattle.taxi_units.specs.declared.event.Key.TheVariants as keys
use Rattle.verify_bench.specs.declared.moment.Happening.TheVariants as happenings

-- ---- what a story goes by

-- beside the meter's state a story goes by the ticks since the clock was last read or the supply came, and by the line
-- of the rate that charged the last interval of the trip, if one did
pub record Telling : Type 0 where
  pub since : ℕ
  pub line : Option ℕ

-- the test `is_in_trip` is true in the operating positions Hired and Stopped
abbrev pub is_in_trip : Operating → Bool
is_in_trip Off = false
is_in_trip ForHire = false
is_in_trip Hired = true
is_in_trip Stopped = true

-- the test `is_off` is true in Off
abbrev pub is_off : Operating → Bool
is_off Off = true
is_off ForHire = false
is_off Hired = false
is_off Stopped = false

-- the test `is_there` is true if there is a trip
abbrev pub is_there : Option MeterTrip → Bool
is_there None = false
is_there (Some trip) = true

-- the rate line of the running interval is the one that holds first at its beginning, by its number in the text
abbrev pub rate_line : Setting → Meter → ℕ
rate_line s m = get_or (lines_of s.tariff.rates) (rate_place_of s (context_of s m)) 0

-- a moment of a trip has the ticks and the pulses that the trip has then, and 0 of both without one
abbrev pub moment_of : Option MeterTrip → Stamp → Happening → Moment
moment_of trip at happening =
    record { ticks = ticks_so_far trip; pulses = pulses_so_far trip; at = at; happening = happening }

-- ---- the line of an interval

-- the test `is_line` is true if a line is the one that charged last
abbrev pub is_line : (last : Option ℕ) → (line : ℕ) → Bool
is_line None line = false
is_line (Some last) line = last == line

-- an interval that ends in Hired tells its line if another one charged last in the trip, or none did; the moment is
-- that of the interval's beginning
abbrev pub rate_in : Setting → Operating → (last : Option ℕ) → Meter → List Moment
rate_in s Hired last m =
    if is_line last (rate_line s m) then []
    else moment_of m.trip (stamp_at s m.began) (happenings.Rate (rate_line s m)) ∷ []
rate_in s operating last m = []

-- a tick ends an interval, and no other event does
abbrev pub rate_told : Setting → Event → (last : Option ℕ) → Meter → List Moment
rate_told s events.Tick last m = rate_in s m.operating last m
rate_told s event last m = []

-- ---- what the meter does

-- the cause in an act is that of a refusal, and none if the act is of another kind
abbrev pub why_in : Act → Option Why
why_in (Refuse why) = Some why
why_in act = None

-- the causes of refusals among acts, in order
abbrev pub whys_in : List Act → List Why
whys_in acts = filter_map why_in acts

-- the display of an act is the one that it shows, and none if the act is of another kind
abbrev pub display_in : Act → Option Display
display_in (Show display) = Some display
display_in act = None

-- the displays among acts, in order
abbrev pub displays_in : List Act → List Display
displays_in acts = filter_map display_in acts

-- a display is told in Hired and Stopped, with its fare and its supplements
abbrev pub display_told : Display → List Happening
display_told display =
    if is_in_trip display.operating then happenings.Shown display.fare display.supplements ∷ [] else []

-- refusals are told that leave the meter in Hired or Stopped
abbrev pub refusals_told : (behind : Operating) → List Why → List Happening
refusals_told behind whys = if is_in_trip behind then map (λ (why : Why). happenings.Refused why) whys else []

-- the test `is_empty` is true if there is no cause
abbrev pub is_empty : List Why → Bool
is_empty [] = true
is_empty (why ∷ whys) = false

-- a hiring is told with the position and the zone of the meter, and with the lines of its fees
abbrev pub hiring_told : Meter → HiringFees → Happening
hiring_told m fees = happenings.Hired m.position m.zone fees.initial_line fees.minimum_line

-- a key that acts in an operating position is told by what it does to a trip there; of the state `behind` it a hiring
-- has the position and the zone
abbrev pub key_told : Setting → Key → Operating → (m behind : Meter) → List Happening
key_told s keys.Hire ForHire m behind = hiring_told behind (fees_of_hiring s.tariff (context_now s m)) ∷ []
key_told s keys.Hire Stopped m behind = happenings.HiredAgain ∷ []
key_told s keys.Stop Hired m behind = happenings.Stopped ∷ []
key_told s (keys.Position n) Hired m behind = happenings.Position n ∷ []
key_told s (keys.Zone n) Hired m behind = happenings.Zone n ∷ []
key_told s (keys.Extra n) Hired m behind = happenings.Extra n ∷ []
key_told s (keys.Extra n) Stopped m behind = happenings.Extra n ∷ []
key_told s key operating m behind = []

-- at a tick the key that waits has acted if the trip goes on behind the tick, and nothing was refused
abbrev pub latch_told : Setting → Option Key → Meter → Outcome → List Happening
latch_told s None m o = []
latch_told s (Some key) m o =
    if is_in_trip o.next.operating && is_empty (whys_in o.acts) then key_told s key m.operating m o.next else []

-- ---- the supply and the clock

-- the supply that comes to a meter in Off is told if a trip goes on
abbrev pub supply_told : (before behind : Operating) → List Happening
supply_told Off behind = if is_in_trip behind then happenings.Back ∷ [] else []
supply_told before behind = []

-- a drop of the supply amid a trip is told if the trip is still there behind it, as it is then held
abbrev pub drop_told : (before : Operating) → (behind : Option MeterTrip) → List Happening
drop_told before behind = if is_in_trip before && is_there behind then happenings.Lost ∷ [] else []

-- the reckoned second is that of the last reading or of the supply's coming, and one more for each ten ticks since
abbrev pub reckoned : Telling → Meter → ℕ
reckoned telling m = m.clock + telling.since / 10

-- a reading of the clock is told if it is two seconds or more away from the reckoned one
abbrev pub reading_told : (reckoned second : ℕ) → List Happening
reading_told reckoned second =
    if nat_le (reckoned + 2) second then happenings.ClockAhead (second - reckoned) ∷ []
    else (if nat_le (second + 2) reckoned then happenings.ClockBehind (reckoned - second) ∷ [] else [])

-- only a reading that is accepted amid a trip is told, which isn't before the last one
abbrev pub clock_told : Telling → (second : ℕ) → Meter → List Happening
clock_told telling second m =
    if is_in_trip m.operating && nat_le m.clock second then reading_told (reckoned telling m) second else []

-- ---- an event

-- what is told of an event itself, by its kind
abbrev pub event_told : Setting → Telling → Event → Meter → Outcome → List Happening
event_told s telling events.Tick m o = latch_told s m.latch m o
event_told s telling (events.Up second) m o = supply_told m.operating o.next.operating
event_told s telling events.Down m o = drop_told m.operating o.next.trip
event_told s telling (events.Clock second) m o = clock_told telling second m
event_told s telling event m o = []

-- what an event does to a trip that goes on is what it is told by, and what it is refused
abbrev pub happenings_of : Setting → Telling → Event → Meter → Outcome → List Happening
happenings_of s telling event m o = event_told s telling event m o ++ refusals_told o.next.operating (whys_in o.acts)

-- happenings are told as moments of a state of the meter, with its trip and its clock
abbrev pub moments_at : Setting → Meter → List Happening → List Moment
moments_at s m told = map (moment_of m.trip (stamp_at s m.clock)) told

-- a trip that is closed ends at the finish of its receipt, with its fare and its supplements
abbrev pub end_of : Option MeterTrip → Receipt → Moment
end_of trip receipt =
    moment_of trip receipt.finish (happenings.Ended receipt.kind receipt.fare receipt.supplements)

-- the moments of an event are that of its interval's line, those of what it does to a trip that goes on, the end of the
-- trip that it closes, and those of what it shows, in this order
abbrev pub moments_of : Setting → Telling → Event → Meter → Outcome → List Moment
moments_of s telling event m o =
    rate_told s event telling.line m
    ++ (moments_at s o.next (happenings_of s telling event m o)
    ++ (map (end_of (trip_at s event m)) (receipts_in o.acts)
    ++ moments_at s o.next (flat_map display_told (displays_in o.acts))))

-- ---- a drive

-- the ticks since the clock was read begin anew with a reading that is accepted, and as the supply comes to a meter in
-- Off; those that come in Off don't matter
abbrev pub since_behind : Event → Meter → (since : ℕ) → ℕ
since_behind events.Tick m since = since + 1
since_behind (events.Up second) m since = if is_off m.operating then 0 else since
since_behind (events.Clock second) m since = if is_in_trip m.operating && nat_lt second m.clock then since else 0
since_behind event m since = since

-- the line that charged last is that of the interval that a tick ends in Hired
abbrev pub line_in : Setting → Operating → Meter → (last : Option ℕ) → Option ℕ
line_in s Hired m last = Some (rate_line s m)
line_in s operating m last = last

-- other events leave it as it is
abbrev pub line_by : Setting → Event → Meter → (last : Option ℕ) → Option ℕ
line_by s events.Tick m last = line_in s m.operating m last
line_by s event m last = last

-- without a trip no line charged last
abbrev pub line_behind : (trip : Option MeterTrip) → (last : Option ℕ) → Option ℕ
line_behind None last = None
line_behind (Some trip) last = last

-- what a story goes by behind an event
abbrev pub told_behind : Setting → Event → Meter → Telling → Telling
told_behind s event m telling = record {
  since = since_behind event m telling.since;
  line = line_behind (step s event m).next.trip (line_by s event m telling.line);
}

-- the moments of events are those of each, and of the supply drop at the end
unfoldable pub moments_from : Setting → Telling → List Event → Meter → List Moment
moments_from s telling [] m = moments_of s telling events.Down m (ended s m)
moments_from s telling (event ∷ events) m =
    moments_of s telling event m (step s event m)
    ++ moments_from s (told_behind s event m telling) events (step s event m).next

-- before the first event no tick has come, and no line has charged
abbrev pub untold : Telling
untold = record { since = 0; line = None }

-- the moments of a drive are those of its events from the meter that is opened on a new store
abbrev pub moments_in : Setting → List Event → List Moment
moments_in s events = moments_from s untold events (opened s first_state)

-- ---- its hirings

-- the story of a hiring has how it ended, and its moments
pub record HiringStory : Type 0 where
  pub kind : Kind
  pub moments : List Moment

-- a value of the program stands for the story with the same parts
abbrev pub story_of : Story → HiringStory
story_of story = record { kind = story.kind; moments = story.moments.items }

-- how a trip ended that is closed by a happening, if it is by this one
abbrev pub kind_in : Happening → Option Kind
kind_in (happenings.Ended kind fare supplements) = Some kind
kind_in happening = None

-- behind its end a story is whole, and the next one has no moments yet; before it the story goes on
abbrev pub parted_at : (end : Option Kind) → (moments : List Moment) → (others : List Moment → List HiringStory)
    → List HiringStory
parted_at None moments others = others moments
parted_at (Some kind) moments others = record { kind = kind; moments = moments } ∷ others []

-- moments come to the stories that end among them, the first of which has some moments already; the moments behind
-- the last end are of a trip that isn't closed, and are of no story
unfoldable pub stories_from : (so_far : List Moment) → List Moment → List HiringStory
stories_from so_far [] = []
stories_from so_far (moment ∷ moments) =
    parted_at (kind_in moment.happening) (so_far ++ moment ∷ []) (λ begun. stories_from begun moments)

-- the stories of a drive are those of its moments, one for each hiring that it closes
abbrev pub stories_of : Setting → List Event → List HiringStory
stories_of s events = stories_from [] (moments_in s events)
