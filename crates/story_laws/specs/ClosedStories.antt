-- Rules: how the story of a hiring is that of the trip and the receipt with which a drive closed it.
use Rattle.std.specs.{List.{filter_map}, Prelude.{if◌then◌else◌, map, nat_le, sum}}
use Rattle.std.specs.Prelude.{[], ℕ, ⊤, ◌++◌, ◌∷◌, ◌≡◌, ◌≤◌, All, List, None, Option, Some, flat_map, get_or}
use Rattle.{drive_modes.specs.Distance.{millimetres_of}, tariff_tree.specs.declared.context.Context.{Context}}
use Rattle.{tariff_check.specs.SoundTariff.{lines_of}, meter_model.specs.{Interval.{pulses_so_far}, Trip.{InHired}}}
use Rattle.{verify_bench.specs.Groups.{rate_place_of}, story_laws.specs.{Closings.{Closing}, Common.{ticks_so_far}}}
use Rattle.verify_bench.specs.declared.moment.Happening.TheVariants.{Ended, Hired, Rate, Shown}
use Rattle.story_laws.specs.Common.{Act, Display, Happening, HiringStory, Kind, Meter, MeterTrip, Moment, Part, Setting}
use Rattle.story_laws.specs.Common.{context_now, displays_in, fees_of_hiring, is_in_trip, kind_in, stamp_at, ticks_in}

-- ---- the end

-- the end of a story is told with the trip's ticks and pulses, at the finish, by the kind, the fare and the supplements
-- of the receipt
abbrev pub end_told : Closing → Moment
end_told c = record {
  ticks = ticks_so_far c.trip;
  pulses = pulses_so_far c.trip;
  at = c.receipt.finish;
  happening = Ended c.receipt.kind c.receipt.fare c.receipt.supplements;
}

-- a moment goes on if it is no end of a story
abbrev pub GoesOn : Happening → Type 0
GoesOn (Ended kind fare supplements) = ⊥
GoesOn happening = ⊤

-- a story ends with a receipt if it has its kind, its last moment is the end that is told of it, and no other moment is
-- an end
pub record EndsWith (c : Closing) (story : HiringStory) : Type 0 where
  pub kind : story.kind ≡ c.receipt.kind
  pub begun : List Moment
  pub ends : story.moments ≡ begun ++ end_told c ∷ []
  pub goes_on : All (λ (m : Moment). GoesOn m.happening) begun

-- ---- the displays

-- what a happening shows is a fare and supplements, if it is a display
abbrev pub amounts_in : Happening → Option (ℕ × ℕ)
amounts_in (Shown fare supplements) = Some (fare, supplements)
amounts_in happening = None

-- what moments show is what each display among them shows, in order
abbrev pub shown_at : List Moment → List (ℕ × ℕ)
shown_at moments = filter_map (λ (m : Moment). amounts_in m.happening) moments

-- a display shows its fare and its supplements in Hired and Stopped, and else none of a trip
abbrev pub amounts_of : Display → List (ℕ × ℕ)
amounts_of d = if is_in_trip d.operating then (d.fare, d.supplements) ∷ [] else []

-- what acts show in trips is the fare and the supplements of each display in Hired and Stopped, in order
abbrev pub shown_by : List Act → List (ℕ × ℕ)
shown_by acts = flat_map amounts_of (displays_in acts)

-- behind an end no moments are there yet, and else those so far
abbrev pub left_behind : (end : Option Kind) → List Moment → (others : List Moment → List Moment) → List Moment
left_behind None moments others = others moments
left_behind (Some kind) moments others = others []

-- the moments behind the last end are those of a trip that isn't closed
unfoldable pub left_from : (so_far : List Moment) → List Moment → List Moment
left_from so_far [] = so_far
left_from so_far (moment ∷ moments) =
    left_behind (kind_in moment.happening) (so_far ++ moment ∷ []) (λ begun. left_from begun moments)

-- ---- the beginning

-- a story begins with the hiring of its trip if its first moment is at the receipt's start, without ticks and pulses,
-- and tells the position and the zone of a meter that is for hire, and the lines of the fees that are in force in its
-- context; the receipt has these fees
pub record BeginsWith (s : Setting) (c : Closing) (story : HiringStory) : Type 0 where
  pub trip : MeterTrip
  pub there : c.trip ≡ Some trip
  pub m : Meter
  pub free : m.trip ≡ None
  pub others : List Moment
  pub begins : story.moments ≡ record {
    ticks = 0;
    pulses = 0;
    at = c.receipt.start;
    happening = Hired m.position m.zone (fees_of_hiring s.tariff (context_now s m)).initial_line
        (fees_of_hiring s.tariff (context_now s m)).minimum_line;
  } ∷ others
  pub start : c.receipt.start ≡ stamp_at s m.clock
  pub initial : c.receipt.initial ≡ (fees_of_hiring s.tariff (context_now s m)).amounts.amount
  pub minimum : c.receipt.minimum ≡ (fees_of_hiring s.tariff (context_now s m)).amounts.minimum
  pub distance : c.receipt.hired_mm ≡ millimetres_of s.constant (pulses_so_far c.trip)

-- ---- the intervals

-- the line that charges an interval in a context is that of the rate that holds first there
abbrev pub line_of_context : Setting → Context → ℕ
line_of_context s x = get_or (lines_of s.tariff.rates) (rate_place_of s x) 0

-- the line told behind a happening is that of a rate, and otherwise stays as it was
abbrev pub line_behind : (last : Option ℕ) → Happening → Option ℕ
line_behind last (Rate line) = Some line
line_behind last happening = last

-- the line told of the interval that begins with these ticks is that of the last moment of a rate with at most as many
abbrev pub line_told : (ticks : ℕ) → (last : Option ℕ) → List Moment → Option ℕ
line_told ticks last [] = last
line_told ticks last (moment ∷ moments) =
    line_told ticks (if nat_le moment.ticks ticks then line_behind last moment.happening else last) moments

-- the lines of a trip are told if each interval in Hired was charged by the line that is told of it
pub record HasLines (s : Setting) (c : Closing) (story : HiringStory) : Type 0 where
  pub trip : MeterTrip
  pub there : c.trip ≡ Some trip
  pub lines : (before after : List Part) (pulses : ℕ) (x : Context) → trip.parts ≡ before ++ InHired pulses x ∷ after
      → line_told (sum (map ticks_in before)) None story.moments ≡ Some (line_of_context s x)

-- ---- the order

-- moments rise from ticks and pulses if none has fewer than the one before it, nor the first fewer than these
abbrev pub Rise : (ticks pulses : ℕ) → List Moment → Type 0
Rise ticks pulses [] = Unit {0}
Rise ticks pulses (moment ∷ moments) =
    (ticks ≤ moment.ticks) × (pulses ≤ moment.pulses) × Rise moment.ticks moment.pulses moments

-- a story rises if its moments rise from no tick and no pulse on
abbrev pub Rises : Closing → HiringStory → Type 0
Rises c story = Rise 0 0 story.moments
