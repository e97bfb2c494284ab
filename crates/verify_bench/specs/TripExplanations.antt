-- Rules: why the fare of each hiring of a drive is what it is, by the whole list of its intervals.
use Rattle.{std.specs.List.{range_with_len}, meter_model.specs.Trip.{charges_of}}
use Rattle.std.specs.Prelude.{[], ℕ, ◌++◌, ◌==◌, ◌∷◌, List, None, Option, Some, filter, flat_map, if◌then◌else◌, map}
use Rattle.verify_bench.specs.Common.{Act, Context, Event, Explained, ForHire, Group, Hire, HiringFees, Key, Meter}
use Rattle.verify_bench.specs.Common.{MeterTrip, Operating, Part, Receipt, Setting, SoundTariff, Sums, Taken, amount_in}
use Rattle.verify_bench.specs.Common.{context_now, ended, first_state, interval_counted, interval_left, opened}
use Rattle.verify_bench.specs.Common.{pulses_so_far, step, supplement_numbered, ticks_so_far, times}
use Rattle.verify_bench.specs.Fees.{fees_of_hiring}
use Rattle.verify_bench.specs.{Groups.{groups_of, is_in_stopped, is_rest, sums_of}, Receipts.{receipts_in}}
use Rattle.taxi_units.specs.declared.event.Event.TheVariants as events

-- an explanation of a hiring has its receipt, its fees with their lines, the sums of its whole trip, the groups of its
-- intervals in Hired, the sums of those in Stopped, the pulses of unfinished ones, and its supplements
pub record Explanation : Type 0 where
  pub receipt : Receipt
  pub fees : HiringFees
  pub whole : Sums
  pub groups : List Group
  pub stopped : Sums
  pub dropped : ℕ
  pub taken : List Taken

-- a value of the program stands for the explanation with the same parts
abbrev pub explanation_of : Explained → Explanation
explanation_of e = record {
  receipt = e.receipt;
  fees = e.fees;
  whole = e.whole;
  groups = e.groups.items;
  stopped = e.stopped;
  dropped = e.dropped;
  taken = e.taken.items;
}

-- a supplement is taken if its number stands in a list, with its count there and its amount
abbrev pub taken_if : SoundTariff → (numbers : List ℕ) → (number : ℕ) → List Taken
taken_if tariff numbers number =
    if times number numbers == 0 then []
    else record {
      number = number;
      count = times number numbers;
      amount = amount_in (supplement_numbered tariff.supplements number);
    } ∷ []

-- the supplements that are taken in a list are those of the numbers 1 to 16, in order
abbrev pub taken_of : SoundTariff → (numbers : List ℕ) → List Taken
taken_of tariff numbers = flat_map (taken_if tariff numbers) (range_with_len 1 16)

-- the parts of a trip so far are its own, and none without a trip
abbrev pub parts_so_far : Option MeterTrip → List Part
parts_so_far None = []
parts_so_far (Some t) = t.parts

-- the supplements of a trip so far are its own, and none without a trip
abbrev pub extras_so_far : Option MeterTrip → List ℕ
extras_so_far None = []
extras_so_far (Some t) = t.extras

-- the charges of a trip so far are its own, and 0 without a trip
abbrev pub charges_so_far : Setting → Option MeterTrip → ℕ
charges_so_far s None = 0
charges_so_far s (Some t) = charges_of s t

-- the whole of a trip so far is its pulses, its ticks and its charges
abbrev pub whole_of : Setting → Option MeterTrip → Sums
whole_of s trip =
    record { pulses = pulses_so_far trip; ticks = ticks_so_far trip; charge = charges_so_far s trip }

-- the explanation of a receipt is by the context in which the trip was hired, and by all the trip's parts
abbrev pub explanation : Setting → (hired : Context) → Option MeterTrip → Receipt → Explanation
explanation s hired trip receipt = record {
  receipt = receipt;
  fees = fees_of_hiring s.tariff hired;
  whole = whole_of s trip;
  groups = groups_of s (parts_so_far trip);
  stopped = sums_of s (filter is_in_stopped (parts_so_far trip));
  dropped = (sums_of s (filter is_rest (parts_so_far trip))).pulses;
  taken = taken_of s.tariff (extras_so_far trip);
}

-- each receipt among acts is explained by the trip
abbrev pub explanations_in : Setting → (hired : Context) → Option MeterTrip → List Act → List Explanation
explanations_in s hired trip acts = map (explanation s hired trip) (receipts_in acts)

-- a trip that an event closes is the one that was there before; if the event is a tick, the interval that it ends
-- belongs to it, and if it is a drop of the supply, the interval that it leaves unfinished
abbrev pub trip_at : Setting → Event → Meter → Option MeterTrip
trip_at s events.Tick m = (interval_counted s m).next.trip
trip_at s events.Down m = (interval_left m).next.trip
trip_at s (events.Up second) m = m.trip
trip_at s (events.Pulses pulses) m = m.trip
trip_at s (events.Clock second) m = m.trip
trip_at s (events.Key key) m = m.trip

-- as the key Hire acts for hire, a trip is hired in the context of now; otherwise the last hiring's context stays
abbrev pub hired_by : Option Key → Operating → (now hired : Context) → Context
hired_by (Some Hire) ForHire now hired = now
hired_by latch operating now hired = hired

-- the key that waits acts at a tick, in the operating position of the meter
abbrev pub hired_at : Setting → Event → Meter → (hired : Context) → Context
hired_at s events.Tick m hired = hired_by m.latch m.operating (context_now s m) hired
hired_at s event m hired = hired

-- a list of events comes to the explanations of its receipts, event by event, and of the supply drop at its end
unfoldable pub explanations_from : Setting → List Event → Meter → (hired : Context) → List Explanation
explanations_from s [] m hired = explanations_in s hired (trip_at s events.Down m) (ended s m).acts
explanations_from s (event ∷ events) m hired =
    explanations_in s hired (trip_at s event m) (step s event m).acts
    ++ explanations_from s events (step s event m).next (hired_at s event m hired)

-- a drive comes to the explanations of its events from the meter that is opened on a new store, which has hired no trip
-- yet
abbrev pub explanations_of : Setting → List Event → List Explanation
explanations_of s events =
    explanations_from s events (opened s first_state) (context_now s (opened s first_state))
