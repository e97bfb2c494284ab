-- Rules: the trips that a drive closes, each with its receipt.
use Rattle.std.specs.Prelude.{[], ◌++◌, ◌∷◌, List, Option, map}
use Rattle.taxi_units.specs.declared.event.Event.TheVariants.{Down}
use Rattle.story_laws.specs.Common.{Act, Event, Meter, MeterTrip, Receipt, Setting, ended, first_state, opened}
use Rattle.story_laws.specs.Common.{receipts_in, step, trip_at}

-- a trip is closed with a receipt; a trip is there, as the law stories_begin_with_their_hirings says
pub record Closing : Type 0 where
  pub trip : Option MeterTrip
  pub receipt : Receipt

-- each receipt among acts closes the trip
abbrev pub closings_in : Option MeterTrip → List Act → List Closing
closings_in trip acts = map (λ (r : Receipt). record { trip = trip; receipt = r }) (receipts_in acts)

-- events close the trips of each of them, and of the supply drop at the end
unfoldable pub closings_from : Setting → List Event → Meter → List Closing
closings_from s [] m = closings_in (trip_at s Down m) (ended s m).acts
closings_from s (event ∷ events) m =
    closings_in (trip_at s event m) (step s event m).acts ++ closings_from s events (step s event m).next

-- a drive closes the trips of its events from the meter that is opened on a new store
abbrev pub closings_of : Setting → List Event → List Closing
closings_of s events = closings_from s events (opened s first_state)
