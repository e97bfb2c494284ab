-- Rules: the trip of a receipt of a run, from before its first interval to the event that closes it, and what it costs.
use Rattle.std.specs.{List.{Contains, flat_map}, Prelude.{[], ℕ, ◌++◌, ◌∷◌, ◌≡◌, List, Some}}
use Rattle.{taxi_units.specs.declared.event.Event.TheVariants.{Down}, drive_modes.specs.Stretches.{Interval}}
use Rattle.{drive_modes.specs.Fare.{steps_above}, tariff_compile.specs.Tables.{weights_in_force}}
use Rattle.meter_model.specs.{Setting.{rounding_of}, Trip.{InHired, InStopped, Rest, fare_by_fees, opening_of}}
use Rattle.trip_fares.specs.Common.{Durable, Event, Lasts, Meter, MeterTrip, Part, Receipt, Setting, opened, parts_over}
use Rattle.trip_fares.specs.Common.{run, step}
use Rattle.meter_model.specs.declared.act.Act.TheVariants as acts

-- a part that ended in Hired is an interval with its pulses, and with the weights that are in force in the context of
-- its beginning; another part is none
abbrev pub interval_in : Setting → Part → List Interval
interval_in s (InHired p x) = record { weights = weights_in_force s.tariff s.constant x; pulses = p } ∷ []
interval_in s (InStopped p) = []
interval_in s (Rest p) = []

-- the meter of a run after events is the one that they lead to from what the store has
abbrev pub meter_in : Setting → Durable → List Event → Meter
meter_in s durable events = (run s events (opened s durable)).next

-- a receipt is of a trip of a run, with the drop of the supply at its end, if behind some events the meter is on the
-- trip, which has no part yet, since it was just hired or was held before; it is on a trip before each further event,
-- up to the one that prints the receipt
pub record IsOfTrip (s : Setting) (durable : Durable) (events : List Event) (receipt : Receipt) : Type 0 where
  pub before : List Event
  pub amid : List Event
  pub closing : Event
  pub after : List Event
  pub split : events ++ Down ∷ [] ≡ before ++ (amid ++ closing ∷ after)
  pub trip : MeterTrip
  pub has : (meter_in s durable before).trip ≡ Some trip
  pub begins : trip.parts ≡ []
  pub lasts : Lasts s (amid ++ closing ∷ []) (meter_in s durable before)
  pub printed : Contains (step s closing (run s amid (meter_in s durable before)).next).acts (acts.Receipt receipt)

-- the intervals of the trip are those in Hired that its events end, in order
abbrev pub intervals_of : (s : Setting) (durable : Durable) (events : List Event) (receipt : Receipt)
    → IsOfTrip s durable events receipt → List Interval
intervals_of s durable events receipt of =
    flat_map (interval_in s) (parts_over s (of.amid ++ of.closing ∷ []) (meter_in s durable of.before))

-- the fare of a trip after charges with the sum `charged`, above what came before, is the one by its fees after the
-- display steps of these
abbrev pub fare_after : Setting → MeterTrip → (charged : ℕ) → ℕ
fare_after s t charged =
    fare_by_fees t.fees s.tariff.step.0 (steps_above (rounding_of s) (opening_of s t) charged)
