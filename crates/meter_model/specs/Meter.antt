-- Rules: the states of the meter, and what a part of an event comes to, which is the next state and what the meter
-- does.
use Rattle.std.specs.Prelude.{[], ℕ, ◌++◌, ◌∷◌, List, Option}
use Rattle.{taxi_units.specs.declared.event.Why.{Why}, totals_record.specs.declared.entry.Entry.{Entry}}
use Rattle.{totals_record.specs.States.{after}, meter_model.specs.declared.act.Act.TheVariants.{Enter, Hold}}
use Rattle.meter_model.specs.{Common.{Act, Display, Durable, Key, Operating, Refuse, Trip}, Trip.{MeterTrip}}
use Rattle.taxi_units.specs.declared.receipt.Receipt as receipts
use Rattle.totals_record.specs.declared.change.Change.TheVariants as changes
use Rattle.meter_model.specs.declared.act.Act.TheVariants as acts

-- a state of the meter has its operating position, its clock, its running interval, the key that waits, the position
-- and the zone, its roaming pulses, what was shown last, its trip, and what the store has
pub record Meter : Type 0 where
  pub operating : Operating
  -- the last accepted reading of the clock, and the second at which the running interval began
  pub clock : ℕ
  pub began : ℕ
  -- the pulses that the running interval took, burst by burst
  pub taken : List ℕ
  -- the key that waits for the end of the interval
  pub latch : Option Key
  -- the tariff position and the zone
  pub position : ℕ
  pub zone : ℕ
  -- the pulses of the intervals for hire since the last entry
  pub roaming : List ℕ
  -- what was shown last
  pub shown : Option Display
  -- the trip, which a supply drop doesn't end
  pub trip : Option MeterTrip
  -- what the store has after the commits so far
  pub durable : Durable

-- an event, or a part of one, comes to the next state and the acts of the meter, in order
pub record Outcome : Type 0 where
  pub next : Meter
  pub acts : List Act

-- an outcome, and then another from its state, come to the last state and the acts of both, in order
infixl 10 ◌>>=◌
abbrev pub ◌>>=◌ : Outcome → (Meter → Outcome) → Outcome
o >>= f = record { next = (f o.next).next; acts = o.acts ++ (f o.next).acts }

-- a meter is quiet if it does nothing and stays as it is
abbrev pub quiet : Meter → Outcome
quiet m = record { next = m; acts = [] }

-- a meter refuses something and stays as it is
abbrev pub refused : Why → Meter → Outcome
refused why m = record { next = m; acts = Refuse why ∷ [] }

-- a meter commits an entry, and its store has the state after it
abbrev pub entered : Entry → Meter → Outcome
entered entry m =
    record { next = record m { durable = after m.durable (changes.Enter entry) }; acts = Enter entry ∷ [] }

-- a meter commits the saved form of a trip, and its store has the state after it
abbrev pub held : Trip → Meter → Outcome
held trip m = record { next = record m { durable = after m.durable (changes.Hold trip) }; acts = Hold trip ∷ [] }

-- a meter prints a receipt and stays as it is
abbrev pub printed : receipts.Receipt → Meter → Outcome
printed receipt m = record { next = m; acts = acts.Receipt receipt ∷ [] }
