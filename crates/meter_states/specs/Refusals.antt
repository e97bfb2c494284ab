-- Rules: the one refusal that leaves something behind.
use Rattle.{taxi_units.specs.declared.event.Why.TheVariants.{TooFast}, meter_states.specs.Common.{Why}}

-- a reason is TooFast, with any number of pulses
abbrev pub IsTooFast : Why → Type 0
IsTooFast (TooFast n) = Unit {0}
IsTooFast why = ⊥
