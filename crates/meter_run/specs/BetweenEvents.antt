-- Rules: what the store holds of the meter's trip, between two events.
use Rattle.std.specs.Prelude.{◌≡◌}
use Rattle.meter_run.specs.Common.{CoreData, Durable, Meter, Setting, Stands}
pub use Rattle.meter_model.specs.KeptTrip.{IsTripKept, IsTripKeptIn}

-- a core and the durable state of the store stand for a state of the meter if the core does, the durable state is the
-- state's, and the meter's trip is kept
pub record StandsWith (s : Setting) (state : CoreData) (has : Durable) (m : Meter) : Type 0 where
  pub core : Stands s state m
  pub durable : has ≡ m.durable
  pub kept : IsTripKept s m
