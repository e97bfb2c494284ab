-- Rules: a drive that leads to a context of a meter.
use Rattle.std.specs.Prelude.{[], ℕ, ℤ, ◌%◌, ◌*◌, ◌++◌, ◌/◌, ◌∷◌, ◌≡◌, List, Some, replicate, suc, zero}
use Rattle.{interval_clock.specs.Offsets.{IsOffset}, drive_text.specs.Ending.{Whole, drive_end}}
use Rattle.meter_model.specs.{Run.{meter_after}, Setting.{under_offset}, Trip.{fees_of}}
use Rattle.same_tariffs.specs.Common.{Down, Event, Hire, Hired, Meter, MeterContext, MeterTrip, Mode, Position, Pulses}
use Rattle.same_tariffs.specs.Common.{Setting, Tick, Tree, Up, Zone, context_at, context_of, drive_of, events_of}
use Rattle.same_tariffs.specs.{Common.{initial_by, unit_of}, Contexts.{without_trip}}
use Rattle.taxi_units.specs.declared.event.Event.TheVariants as events

-- pulses come without ticks as the supply drops before the end of their interval and comes again at the same second
abbrev pub drop : (second pulses : ℕ) → List Event
drop second zero = []
drop second (suc pulses) = Pulses (suc pulses) ∷ Down ∷ Up second ∷ []

-- many drops have 2,000 pulses each
abbrev pub drops : (second many : ℕ) → List Event
drops second zero = []
drops second (suc many) = Pulses 2000 ∷ Down ∷ Up second ∷ drops second many

-- a hiring at a second, a position and a zone begins as the supply comes, both are set, and the key Hire acts
abbrev pub hire : (second position zone : ℕ) → List Event
hire second position zone =
    Up second ∷ events.Key (Position position) ∷ Tick ∷ events.Key (Zone zone) ∷ Tick ∷ events.Key Hire ∷ Tick ∷ []

-- a list of events leads to a context of a meter, at a second of its day and minute, by a hiring, drops for all of its
-- pulses, and then its ticks
abbrev pub events_to : (second : ℕ) → MeterContext → List Event
events_to second c =
    hire second c.position c.zone
    ++ (drops second (c.pulses / 2000) ++ (drop second (c.pulses % 2000) ++ replicate c.ticks Tick))

-- a meter is at the beginning of an interval in Hired in a context of a meter if no pulse of that interval has come
-- yet, and the tariff is asked in that context
pub record BeginsIn (t : Tree) (s : Setting) (c : MeterContext) (m : Meter) : Type 0 where
  pub hired : m.operating ≡ Hired
  pub begins : m.taken ≡ []
  pub context : context_of s m ≡ context_at t s.constant c

-- a meter has a trip as if hired in a context of a meter if it has the fees and the cover with which a hiring there
-- begins; where it was hired isn't said
pub record WasHiredIn (t : Tree) (s : Setting) (c : MeterContext) (m : Meter) : Type 0 where
  pub trip : MeterTrip
  pub has : m.trip ≡ Some trip
  pub fees : trip.fees ≡ fees_of (initial_by t (context_at t s.constant c))
  pub cover : trip.opening.cover ≡ (initial_by t (context_at t s.constant c)).covers * unit_of s

-- a context of a meter is reached under a tariff, a constant, a mode and a hold if under some offset of at most 14
-- hours a drive leads to an interval in it, of a trip with the fees and the cover of a hiring in the same context
-- without ticks and pulses; the drive ends whole, so within 2^40 bytes, and has a line for each of its events
pub record IsReached (t : Tree) (k : ℕ) (mode : Mode) (hold : ℕ) (c : MeterContext) : Type 0 where
  pub offset : ℤ
  pub drive : List ℕ
  pub offset_in : IsOffset offset
  pub lines : drive ≡ drive_of (events_of drive)
  pub ends : drive_end drive ≡ Whole
  pub begins : BeginsIn t (under_offset t k mode hold offset) c
      (meter_after (under_offset t k mode hold offset) (events_of drive))
  pub hired : WasHiredIn t (under_offset t k mode hold offset) (without_trip c)
      (meter_after (under_offset t k mode hold offset) (events_of drive))
