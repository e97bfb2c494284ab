-- Rules: one event on the core, as `Core::step` and `Core::step_into` promise it.
use Rattle.std.specs.Prelude.{ℕ, ◌≡◌, ◌≢◌, All, List}
use Rattle.{taxi_units.specs.declared.event.Event.TheVariants.{Up}, meter_states.specs.Acts.{IsLawfulAct, KeepsRanges}}
use Rattle.meter_states.specs.Cache.{CachedCore}
use Rattle.meter_states.specs.Common.{Act, Durable, Event, IsDurable, Meter, Off, Seal, Setting, TableParts, step}
use Rattle.meter_states.specs.{Core.{Meets, Stands}, Lawful.{IsLawful, IsTimely}, Setting.{IsSettingOf}}

-- a core may step under tables and a seal if it is lawful, the tables were compiled with the seal's constant, the event
-- is timely, and it isn't an `Up` while the core is off, which is for `Core::resume`
pub record MayStep (tables : TableParts) (seal : Seal) (core : CachedCore) (event : Event) : Type 0 where
  pub lawful : IsLawful tables seal core
  pub constant : tables.constant ≡ seal.params.constant
  pub timely : IsTimely event
  pub supply : (second : ℕ) → core.state.operating ≡ Off → event ≢ Up second

-- a core takes an event, with acts, and is then another core, if that one is lawful; the acts are lawful, and what they
-- commit keeps the ranges of the store; and the new core and the acts meet what the event comes to in each state of the
-- meter for which the core stood
pub record Takes (tables : TableParts) (seal : Seal) (event : Event) (core : CachedCore) (acts : List Act)
    (new : CachedCore) : Type 0 where
  pub lawful : IsLawful tables seal new
  pub ranges : All (IsLawfulAct tables core.state.number) acts
  pub commits : (durable : Durable) → IsDurable durable → durable.number ≡ core.state.number
      → All (KeepsRanges durable) acts
  pub meets : (s : Setting) (m : Meter) → IsSettingOf s tables seal → Stands s core.state m
      → Meets s new.state acts (step s event m)
