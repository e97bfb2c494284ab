-- Made by tools/make/imports: what several files of this crate bring in of its types and of crates below.
pub use Rattle.taxi_units.specs.{Digits.{IsNumberIn}, declared.event.Key.TheVariants.{Extra, Position, Zone}}
pub use Rattle.taxi_units.specs.{Number.{number_in}, Time.{first_second, last_second}}
pub use Rattle.taxi_units.specs.declared.event.{Event.{Event, TheVariants.{Clock, Down, Pulses, Tick, Up}}, Key.{Key}}
