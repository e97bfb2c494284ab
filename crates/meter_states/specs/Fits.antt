-- Rules: which saved trips fit the tables.
use Rattle.std.specs.Prelude.{◌*◌}
use Rattle.taxi_units.specs.Test.{◌&◌, Test, at_most, less, same, stated, within}
use Rattle.meter_model.specs.Supplements.{allowed_test}
use Rattle.meter_states.specs.{Common.{TableParts, Trip, amounts_from, largest_amount}, Supplements.{supplement_in}}

-- the tests of a saved trip under tables: its position and zone are among the tariff's, what was charged fits the
-- display step and the cover, and its supplements are ones that the tariff allows, with their amounts
abbrev pub fit_tests : TableParts → Trip → Test
fit_tests tables trip =
    within 1 trip.position tables.positions
    & within 1 trip.zone tables.zones
    & less trip.meterage.rest (tables.step * tables.measure)
    & at_most trip.meterage.cover_left (largest_amount * tables.measure)
    & allowed_test (supplement_in tables) 1 trip.extras
    & same trip.extras_sum (amounts_from (supplement_in tables) 1 trip.extras)

-- a saved trip fits the tables if what each of the tests says holds
pub record Fits (tables : TableParts) (trip : Trip) : Type 0 where
  pub all : (fit_tests tables trip).Fact

-- the test whether a saved trip fits the tables
abbrev pub fits_test : TableParts → Trip → Test
fits_test tables trip = stated (Fits tables trip) (fit_tests tables trip) (λ all. record { all = all }) (λ is. is.all)
