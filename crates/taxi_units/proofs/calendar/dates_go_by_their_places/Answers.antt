use Rattle.taxi_units.proofs.Places.{dates_have_places, dates_in_order, places_have_dates}
use Rattle.taxi_units.proofs.calendar.dates_go_by_their_places.Goals as goal

pub returns : goal.returns
returns c = record { places = dates_have_places; beyond = places_have_dates; order = dates_in_order }
