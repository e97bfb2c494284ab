use Rattle.trip_fares.proofs.Charges.{fare_of_trip}
use Rattle.trip_fares.proofs.fare_laws.trips_are_charged_by_their_intervals.Goals as goal

pub returns : goal.returns
returns c = λ s tables durable events receipt is fits of.
    fare_of_trip s durable events receipt
    (λ x p. c.tables_charge_by_the_rate_in_force.ensures s tables x p is) fits of
