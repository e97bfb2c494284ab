use Rattle.trip_fares.specs.Common.{Single}
use Rattle.trip_fares.{specs.RunTrips.{intervals_of}, proofs.Charges.{Bounds, fare_least, fare_most, modulus_some}}
use Rattle.trip_fares.proofs.fare_laws.even_trips_are_shown_nearly.Goals as goal

pub returns : goal.returns
returns c =
    let by : Bounds = record {
      sum_is = λ stretches intervals are. c.even_fares_are_shown_nearly.ensures.sum Single stretches intervals are;
      least = c.even_fares_are_shown_nearly.ensures.least;
      most = c.even_fares_are_shown_nearly.ensures.most;
      rises = c.fares_rise_with_their_charge.ensures;
    } in
    record {
      least = λ s tables durable events receipt stretches is fits single of are.
          fare_least by s of.trip receipt.fare stretches (intervals_of s durable events receipt of)
          (modulus_some s tables is (c.tables_are_fit.ensures tables (is.tree, is.compiled))) single are
          (c.trips_are_charged_by_their_intervals.ensures s tables durable events receipt is fits of);
      most = λ s tables durable events receipt stretches is fits single of are even.
          fare_most by s of.trip receipt.fare stretches (intervals_of s durable events receipt of)
          (modulus_some s tables is (c.tables_are_fit.ensures tables (is.tree, is.compiled))) single are even
          (c.trips_are_charged_by_their_intervals.ensures s tables durable events receipt is fits of);
    }
