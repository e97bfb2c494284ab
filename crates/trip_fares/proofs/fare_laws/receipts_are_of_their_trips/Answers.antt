use Rattle.trip_fares.proofs.Receipts.{receipts_of_trips}
use Rattle.trip_fares.proofs.fare_laws.receipts_are_of_their_trips.Goals as goal

pub returns : goal.returns
returns c = receipts_of_trips
