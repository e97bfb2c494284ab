use Rattle.verify_bench.proofs.{DriveTrips.{explained_are_of_trips}, Explanations.{receipts_explained}}
use Rattle.verify_bench.proofs.TripFees.{all_have_fees}
use Rattle.verify_bench.proofs.whole_laws.explanations_have_the_receipts.Goals as goal

pub returns : goal.returns
returns c = record { receipts = receipts_explained; trips = explained_are_of_trips; fees = all_have_fees }
