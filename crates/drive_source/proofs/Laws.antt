-- The lemmas that the crates above may cite.
use Rattle.{std.proofs.Common.{[], arith, refl}, drive_text.specs.Ending.{IsGoing}}
pub use Rattle.drive_source.proofs.SourceSteps.{not_some}

-- a drive goes on of which nothing was taken
pub begins_going : IsGoing []
begins_going = record { good = refl; few = omega arith }
