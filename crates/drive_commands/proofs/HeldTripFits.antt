-- The test whether a held trip fits the tables decides it.
use Rattle.{std.specs.Option.{ForSome}, taxi_units.specs.Test.{if_some}, totals_record.specs.declared.trip.Trip.{Trip}}
use Rattle.std.proofs.{Common.{Decides, IfSome, None, Option, Some, refl, subst}, lemmas.Bool.Decides.{Decides-like}}
use Rattle.drive_commands.specs.{Common.{Fits, TableParts, fits_test}, Run.{does_hold_fit}}

pub Decides-hold : (tables : TableParts) (hold : Option Trip)
    → Decides (does_hold_fit tables hold) (ForSome hold (Fits tables))
Decides-hold tables hold = Decides-like (does_hold_fit tables hold)
    (λ fits trip is. subst (λ (h : Option Trip). IfSome h (Fits tables)) is fits) (back hold)
    (if_some (fits_test tables) hold).decides
  where
    back : (hold : Option Trip) → ForSome hold (Fits tables) → IfSome hold (Fits tables)
    back None fits = tt
    back (Some trip) fits = fits trip refl
