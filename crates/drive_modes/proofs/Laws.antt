-- The lemmas that are the laws of the crate's public functions.
pub use Rattle.drive_modes.proofs.Crossover.{charge-above, charge-below, charge-greater}
pub use Rattle.drive_modes.proofs.Sums.{saved-any, saved-sum, shown-sum}
pub use Rattle.drive_modes.proofs.WholeMillimetres.{millimetres-most, millimetres-reached}
