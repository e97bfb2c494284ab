-- Made by tools/make/imports: what several files of this crate bring in of its types and of crates below.
pub use Rattle.drive_modes.specs.declared.charges.{Mode.{Mode}, Weights.{Weights}}
pub use Rattle.drive_modes.specs.declared.{charges.Mode.TheVariants.{Double, Single}, meterage.Rounding.{Rounding}}
pub use Rattle.drive_modes.specs.declared.meterage.{Meterage.{Meterage}, Rounding.TheVariants.{Ahead, Behind}}
