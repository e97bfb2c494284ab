-- Made by tools/make/imports: what several files of this crate bring in of its types and of crates below.
pub use Rattle.drive_modes.specs.{Constant.{greatest_constant, least_constant}, declared.charges.Weights.{Weights}}
pub use Rattle.{tariff_tree.specs.Tree.{Tree}, tariff_check.specs.SoundTariff.{own_values, sound_of}}
pub use Rattle.{tariff_check.specs.Kinds.{IsSoundRate, RateNumbers}, call_ends.specs.Tariffs.{tariff_in}}
