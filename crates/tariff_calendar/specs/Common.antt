-- Made by tools/make/imports: what several files of this crate bring in of its types and of crates below.
pub use Rattle.tariff_tree.specs.{Condition.{Condition}, Tree.{Line, Tree}, declared.context.Context.{Context}}
pub use Rattle.tariff_tree.specs.{Meaning.{at_hiring, choice_place, holds}, Writable.{IsFromTo, IsWritable, greatest}}
pub use Rattle.tariff_check.specs.{Cuts.{atom_cuts, cuts_of, with_each}, Parts.{has_holidays, holidays_of}}
pub use Rattle.tariff_check.specs.{Faults.{IsSound}, Sound.{HasSoundParts, IsGoodAtom}}
pub use Rattle.tariff_check.specs.declared.fault.Dimension.{Dimension, TheVariants.{Distance, Minute, MonthDay, Time}}
