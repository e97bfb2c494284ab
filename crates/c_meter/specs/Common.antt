-- Made by tools/make/imports: what several files of this crate bring in of its types and of crates below.
pub use Rattle.{drive_text.specs.Ending.{Whole, drive_end}, tariff_tree.specs.Tree.{tree_of}}
pub use Rattle.{tariff_syntax.specs.Reads.{Reads}, tariff_check.specs.Faults.{IsSound}}
pub use Rattle.{meter_run.specs.Texts.{drive_shown}, c_meter.specs.declared.making.Stop.{Stop, TheVariants.{NoMemory}}}
