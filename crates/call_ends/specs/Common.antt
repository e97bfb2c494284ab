-- Made by tools/make/imports: what several files of this crate bring in of its types and of crates below.
pub use Rattle.outside.specs.{Faults.{HasCause, Rose}, Reading.{LeavesOthers}, declared.printer.Printer.{Ghosts}}
pub use Rattle.{outside.specs.{PrintedText.{Begins}, Runs.{KeepsStore}}, tariff_tree.specs.Tree.{tree_of}}
pub use Rattle.tariff_check.specs.declared.fault.CheckFault.{CheckFault}
pub use Rattle.call_ends.specs.declared.{ending.Ended.{Ended}, tariff.Refusal.{Refusal}}
pub use Rattle.call_ends.specs.declared.ending.Ended.TheVariants.{BadTariff, BoardFault, Done, NoMemory, ReadFault}
pub use Rattle.call_ends.specs.declared.tariff.{Refusal.TheVariants.{Syntax, TooLong, Unsound}, TextFault.{TextFault}}
