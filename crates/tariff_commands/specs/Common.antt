-- Made by tools/make/imports: what several files of this crate bring in of its types and of crates below.
pub use Rattle.{tariff_tree.specs.Tree.{Tree, tree_of}, tariff_syntax.specs.Printed.{printed_form}}
pub use Rattle.tariff_check.specs.{AllFaults.{all_faults}, Faults.{fault_of}, declared.fault.CheckFault.{CheckFault}}
pub use Rattle.{tariff_check.specs.SoundTariff.{sound_of}, tariff_compile.specs.Rows.{row_count, row_text, rows_text}}
pub use Rattle.call_ends.specs.{Answer.{Answer, shows, shows_line}, Tariffs.{HasTariff, bad_tariff, tariff_in}}
pub use Rattle.call_ends.specs.{Carried.{Carries}, Course.{Command}}
pub use Rattle.call_ends.specs.{Ending.{ended_for}, TextCommands.{word_command}, declared.tariff.Refusal.{Refusal}}
pub use Rattle.call_ends.specs.{LastLine.{bad_tariff_line, sound_line}, declared.ending.Ended.TheVariants.{NoMemory}}
pub use Rattle.call_ends.specs.{Making.{IsMade, Makes, answer_with, end_made, text_made}, declared.ending.Ended.{Ended}}
pub use Rattle.call_ends.specs.declared.tariff.{Refusal.TheVariants.{Syntax, TooLong, Unsound}, TextFault.{TextFault}}
