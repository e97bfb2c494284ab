-- Made by tools/make/imports: what several files of this crate bring in of its types and of crates below.
pub use Rattle.tariff_tree.specs.Choices.{RateNumbers, choice_in, choices, conditions_of, initial_part, rate_part}
pub use Rattle.tariff_tree.specs.{Choices.{values_of}, Condition.{Condition}, Writable.{IsWritable}}
pub use Rattle.{tariff_tree.specs.Meaning.{rate_place}, tariff_check.specs.declared.fault.CheckFault.{CheckFault}}
pub use Rattle.tariff_tree.specs.Tree.{Entry, Line, Tree, initial, line_of, minimum, rate, tree_of, when_part}
pub use Rattle.tariff_check.specs.{Faults.{fault_at, fault_of, faults_of, first_some}, Lines.{atoms_in, first_line}}
pub use Rattle.tariff_check.specs.{Kinds.{rates_of}, Measure.{measure_of}, Parts.{step_of}}
pub use Rattle.tariff_check.specs.declared.fault.Dimension.TheVariants.{Distance, Minute, MonthDay, Time}
pub use Rattle.{call_ends.specs.Making.{IsMade}, near_commands.specs.declared.nearest.Measures.{Measures}}
pub use Rattle.call_ends.specs.{Tariffs.{bad_tariff}, declared.tariff.Refusal.TheVariants.{Syntax, TooLong}}
