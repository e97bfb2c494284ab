-- Made by tools/make/imports: what several files of this crate bring in of its types and of crates below.
pub use Rattle.taxi_units.specs.{Calendar.{is_date}, Money.{largest_amount, largest_display_step}, Reading.{Gives}}
pub use Rattle.drive_modes.specs.declared.meterage.Rounding.{Rounding}
pub use Rattle.tariff_tree.specs.{Choices.{choices, conditions_of, values_of}, declared.tariff.TariffLine.{TariffLine}}
pub use Rattle.tariff_tree.specs.{Condition.{Condition, condition_of}, Writable.{IsFromTo, IsWritable, IsWritableEntry}}
pub use Rattle.tariff_tree.specs.Meaning.{at_hiring, choice_place, holds_if, initial_place, minimum_place, rate_place}
pub use Rattle.tariff_tree.specs.Tree.{Entry, Line, Tree, entry_of, holiday, initial, line_of, minimum, positions, rate}
pub use Rattle.tariff_tree.specs.{Tree.{step, supplement, tree_of, when_part, zones}, declared.tariff.Tariff.{Tariff}}
pub use Rattle.tariff_tree.specs.declared.context.Context.{Context}
pub use Rattle.tariff_check.specs.declared.{choice.{Choice.{Choice}, Choices.{Choices}}, resolving.Parts.{Parts}}
pub use Rattle.tariff_check.specs.declared.choice.ChoiceKind.{ChoiceKind, TheVariants.{Initial, Minimum, Rate}}
pub use Rattle.tariff_check.specs.declared.{choice.ChoiceLine.{ChoiceLine}, values.Supplement.{Supplement}}
pub use Rattle.tariff_check.specs.declared.fault.CheckFault.{CheckFault, TheVariants.{AmountTooBig, BadDate, Duplicate}}
pub use Rattle.tariff_check.specs.declared.fault.CheckFault.TheVariants.{LineAfterDefault, MeasureZero, NoCommonMeasure}
pub use Rattle.tariff_check.specs.declared.fault.CheckFault.TheVariants.{NoDefaultInitial, NoDefaultRate, NoMemory}
pub use Rattle.tariff_check.specs.declared.fault.CheckFault.TheVariants.{NoStep, StepZero, TooManyCells, TooManyCuts}
pub use Rattle.tariff_check.specs.declared.fault.CheckFault.TheVariants.{TooManyLines, UnknownNumber}
pub use Rattle.tariff_check.specs.declared.fault.Dimension.{Dimension, TheVariants.{Distance, Minute, MonthDay, Time}}
