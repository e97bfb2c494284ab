-- Made by tools/make/imports: what several files of this crate bring in of its types and of crates below.
pub use Rattle.{taxi_units.specs.Time.{last_tick}, interval_clock.specs.Calendar.{date_place, weekday_of}}
pub use Rattle.{tariff_tree.specs.Tree.{Tree, tree_of}, tariff_check.specs.DisplayStep.{display_step}}
pub use Rattle.tariff_tree.specs.{Writable.{IsFromTo, IsWritable}, declared.context.Context.{Context}}
pub use Rattle.{tariff_check.specs.Cuts.{with_each}, tariff_calendar.specs.Lists.{count_at_most, lists_of}}
pub use Rattle.tariff_check.specs.Parts.{RateNumbers, positions_of, rates_of, supplement_of, zones_of}
pub use Rattle.tariff_check.specs.declared.choice.ChoiceKind.{ChoiceKind, TheVariants.{Initial, Minimum, Rate}}
pub use Rattle.tariff_compile.specs.{Cells.{IsBefore}, Tables.{IsInRangeFor, TableParts, fees_in, lines_in, tables_of}}
pub use Rattle.tariff_compile.specs.declared.cells.CellLines.{CellLines}
pub use Rattle.tariff_compare.specs.declared.{day.Day.{Day}, meter_context.MeterContext.{MeterContext}}
pub use Rattle.tariff_compare.specs.declared.difference.Difference.{Difference, TheVariants.{Supplement, Zones}}
pub use Rattle.tariff_compare.specs.declared.difference.Difference.TheVariants.{Decimals, In, Positions, Rounded, Step}
pub use Rattle.tariff_compare.specs.declared.question.Question.{Question, TheVariants.{Counts, Differs}}
