-- Made by tools/make/imports: what several files of this crate bring in of its types and of crates below.
pub use Rattle.{taxi_units.specs.{Digits.{AreDigitsOf}, Weekdays.{day_name}}, tariff_tree.specs.Part.{Part}}
pub use Rattle.taxi_units.specs.{Number.{money_text, padded_text}, Reading.{◌>>=◌, Gives, GivesSame}}
pub use Rattle.drive_modes.specs.declared.meterage.Rounding.{Rounding, TheVariants.{Ahead, Behind}}
pub use Rattle.tariff_tree.specs.Condition.{Condition, after_distance, after_time, and, condition_of, date, day}
pub use Rattle.tariff_tree.specs.{Condition.{holiday, not, or, position, time, zone}, declared.tariff.Tariff.{Tariff}}
pub use Rattle.tariff_tree.specs.Tree.{Entry, Line, Tree, initial, line_of, minimum, parts_of, positions, rate, step}
pub use Rattle.tariff_tree.specs.{Tree.{supplement, tree_of, word_of, zones}, Writable.{IsWritable, IsWritableEntry}}
pub use Rattle.tariff_syntax.specs.declared.parsing.ParseFault.{ParseFault, TheVariants.{NoMemory, Syntax, TooLong}}
