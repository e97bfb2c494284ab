-- Made by tools/make/imports: what several files of this crate bring in of its types and of crates below.
pub use Rattle.{taxi_units.specs.Number.{money_text}, drive_modes.specs.declared.charges.Weights.{Weights}}
pub use Rattle.tariff_tree.specs.{Condition.{Condition, condition_of}, Meaning.{at_hiring, holds, holds_if}}
pub use Rattle.tariff_tree.specs.{Tree.{Line, Tree, tree_of}, Writable.{IsWritable}, declared.context.Context.{Context}}
pub use Rattle.tariff_check.specs.{Amounts.{initial_by, place_number}, Sound.{HasSoundParts, IsSoundRate}}
pub use Rattle.tariff_check.specs.{Faults.{IsSound}, Measure.{measure_of}, declared.choice.Choice.{Choice}}
pub use Rattle.tariff_check.specs.Parts.{InitialNumbers, RateNumbers, positions_of, rates_of, supplement_of, zones_of}
pub use Rattle.tariff_check.specs.SoundTariff.{own_conditions, own_values, place_of, sound_of, when_at}
pub use Rattle.tariff_check.specs.declared.{choice.ChoiceKind.TheVariants.{Rate}, values.Supplement.{Supplement}}
pub use Rattle.tariff_calendar.specs.Lists.{CutLists, count_at_most, has_day, has_days, lists_of}
pub use Rattle.tariff_calendar.specs.Range.{IsInRange, IsInRangeOf}
pub use Rattle.tariff_compile.specs.declared.{cells.CellLines.{CellLines}, marks.Marks.{Marks}, parts.Bands.{Bands}}
