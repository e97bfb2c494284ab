-- Made by tools/make/imports: what several files of this crate bring in of its types and of crates below.
pub use Rattle.taxi_units.specs.{Identifier.{IsIdentifierCharacter}, declared.receipt.Kind.{Kind, TheVariants.{Roam}}}
pub use Rattle.taxi_units.specs.{Number.{money_text}, Streams.{stream_limit}, declared.receipt.Receipt.{Receipt}}
pub use Rattle.{taxi_units.specs.{Reading.{Gives}, Shown.{IsReceipt}}, outside.specs.Faults.{MayRise, RisesOnlyIf}}
pub use Rattle.{outside.specs.Reading.{LeavesOthers}, seal_record.specs.Ranges.{IsTaxi}}
pub use Rattle.receipt_text.specs.{Grammar.{IsReceiptText}, Part.{IsPart, Part}, Receipts.{kind_text}}
