-- Made by tools/make/imports: what several files of this crate bring in of its types and of crates below.
pub use Rattle.{taxi_units.specs.Line.{line_size}, outside.specs.{PrintedText.{Begins}, Runs.{KeepsStore}}}
pub use Rattle.totals_record.specs.{Bytes.{eight, four, sixteen}, declared.durable_state.Durable.{Durable}}
pub use Rattle.{totals_record.specs.{Ranges.{IsDurable}, Spelling.{share_bytes}}, seal_record.specs.Spelling.{padded}}
pub use Rattle.seal_record.specs.{Ranges.{IsSeal}, declared.seal.Seal.{Seal}}
pub use Rattle.data_port.specs.declared.serving.PortFault.{PortFault}
pub use Rattle.data_port.specs.declared.serving.PortFault.TheVariants.{BoardFault, Frame, ReadFault, TooLong}
