-- Made by tools/make/imports: what several files of this crate bring in of its types and of crates below.
pub use Rattle.{seal_record.specs.declared.seal.Seal.{Seal}, tariff_tree.specs.Tree.{Tree}}
pub use Rattle.{tariff_syntax.specs.Reads.{Reads}, tariff_check.specs.Faults.{IsSound}}
pub use Rattle.tariff_compile.specs.Tables.{TableParts}
