-- Made by tools/make/imports: what several files of this crate bring in of its types and of crates below.
pub use Rattle.tariff_tree.specs.declared.context.Context.{Context}
