-- For proofs: the tables that were made of a text.
use Rattle.std.specs.Prelude.{ℕ, ◌≡◌, List, Ok}
use Rattle.{tariff_tree.specs.Tree.{Tree}, tariff_compile.specs.Tables.{IsTablesOf, TableParts, tables_of}}
use Rattle.call_ends.specs.Tariffs.{tariff_in}

-- tables are those of a text under a constant if the text has a tariff, and they are the tariff's tables
pub record AreTablesIn (constant : ℕ) (text : List ℕ) (tables : TableParts) : Type 0 where
  pub tree : Tree
  pub sound : tariff_in text ≡ Ok tree
  pub compiled : IsTablesOf tree tables
  pub value : tables ≡ tables_of tree constant
