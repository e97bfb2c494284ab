-- The lemmas that are the laws of the crate's public functions.
pub use Rattle.offset_rules.proofs.{Bounds.{seconds_have_their_year}, PlainTexts.{plain_texts_are_read_back}}
pub use Rattle.offset_rules.proofs.{Members.{lists_have_each_change}, Named.{changes_have_their_date}}
