-- The lemmas that are the laws of the crate's public functions.
pub use Rattle.shift_book.proofs.Lines.{marks_are_their_lines}
pub use Rattle.shift_book.proofs.Reported.{growth_goes_by_the_first_mark, reports_share_the_growth}
