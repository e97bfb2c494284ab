-- The lemmas that are the laws of the crate's public functions.
pub use Rattle.seal_record.proofs.{FaultLaws.{bad_lines_have_their_fault}, Ranged.{seals_are_read_by_their_table}}
pub use Rattle.seal_record.proofs.{LineLaws.{lines_say_their_parameter}, WholeLaws.{texts_say_their_parameters}}
pub use Rattle.seal_record.proofs.PlainTexts.{comments_are_passed_over, comments_make_it_longer}
