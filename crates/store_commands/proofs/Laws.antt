-- The lemmas that the crates above cite.
pub use Rattle.store_commands.proofs.{Amid.{seals-finished, seals-settled}, Openings.{opens-barred, opens-behind}}
pub use Rattle.store_commands.proofs.BarredEnds.{not_memory-barred, owed-refused}
pub use Rattle.store_commands.proofs.{EndsByStore.{course-board, course-refusal, none}, SealedTariffs.{lines_of_sealed}}
pub use Rattle.store_commands.proofs.{ReadFaults.{not_board-params, read_fault-params}, Turns.{first_alone, first_then}}
pub use Rattle.store_commands.proofs.ReadOnlyCalls.{unwritten-finished, unwritten-kept, unwritten-only}
pub use Rattle.store_commands.proofs.{SealsOfTexts.{seal_of_texts}, WordsRead.{reads-also, reads-behind, reads-err}}
