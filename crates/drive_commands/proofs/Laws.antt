-- The lemmas that the crates above cite.
pub use Rattle.drive_commands.proofs.{RunAnswers.{found-held, outside_then, same_outside}, RunEnds.{run-finished}}
pub use Rattle.drive_commands.proofs.RunStarts.{found_in, start_stands}
