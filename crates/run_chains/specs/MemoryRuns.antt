-- Rules: what a run of the taximeter leaves of files and a board in memory.
use Rattle.std.specs.Prelude.{ℕ, ◌≡◌}
use Rattle.outside.specs.{Disk.{store_size}, declared.{files.Files.{Ghosts as FileGhosts}, printer.Printer.{Ghosts}}}
use Rattle.{memory_devices.specs.MemoryBoard.{Memory}, run_chains.specs.Common.{BoardState, FilesState, IsRun}}

-- a run of the taximeter made with files and a board in memory left other files, the board in another state, and a
-- status if these are as the headline says of runs
pub record IsRunInMemory {L : Type 0} (F : FileGhosts FilesState) (B : Ghosts (Memory store_size) store_size L)
    (files : FilesState) (board : BoardState) (files_left : FilesState) (board_left : BoardState)
    (status : ℕ) : Type 0 where
  pub old : Memory store_size
  pub new : Memory store_size
  pub old_is : old.state ≡ board
  pub new_is : new.state ≡ board_left
  pub run : IsRun F B files files_left old new status
