-- Rules: what the clauses of the top call speak of, by the words of a call, its files and its board.
use Rattle.std.specs.Prelude.{ℕ, ◌≡◌, ◌⊎◌, List, Option, Result, String, map, string_bytes}
use Rattle.outside.specs.{Disk.{store_size}, Faults.{Rose}, declared.files.Files.{Ghosts as FileGhosts}}
use Rattle.{meter_store.specs.Sealing.{Sealing}, call_ends.specs.Call.{HasReadFault, MayLack}}
use Rattle.store_commands.specs.{Opening.{opening_in}, Seal.{MayLeaveSealing, sealing_of}}
use Rattle.commands.specs.{Command.{called}, Common.{Command, Ended, Ghosts}, Words.{row_of}, declared.words.Row.{Row}}

-- the row of a call's words is the one that their bytes are, and there is none if they are no row
abbrev pub row_in : {Z : Type 0} → List (String Z) → Option Row
row_in words = row_of (map string_bytes words)

-- the command called by the words of a call is the one that their bytes call
abbrev pub called_by : {Z : Type 0} → List (String Z) → Command
called_by words = called (map string_bytes words)

module _ {E D L : Type 0} (F : FileGhosts E) (B : Ghosts D store_size L) where
  -- a call comes to its answer if it has the status of that answer, or memory ran out and may run out there; nothing is
  -- asked if a count of faults rose
  abbrev pub ComesToAnswer : Command → (files files' : E) (board board' : D) (ended : ℕ) → Type 0
  ComesToAnswer c files files' board board' ended =
      ¬ HasReadFault F c files files' → ¬ Rose (B.faults board) (B.faults board')
      → (ended ≡ (c.answer (F.rest files) (B.image board)).status)
      ⊎ ((ended ≡ 12) × MayLack c (F.rest files) (B.image board))

  -- a call takes the steps of its command if the count of steps rose as the command says, by what the files and the
  -- image tell and what is left of the files
  abbrev pub TakesSteps : Command → (files files' : E) (board : D) (before now : ℕ) → Type 0
  TakesSteps c files files' board before now =
      c.steps F.tells B.tells_image (F.rest files) (F.rest files') (B.image board) before now

  -- the sealing of a call is that of the opening image, of the tariff of word 1 and of the parameters of word 2
  abbrev pub sealing_by : E → D → Result Sealing Ended
  sealing_by files board = sealing_of (opening_in (B.image board)) (F.rest files 1) (F.rest files 2)

  -- a cut of a call that seals may leave what one of its sealing may, over the opening image and the text before it
  abbrev pub MayLeaveSealingBy : (files : E) (board : D) (left_image left_text : List ℕ) → Type 0
  MayLeaveSealingBy files board left_image left_text =
      MayLeaveSealing (sealing_by files board) (B.image board) (B.printed board) left_image left_text
