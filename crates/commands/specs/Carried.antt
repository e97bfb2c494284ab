-- For proofs: how the command of a row was carried out, but for its last line. Call and Course say what a call is.
use Rattle.{std.specs.Prelude.{ℕ, Some}, outside.specs.declared.files.Files.{Ghosts as FileGhosts}}
use Rattle.{call_ends.specs.Carried.{Carries}, store_commands.specs.SealSteps.{SealReachesLine}}
use Rattle.{drive_commands.specs.RunSteps.{RunReachesLine}, commands.specs.declared.words.Row.TheVariants.{Run, Seal}}
use Rattle.commands.specs.{Command.{command_of}, Common.{Ended, Ghosts}, declared.words.Row.{Row}}

module _ {E D L : Type 0} {N : ℕ} (F : FileGhosts E) (B : Ghosts D N L) where
  -- what else is said of the command of a row
  abbrev pub RowReachesLine : Row → (files files' : E) (old new : D) → Ended → Type 0
  RowReachesLine Seal files files' old new ended = F.tells → B.tells_image → SealReachesLine F B files old new ended
  RowReachesLine Run files files' old new ended = F.tells → B.tells_image
      → RunReachesLine F B files files' old new ended
  RowReachesLine row files files' old new ended = Unit {0}

  -- a row was carried out if its command was, and what else is said of it holds
  pub record CarriesRow (row : Row) (files files' : E) (old new : D) (before now : ℕ) (ended : Ended) : Type 0 where
    pub carries : Carries F B (command_of (Some row)) files files' old new before now ended
    pub comes : RowReachesLine row files files' old new ended
