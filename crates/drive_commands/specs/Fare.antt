-- Rules: the command `fare TARIFF DRIVE CONSTANT`.
use Rattle.std.specs.Prelude.{[], ℕ, ◌≡◌, ◌⊎◌, Err, List, Ok, Result, Some, pos}
use Rattle.{drive_text.specs.Ending.{IsGoing}, meter_model.specs.Setting.{under_offset}, call_ends.specs.Answer.{shows}}
use Rattle.{meter_run.specs.Texts.{drive_shown}, call_ends.specs.LastLine.{bad_drive_line, endless_drive_line}}
use Rattle.drive_commands.specs.Common.{Answer, BadAt, Command, Drive, Endless, IsBoundedByDrive, Refusal, Setting}
use Rattle.drive_commands.specs.Common.{Single, StreamEnd, Tree, Whole, bad_tariff, drive_end, tariff_in}

-- the answer to a drive shows its text. It has the status 3 and a last line if a line of the drive is bad or it has no
-- end.
abbrev pub drive_answer : List ℕ → StreamEnd → Answer
drive_answer shown Whole = shows shown
drive_answer shown (BadAt n) = record { status = 3; shown = shown; line = bad_drive_line n }
drive_answer shown Endless = record { status = 3; shown = shown; line = endless_drive_line }

-- a meter without a store goes by a tariff and a constant in mode S, with a hold of a minute and local time that is UTC
abbrev pub setting_of : (k : ℕ) → Tree → Setting
setting_of k t = under_offset t k Single 60 (pos 0)

-- bytes of a drive show their displays and refusals under a sound tariff, and else nothing
abbrev pub shown_under : (k : ℕ) → Result Tree Refusal → List ℕ → List ℕ
shown_under k (Err why) drive = []
shown_under k (Ok t) drive = drive_shown (setting_of k t) drive

-- the answer to a drive is that of its text under the tariff, or why there is no tariff
abbrev pub fare_answer : (k : ℕ) → Result Tree Refusal → List ℕ → Answer
fare_answer k (Err why) drive = bad_tariff why
fare_answer k (Ok t) drive = drive_answer (drive_shown (setting_of k t) drive) (drive_end drive)

-- a drive is being read under a tariff if the tariff is sound, and the bytes that were taken don't tell the drive's end
pub record IsDriving (tariff taken : List ℕ) : Type 0 where
  pub tree : Tree
  pub sound : tariff_in tariff ≡ Ok tree
  pub going : IsGoing taken

-- the command `fare` reads its tariff and then its drive, in at most 64 steps for each event, 64 for the supply drop at
-- the end of the drive, if the supply is there then, and one for the last line
abbrev pub fare_command : (k : ℕ) → Command
fare_command k = record {
  answer = λ contents image. fare_answer k (tariff_in (contents 1)) (contents 2);
  drive = Some (Drive 2);
  shown = λ contents image taken. shown_under k (tariff_in (contents 1)) taken;
  reads = λ word. (word ≡ 1) ⊎ (word ≡ 2);
  turn = λ word. word;
  reads_all = λ status. status ≡ 0;
  comes_to = λ contents image word taken. ((word ≡ 1) × (taken ≡ [])) ⊎ ((word ≡ 2) × IsDriving (contents 1) taken);
  may_lack = λ contents image taken. taken ≡ [];
  told = λ files_tell image_told. files_tell;
  opens = ⊥;
  writes = λ ended. ⊥;
  steps = λ files_tell image_told contents left image before now.
      IsBoundedByDrive 1 files_tell (contents 2) (left 2) before now;
}
