-- For proofs: what `explain` writes its text by, and how the inputs of a text of a drive are read. Explain says what an explanation is.
use Rattle.std.specs.Prelude.{[], ℕ, ◌<◌, ◌≤◌, IfErr, IfOk, List, OnOk, Result, flat_map}
use Rattle.{outside.specs.declared.files.Files.{Ghosts as FileGhosts}, verify_bench.specs.Settings.{setting_under}}
use Rattle.call_ends.specs.declared.ending.Ended.TheVariants.{Done, NoMemory}
use Rattle.bench_commands.specs.{Common.{Ended, Event, Makes, Setting, run_events}, DriveTexts.{drive_text_command}}
use Rattle.bench_commands.specs.declared.{explained_lines.Scale.{Scale}, inputs.Inputs.{Inputs}}

-- the scale of an explanation is in its ranges
pub record IsScale (scale : Scale) : Type 0 where
  pub decimals : scale.decimals ≤ 3
  pub some : 0 < scale.unit
  pub few : scale.unit ≤ 1000000000000000000000000

-- the text of inputs is that of the events of their runs, under their tariff and their parameters
abbrev pub text_of_inputs : (text : Setting → List Event → List ℕ) → Inputs → List ℕ
text_of_inputs text inputs = text (setting_under inputs.checked inputs.params) (flat_map run_events inputs.runs.items)

-- inputs are read for a text if the command that prints the text ends so without them, and with them prints their text,
-- or lacks memory for it
pub record ReadsInputs {E : Type 0} (F : FileGhosts E) (text : Setting → List Event → List ℕ) (image : List ℕ)
    (files files' : E) (result : Result Inputs Ended) : Type 0 where
  pub refused : IfErr result (λ why. Makes F (drive_text_command text) image files files' [] why)
  pub lacks : OnOk result (Makes F (drive_text_command text) image files files' [] NoMemory)
  pub makes : IfOk result (λ inputs.
      Makes F (drive_text_command text) image files files' (text_of_inputs text inputs) Done)
