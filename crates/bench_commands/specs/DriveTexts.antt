-- Rules: the commands `NAME TARIFF DRIVE PARAMS` that print a text of a drive, which the tariff and the parameters
-- determine, without a store.
use Rattle.std.specs.Prelude.{[], ℕ, ◌≡◌, ◌⊎◌, Err, List, Ok, Result, Some}
use Rattle.seal_record.specs.{Reading.{params_read}, declared.params.{ParamFault.{ParamFault}, Params.{Params}}}
use Rattle.call_ends.specs.{Answer.{shows}, TextCommands.{text_command}}
use Rattle.call_ends.specs.{Plan.{Last, Next}, Tariffs.{HasTariff, tariff_in}, declared.tariff.Refusal.{Refusal}}
use Rattle.bench_commands.specs.Common.{Answer, BadAt, Command, Drive, Ended, Endless, Event, IsGoing, Setting}
use Rattle.bench_commands.specs.Common.{StreamEnd, Tree, Whole, drive_end, events_of, refused_as, setting_by}
use Rattle.call_ends.specs.declared.ending.Ended.TheVariants as ended

-- ---- what a text goes by

-- the setting of a tariff and of the parameters that were read, or the refusal of the parameters
abbrev pub setting_from : Tree → Result Params ParamFault → Result Setting Ended
setting_from t (Err fault) = Err (ended.BadParams fault)
setting_from t (Ok params) = Ok (setting_by t params)

-- the setting of the tariff and the parameters that were read, or the first refusal: of the tariff, or of the
-- parameters
abbrev pub setting_with : Result Tree Refusal → Result Params ParamFault → Result Setting Ended
setting_with (Err why) params = Err (ended.BadTariff why)
setting_with (Ok t) params = setting_from t params

-- the setting of two texts, or the refusal of the first that isn't accepted. `params_read` gives the parameters of a
-- text or its fault, as the law texts_say_their_parameters of seal_record says
abbrev pub read_setting : (tariff params : List ℕ) → Result Setting Ended
read_setting tariff params = setting_with (tariff_in tariff) (params_read params)

-- ---- the answer

-- the answer to a drive that has an end is the text of its events, and else refuses the drive
abbrev pub whole_answer : (text : Setting → List Event → List ℕ) → Setting → (drive : List ℕ) → StreamEnd → Answer
whole_answer text s drive Whole = shows (text s (events_of drive))
whole_answer text s drive (BadAt line) = refused_as (ended.BadDrive line)
whole_answer text s drive Endless = refused_as ended.EndlessDrive

-- the answer under a setting is that of the drive, and else the refusal of the tariff or of the parameters
abbrev pub text_answer : (text : Setting → List Event → List ℕ) → Result Setting Ended → (drive : List ℕ) → Answer
text_answer text (Err why) drive = refused_as why
text_answer text (Ok s) drive = whole_answer text s drive (drive_end drive)

-- ---- the command

-- two texts have a tariff and parameters
pub record HasSetting (tariff params : List ℕ) : Type 0 where
  pub setting : Setting
  pub is : read_setting tariff params ≡ Ok setting

-- a command that prints a text of a drive reads its tariff, its parameters and then its drive into memory, and prints
-- at the end alone, in a step for each piece and one for the last line
abbrev pub drive_text_command : (text : Setting → List Event → List ℕ) → Command
drive_text_command text = text_command
    (Next 1 (λ contents image taken. taken ≡ [])
    (Next 3 (λ contents image taken. (taken ≡ []) × HasTariff (contents 1))
    (Last 2 (λ contents image taken. IsGoing taken × HasSetting (contents 1) (contents 3))))) (Some (Drive 2))
    (λ contents taken. (taken ≡ []) ⊎ HasSetting (contents 1) (contents 3))
    (λ contents. text_answer text (read_setting (contents 1) (contents 3)) (contents 2))
