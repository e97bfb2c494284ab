-- Rules: a run and an explanation that go by the same tariff and the same parameters, on a new store.
use Rattle.std.specs.Prelude.{ℕ, ◌≡◌, List, None, Ok, map}
use Rattle.{meter_store.specs.Sealing.{IsSealed, Sealing}, meter_model.specs.Run.{actions_of}}
use Rattle.verify_bench.specs.{Receipts.{receipts_in}, TripExplanations.{Explanation, explanations_of}}
use Rattle.{call_ends.specs.Answer.{shows}, store_commands.specs.Seal.{sealing_of}}
use Rattle.bench_commands.specs.{DriveTexts.{read_setting, text_answer}, Explain.{explanation_text}}
use Rattle.run_chains.specs.Common.{Act, Setting, Start, deeds_of, events_of, opening_in, run_answer, setting_in}
use Rattle.run_chains.specs.Common.{start_of, texts}

-- an image is a new store, sealed with two texts, if no totals were found before, and the image has what that sealing
-- says
pub record IsNewStore (tariff params image : List ℕ) : Type 0 where
  pub found : List ℕ
  pub sealing : Sealing
  pub is : sealing_of (opening_in found) tariff params ≡ Ok sealing
  pub none : sealing.totals ≡ None
  pub sealed : IsSealed sealing image

-- an explanation of a drive is of its run on an image if both answer with the status 0, the run by the texts of the
-- acts of its events, and the explanation by hirings whose receipts these acts print, each once and in order
pub record ExplainsRun (tariff params drive image : List ℕ) : Type 0 where
  pub start : Start
  pub setting : Setting
  pub acts : List Act
  pub starts : start_of (opening_in image) tariff ≡ Ok start
  pub acts_are : acts ≡ actions_of (setting_in start) start.durable (events_of drive)
  pub goes_by : read_setting tariff params ≡ Ok setting
  pub runs : run_answer (start_of (opening_in image) tariff) drive ≡ shows (texts start.seal (deeds_of acts))
  pub explains : text_answer explanation_text (read_setting tariff params) drive
      ≡ shows (explanation_text setting (events_of drive))
  pub receipts : map (λ (e : Explanation). e.receipt) (explanations_of setting (events_of drive)) ≡ receipts_in acts
