-- What a command answers that prints a text of a drive: why there is no text, and what it prints.
use Rattle.std.{specs.Prelude.{◌⊎◌}, proofs.{Common.{subst, sym}, lemmas.List.{append-nil}}}
use Rattle.std.proofs.Common.{[], ℕ, ◌++◌, ◌∙◌, ◌≡◌, Err, List, Ok, Result, Some, ap, arith, flat_map, inl, inr, refl}
use Rattle.outside.{specs.declared.files.Files.{Ghosts as FileGhosts}, proofs.Laws.{rose_behind}}
use Rattle.{drive_source.proofs.Laws.{begins_going}, seal_record.specs.declared.params.ParamFault.{ParamFault}}
use Rattle.{seal_record.specs.{Reading.{params_read}, declared.params.Params.{Params}}, call_ends.specs.Reads.{GoesTo}}
use Rattle.call_ends.{specs.{Answer.{shows}, declared.tariff.TextFault.{TextFault}}, proofs.Laws.{stops-with, text_is}}
use Rattle.call_ends.specs.{Ending.{EndsUnprinted, ended_for}, Plan.{Last, Next}, declared.tariff.Refusal.{Refusal}}
use Rattle.{call_ends.specs.Tariffs.{HasTariff, tariff_in}, bench_commands.specs.DriveTexts.{text_answer, whole_answer}}
use Rattle.call_ends.proofs.Laws.{MakesText, ends-failing, ends-lacking, ends-plain, ends-refused, fails-text}
use Rattle.call_ends.proofs.Laws.{goes-none, goes-on, makes-answer, makes-failing, makes-none, no_fault, refuses-bad}
use Rattle.store_commands.specs.{StoreEnds.{ended_for_params}, declared.params.ParamsFault.{ParamsFault}}
use Rattle.bench_commands.specs.BenchSteps.{IsNoDrive, IsWholeDrive}
use Rattle.bench_commands.specs.Common.{BadAt, Drive, Ended, Endless, Event, FailsOr, IsGoing, Makes, ReadsWord, Run}
use Rattle.bench_commands.specs.Common.{Setting, StreamEnd, Tree, Whole, drive_end, run_events, setting_by}
use Rattle.bench_commands.specs.DriveTexts.{HasSetting, drive_text_command, read_setting, setting_from, setting_with}
use Rattle.call_ends.specs.declared.ending.Ended.TheVariants as ended
use Rattle.store_commands.specs.declared.params.ParamsFault.TheVariants as params
use Rattle.call_ends.specs.declared.tariff.TextFault.TheVariants as texts

pub makes_text : (text_of : Setting → List Event → List ℕ) → MakesText (drive_text_command text_of)
makes_text text_of = text_is
    (Next 1 (λ contents image taken. taken ≡ [])
    (Next 3 (λ contents image taken. (taken ≡ []) × HasTariff (contents 1))
    (Last 2 (λ contents image taken. IsGoing taken × HasSetting (contents 1) (contents 3))))) (Some (Drive 2))
    (λ contents taken. (taken ≡ []) ⊎ HasSetting (contents 1) (contents 3))
    (λ contents. text_answer text_of (read_setting (contents 1) (contents 3)) (contents 2)) refl

-- parameters fail, or are refused
pub fails-params : {refuses : Ended → Type 0} (fault : ParamsFault)
    → ((why : ParamFault) → fault ≡ params.Refused why → refuses (ended.BadParams why))
    → FailsOr refuses (ended_for_params fault)
fails-params params.ReadFault refused = record { how = inl refl }
fails-params (params.Refused why) refused = record { how = inr (inr (refused why refl)) }
fails-params params.NoMemory refused = record { how = inr (inl refl) }

-- ---- under a setting

module _ (text_of : Setting → List Event → List ℕ) (contents left : ℕ → List ℕ) (image : List ℕ) (read_failed : ℕ → Type 0)
    (has : HasSetting (contents 1) (contents 3)) where
  by_end : (reached : StreamEnd) → drive_end (contents 2) ≡ reached
      → text_answer text_of (read_setting (contents 1) (contents 3)) (contents 2)
      ≡ whole_answer text_of has.setting (contents 2) reached
  by_end reached e = ap (λ (r : Result Setting Ended). text_answer text_of r (contents 2)) has.is
      ∙ ap (whole_answer text_of has.setting (contents 2)) e

  not_3 : ¬ (drive_text_command text_of).reads_all 3
  not_3 (inl e) = absurd cc
  not_3 (inr e) = absurd cc

  -- the drive wasn't read
  course-no_drive : (why : Ended) → IsNoDrive (contents 2) (left 2) why
      → (why ≡ ended.ReadFault → read_failed 2)
      → EndsUnprinted (drive_text_command text_of) contents left image read_failed why
  course-no_drive ended.ReadFault h failed =
      ends-failing (drive_text_command text_of) contents left image read_failed h.taken h.split (inr has) 2 ended.ReadFault refl
      (inr (inr refl)) (inr (inr (refl, (h.stands, has)))) (λ e. failed refl) (record { how = inl refl })
  course-no_drive (ended.BadDrive line) h failed =
      ends-refused (drive_text_command text_of) contents left image read_failed (ended.BadDrive line) (by_end (BadAt line) h.0)
      not_3 (λ e. h.1)
  course-no_drive ended.EndlessDrive h failed =
      ends-refused (drive_text_command text_of) contents left image read_failed ended.EndlessDrive (by_end Endless h.0) not_3
      (λ e. h.1)
  course-no_drive ended.NoMemory h failed =
      ends-lacking (drive_text_command text_of) contents left image read_failed h.taken h.split (inr has)
  course-no_drive why h failed = absurd h

-- ---- reading the words in turn

module _ {E : Type 0} {F : FileGhosts E} (text_of : Setting → List Event → List ℕ) (image : List ℕ) {files first : E} where
  -- the tariff wasn't read
  pub no_tariff : {T : Type 0} (fault : TextFault) → ReadsWord F {T = T} 1 files first (Err (ended_for fault))
      → (F.tells → (why : Refusal) → fault ≡ texts.Refused why → tariff_in (F.rest files 1) ≡ Err why)
      → Makes F (drive_text_command text_of) image files first [] (ended_for fault)
  no_tariff fault own refused =
      makes-failing (makes_text text_of) 1 [] (goes-none files) own refl (omega arith) (inl refl) (λ tells. inl (refl, refl))
      (λ tells. record { bytes = sym (own.others 2 (λ e. absurd (omega (arith, e)))) }) (λ tells. inl refl)
      (λ tells. fails-text fault (λ why e. ends-plain (makes_text text_of) (refuses-bad (ap
      (λ (r : Result Tree Refusal). text_answer text_of (setting_with r (params_read (F.rest files 3))) (F.rest files 2))
      (refused tells why e)))))

  -- it was read
  module _ {T : Type 0} {x : T} (t : Tree) (own : ReadsWord F {T = T} 1 files first (Ok x))
      (sound : F.tells → tariff_in (F.rest files 1) ≡ Ok t) where
    goes-tariff : GoesTo F (drive_text_command text_of) image F.tells 0 files first
    goes-tariff =
        goes-on 1 [] (goes-none files) own (omega arith) (inl refl) (λ tells. inl (refl, refl)) (no_fault _ _ _ refl)

    comes-params : F.tells → (drive_text_command text_of).comes_to (F.rest files) image 3 []
    comes-params tells = inr (inl (refl, (refl, record { tree = t; reads = sound tells })))

    setting : F.tells → (read : Result Params ParamFault) → params_read (F.rest first 3) ≡ read
        → read_setting (F.rest files 1) (F.rest files 3) ≡ setting_from t read
    setting tells read is =
        ap (λ (r : Result Tree Refusal). setting_with r (params_read (F.rest files 3))) (sound tells)
        ∙ ap (setting_from t) (ap params_read (sym (own.others 3 (λ e. absurd (omega (arith, e))))) ∙ is)

    module _ {second : E} where
      -- the parameters weren't read
      pub no_params : {U : Type 0} (fault : ParamsFault)
          → ReadsWord F {T = U} 3 first second (Err (ended_for_params fault))
          → (F.tells → (why : ParamFault) → fault ≡ params.Refused why → params_read (F.rest first 3) ≡ Err why)
          → Makes F (drive_text_command text_of) image files second [] (ended_for_params fault)
      no_params fault mine refused =
          makes-failing (makes_text text_of) 3 [] goes-tariff mine refl (omega arith) (inr (inl refl)) comes-params
          (λ tells. record {
            bytes = sym (mine.others 2 (λ e. absurd (omega (arith, e)))
                ∙ own.others 2 (λ e. absurd (omega (arith, e))));
          }) (λ tells. inl refl)
          (λ tells. fails-params fault (λ why e. ends-plain (makes_text text_of) (record {
            is = ap (λ (r : Result Setting Ended). text_answer text_of r (F.rest files 2))
                (setting tells (Err why) (refused tells why e));
            final = refl;
          })))

      -- they were read
      module _ {U : Type 0} {y : U} (p : Params) (mine : ReadsWord F {T = U} 3 first second (Ok y))
          (read : F.tells → params_read (F.rest first 3) ≡ Ok p) where
        goes-params : GoesTo F (drive_text_command text_of) image F.tells 1 files second
        goes-params =
            goes-on 3 [] goes-tariff mine (omega arith) (inr (inl refl)) comes-params (no_fault _ _ _ refl)

        has : F.tells → HasSetting (F.rest files 1) (F.rest files 3)
        has tells = record { setting = setting_by t p; is = setting tells (Ok p) (read tells) }

        comes-drive : F.tells → (drive_text_command text_of).comes_to (F.rest files) image 2 []
        comes-drive tells = inr (inr (refl, (begins_going, has tells)))

        drive_is : F.rest second 2 ≡ F.rest files 2
        drive_is =
            mine.others 2 (λ e. absurd (omega (arith, e))) ∙ own.others 2 (λ e. absurd (omega (arith, e)))

        module _ {V : Type 0} {third : E} where
          -- the drive wasn't read
          pub no_drive : (why : Ended) → ReadsWord F {T = V} 2 second third (Err why)
              → (F.tells → IsNoDrive (F.rest second 2) (F.rest third 2) why)
              → Makes F (drive_text_command text_of) image files third [] why
          no_drive why drive none = record {
            comes = λ tells.
                course-no_drive text_of (F.rest files) (F.rest third) image _ (has tells) why
                (subst (λ (x : List ℕ). IsNoDrive x (F.rest third 2) why) drive_is (none tells))
                (λ e. rose_behind _ _ _ (goes-params.counts 2) (drive.read_fault (ap Err e)));
            follows = stops-with 2 [] goes-params drive (omega arith) (inr (inr refl)) comes-drive refl;
            not_board = λ e. drive.not_board (ap Err e);
          }

          -- it was read
          module _ {z : V} (drive : ReadsWord F {T = V} 2 second third (Ok z)) where
            goes-drive : GoesTo F (drive_text_command text_of) image F.tells 2 files third
            goes-drive =
                goes-on 2 [] goes-params drive (omega arith) (inr (inr refl)) comes-drive (no_fault _ _ _ refl)

            each_read : F.tells → (word : ℕ) → (drive_text_command text_of).reads word → F.rest third word ≡ []
            each_read tells word (inl e) = ap (F.rest third) e ∙ (drive.others 1 (λ e. absurd (omega (arith, e)))
                ∙ mine.others 1 (λ e. absurd (omega (arith, e))) ∙ own.ended tells)
            each_read tells word (inr (inl e)) =
                ap (F.rest third) e ∙ (drive.others 3 (λ e. absurd (omega (arith, e))) ∙ mine.ended tells)
            each_read tells word (inr (inr e)) = ap (F.rest third) e ∙ drive.ended tells

            -- there was no memory for the text
            pub no_text : Makes F (drive_text_command text_of) image files third [] ended.NoMemory
            no_text = makes-none (makes_text text_of) (F.rest files 2) goes-drive
                (λ tells. record {
                  bytes = sym (ap (λ (x : List ℕ). F.rest files 2 ++ x) (drive.ended tells)
                      ∙ append-nil (F.rest files 2));
                })
                (λ tells. inr (has tells))

            -- the text of the drive is there
            pub with_text : (runs : List Run) (text : List ℕ)
                → (F.tells → IsWholeDrive (F.rest second 2) (F.rest third 2) runs)
                → text ≡ text_of (setting_by t p) (flat_map run_events runs)
                → Makes F (drive_text_command text_of) image files third text ended.Done
            unfolding has
            with_text runs text whole is = makes-answer (makes_text text_of) text ended.Done goes-drive refl
                (λ tells.
                let h = subst (λ (x : List ℕ). IsWholeDrive x (F.rest third 2) runs) drive_is (whole tells) in
                by_end text_of (F.rest files) (F.rest third) image (λ word. ⊥) (has tells) Whole h.end_is
                ∙ ap shows (sym (is ∙ ap (text_of (setting_by t p)) h.events)))
                (λ tells final. each_read tells)
