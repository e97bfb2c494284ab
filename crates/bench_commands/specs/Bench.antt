-- Rules: the command `bench TARIFF DRIVE READINGS`.
use Rattle.std.specs.Prelude.{[], ℕ, ◌++◌, ◌+◌, ◌≡◌, ◌≤◌, ◌⊎◌, Bool, Err, List, Ok, Result, Some, false, length, true}
use Rattle.verify_bench.specs.{CrossOvers.{cross_overs_text}, PassedReports.{do_all_pass}, Report.{report_text}}
use Rattle.verify_bench.specs.{ExpectedReceipts.{expected_of}, declared.expected.Expected.{Expected}}
use Rattle.{call_ends.specs.Pieces.{pieces_of}, store_commands.specs.declared.opening.StoreFault.{StoreFault}}
use Rattle.store_commands.specs.{Opening.{IsSealedIn}, SealedTariff.{sealed_tariff}, declared.opening.Opening.{Opening}}
use Rattle.bench_commands.specs.Common.{Answer, BadAt, Command, Drive, Durable, Ended, Endless, IsGoing, Reading}
use Rattle.bench_commands.specs.Common.{ReadingsFault, Seal, Setting, StreamEnd, Tree, Whole, drive_end, events_of}
use Rattle.bench_commands.specs.Common.{opening_in, readings_in, refused_as, setting_by, store_of}
use Rattle.verify_bench.specs.declared.reading.ReadingsFault.TheVariants as readings
use Rattle.call_ends.specs.declared.ending.Ended.TheVariants as ended

-- ---- what a verification goes by

-- a verification goes by the seal of the store and the sealed tariff
pub record Terms : Type 0 where
  pub seal : Seal
  pub tree : Tree

-- the terms of a seal and a tariff, or the refusal of the tariff
abbrev pub terms_with : Seal → Result Tree Ended → Result Terms Ended
terms_with seal (Err why) = Err why
terms_with seal (Ok t) = Ok (record { seal = seal; tree = t })

-- the terms of a sealed store and a tariff's text, or the first refusal
abbrev pub terms_over : Result (Durable × Seal) Ended → (tariff : List ℕ) → Result Terms Ended
terms_over (Err why) tariff = Err why
terms_over (Ok store) tariff = terms_with store.1 (sealed_tariff store.1.digest tariff)

-- the terms of what was opened and a tariff's text, or the first refusal: of the store, or of the text
abbrev pub terms_of : Result Opening StoreFault → (tariff : List ℕ) → Result Terms Ended
terms_of opening tariff = terms_over (store_of opening) tariff

-- the meter goes by the tariff and the sealed parameters of the terms
abbrev pub setting_of_terms : Terms → Setting
setting_of_terms terms = setting_by terms.tree terms.seal.params

-- the hirings of a drive should come to what the plain program calculates of its events
abbrev pub hirings_under : Terms → (drive : List ℕ) → List Expected
hirings_under terms drive = expected_of (setting_of_terms terms) (events_of drive)

-- ---- the answer

-- the text of a verification is the cross-over speeds of the tariff and then the report
abbrev pub bench_text : Terms → (drive : List ℕ) → List Reading → List ℕ
bench_text terms drive found =
    cross_overs_text (setting_of_terms terms).tariff
    ++ report_text (setting_of_terms terms).tariff.step.0 (setting_of_terms terms).tariff.decimals
    (hirings_under terms drive) found

-- the test `does_bench_pass` is true if every row of the report passes
abbrev pub does_bench_pass : Terms → (drive : List ℕ) → List Reading → Bool
does_bench_pass terms drive found = do_all_pass (setting_of_terms terms).tariff.step.0 (hirings_under terms drive) found

-- how a command ended that couldn't read its readings
abbrev pub ended_for_readings : ReadingsFault → Ended
ended_for_readings readings.TooLong = ended.LongReadings
ended_for_readings (readings.BadRow row) = ended.BadReadings row
ended_for_readings readings.NoMemory = ended.NoMemory

-- the status of a verification is 0 if every row passes, and else 11
abbrev pub passing_status : (pass : Bool) → ℕ
passing_status true = 0
passing_status false = 11

-- the answer to readings that were read shows the text of the verification, and else refuses the readings
abbrev pub readings_answer : Terms → (drive : List ℕ) → Result (List Reading) ReadingsFault → Answer
readings_answer terms drive (Ok found) = record {
  status = passing_status (does_bench_pass terms drive found);
  shown = bench_text terms drive found;
  line = [];
}
readings_answer terms drive (Err fault) = refused_as (ended_for_readings fault)

-- the answer to a drive that has an end is that of the readings, and else refuses the drive
abbrev pub judged_ending : Terms → (drive text : List ℕ) → StreamEnd → Answer
judged_ending terms drive text Whole = readings_answer terms drive (readings_in terms.tree.decimals text)
judged_ending terms drive text (BadAt line) = refused_as (ended.BadDrive line)
judged_ending terms drive text Endless = refused_as ended.EndlessDrive

-- the answer under the terms is that of the drive, and else the refusal of the store or of the tariff
abbrev pub bench_answer : Result Terms Ended → (drive text : List ℕ) → Answer
bench_answer (Err why) drive text = refused_as why
bench_answer (Ok terms) drive text = judged_ending terms drive text (drive_end drive)

-- ---- the command

-- the store of an image and a tariff's text have terms
pub record HasTerms (image tariff : List ℕ) : Type 0 where
  pub terms : Terms
  pub are : terms_of (opening_in image) tariff ≡ Ok terms

-- a drive is being taken if there are terms, and the bytes that were taken don't tell the drive's end
pub record IsTakingDrive (image tariff taken : List ℕ) : Type 0 where
  pub terms : Terms
  pub are : terms_of (opening_in image) tariff ≡ Ok terms
  pub going : IsGoing taken

-- a drive has been taken if there are terms, and the bytes that were taken are the whole of a good drive
pub record HasTakenDrive (image tariff drive taken : List ℕ) : Type 0 where
  pub terms : Terms
  pub are : terms_of (opening_in image) tariff ≡ Ok terms
  pub whole : drive_end drive ≡ Whole
  pub all : taken ≡ drive

-- the command `bench` opens the store, and reads its tariff, its drive and then its readings into memory. It prints at
-- the end alone, so that each file was read to its end even if a row doesn't pass. It writes nothing. On the call's own
-- counter it takes at most 64 steps, one for each piece, and one for the last line.
abbrev pub bench_command : Command
bench_command = record {
  answer = λ contents image. bench_answer (terms_of (opening_in image) (contents 1)) (contents 2) (contents 3);
  drive = Some (Drive 2);
  shown = λ contents image taken. [];
  reads = λ word. (word ≡ 1) ⊎ ((word ≡ 2) ⊎ (word ≡ 3));
  turn = λ word. word;
  reads_all = λ status. (status ≡ 0) ⊎ (status ≡ 11);
  comes_to = λ contents image word taken.
      ((word ≡ 1) × ((taken ≡ []) × IsSealedIn image))
      ⊎ (((word ≡ 2) × IsTakingDrive image (contents 1) taken)
      ⊎ ((word ≡ 3) × HasTakenDrive image (contents 1) (contents 2) taken));
  may_lack = λ contents image taken. ((taken ≡ []) × IsSealedIn image) ⊎ HasTerms image (contents 1);
  told = λ files_tell image_told. files_tell × image_told;
  opens = Unit {0};
  writes = λ ended. ⊥;
  steps = λ files_tell image_told contents left image before now. files_tell → image_told
      → now ≤ before + 64 + 1 + pieces_of (length
      (bench_answer (terms_of (opening_in image) (contents 1)) (contents 2) (contents 3)).shown);
}
