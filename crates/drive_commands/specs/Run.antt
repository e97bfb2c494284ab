-- Rules: the command `run TARIFF DRIVE`.
use Rattle.std.specs.Prelude.{[], ℕ, ◌++◌, ◌∷◌, ◌≡◌, ◌≢◌, ◌⊎◌, Bool, Err, List, Ok, Option, Result, Some, if◌then◌else◌}
use Rattle.{taxi_units.specs.Test.{if_some}, outside.specs.declared.files.Files.{Ghosts as FileGhosts}}
use Rattle.{outside.specs.{Disk.{IsWithin}, Runs.{IsAtRest, LeavesOnly}}, drive_text.specs.Ending.{IsGoing}}
use Rattle.{totals_record.specs.declared.trip.Trip.{Trip}, meter_model.specs.Setting.{setting_by}}
use Rattle.{meter_run.specs.Runs.{run_deeds}, call_ends.specs.{Course.{Course, NoMemory}, Unwritten.{WritesNothing}}}
use Rattle.call_ends.specs.{Call.{IsCall}, LastLine.{refused_as}}
use Rattle.store_commands.specs.declared.opening.{Opening.{Opening}, StoreFault.{StoreFault}}
use Rattle.drive_commands.specs.Common.{Answer, Answered, Begins, BoardFailed, Command, CommitsInTurn, Deed, Drive}
use Rattle.drive_commands.specs.Common.{Durable, Ended, Ghosts, HasState, IsBoundedByDrive, IsCutOfDeeds, IsSealedIn}
use Rattle.drive_commands.specs.Common.{LeavesFromSync, Prints, ReadFailed, SameBut, Seal, Setting, TableParts, Tree}
use Rattle.drive_commands.specs.Common.{after_deeds, changes_of, drive_end, fits_test, line_in, opening_in}
use Rattle.drive_commands.specs.{Common.{sealed_tariff, store_of, tables_of, texts}, Fare.{drive_answer}}
use Rattle.call_ends.specs.declared.ending.Ended.TheVariants as ended

-- ---- how a run begins

-- the test `does_hold_fit` is true if no trip is held, or the held one fits the tables: its position, zone, rest, cover
-- and supplements may come from a hiring by them, as the fact of `fits_test` says
abbrev pub does_hold_fit : TableParts → Option Trip → Bool
does_hold_fit tables hold = (if_some (fits_test tables) hold).passes

-- a run begins with the durable state and the seal of the store, and with the tariff
pub record Start : Type 0 where
  pub durable : Durable
  pub seal : Seal
  pub tree : Tree

-- the tables of a run are those that its tariff has under the sealed constant
abbrev pub tables_in : Start → TableParts
tables_in start = tables_of start.tree start.seal.params.constant

-- the meter of a run goes by the tariff and the sealed parameters
abbrev pub setting_in : Start → Setting
setting_in start = setting_by start.tree start.seal.params

-- the start of a durable state, a seal and a tariff, or the first refusal: of the tariff, or of a held trip that
-- doesn't fit the tables
abbrev pub start_with : Durable → Seal → Result Tree Ended → Result Start Ended
start_with durable seal (Err why) = Err why
start_with durable seal (Ok t) =
    if does_hold_fit (tables_of t seal.params.constant) durable.hold
    then Ok (record { durable = durable; seal = seal; tree = t }) else Err ended.BadTrip

-- the start over a sealed store with a tariff's text, or the first refusal
abbrev pub start_over : Result (Durable × Seal) Ended → (tariff : List ℕ) → Result Start Ended
start_over (Err why) tariff = Err why
start_over (Ok store) tariff = start_with store.0 store.1 (sealed_tariff store.1.digest tariff)

-- the start over what was opened with a tariff's text, or the first refusal: of the store, of the text, or of the held
-- trip
abbrev pub start_of : Result Opening StoreFault → (tariff : List ℕ) → Result Start Ended
start_of opening tariff = start_over (store_of opening) tariff

-- ---- the answer

-- a run over bytes of its drive does the deeds that the bytes mean, from its start on
abbrev pub deeds_in : Start → (drive : List ℕ) → List Deed
deeds_in start drive = run_deeds (setting_in start) start.durable drive

-- a run shows the texts of its deeds, which are displays, refusals and receipts, and nothing if it is refused
abbrev pub shown_in_run : Result Start Ended → (drive : List ℕ) → List ℕ
shown_in_run (Err why) drive = []
shown_in_run (Ok start) drive = texts start.seal (deeds_in start drive)

-- the answer to a drive is that of the texts of its deeds, or the refusal of the run
abbrev pub run_answer : Result Start Ended → (drive : List ℕ) → Answer
run_answer (Err why) drive = refused_as why
run_answer (Ok start) drive = drive_answer (texts start.seal (deeds_in start drive)) (drive_end drive)

-- a run is reading its drive if it has a start, and the bytes that were taken don't tell the drive's end
pub record IsRunning (image tariff taken : List ℕ) : Type 0 where
  pub start : Start
  pub begins : start_of (opening_in image) tariff ≡ Ok start
  pub going : IsGoing taken

-- the command `run` opens the store, reads its tariff and then its drive, and writes, in at most 64 steps for the
-- opening and the last line, 64 for each event, and 64 for the supply drop at the end of the drive, if the supply is
-- there then
abbrev pub run_command : Command
run_command = record {
  answer = λ contents image. run_answer (start_of (opening_in image) (contents 1)) (contents 2);
  drive = Some (Drive 2);
  shown = λ contents image taken. shown_in_run (start_of (opening_in image) (contents 1)) taken;
  reads = λ word. (word ≡ 1) ⊎ (word ≡ 2);
  turn = λ word. word;
  reads_all = λ status. status ≡ 0;
  comes_to = λ contents image word taken.
      ((word ≡ 1) × ((taken ≡ []) × IsSealedIn image)) ⊎ ((word ≡ 2) × IsRunning image (contents 1) taken);
  may_lack = λ contents image taken. (taken ≡ []) × IsSealedIn image;
  told = λ files_tell image_told. files_tell × image_told;
  opens = Unit {0};
  writes = λ ended. (ended ≡ 0) ⊎ ((ended ≡ 3) ⊎ ((ended ≡ 7) ⊎ (ended ≡ 8)));
  steps = λ files_tell image_told contents left image before now.
      IsBoundedByDrive 64 files_tell (contents 2) (left 2) before now;
}

-- ---- the headline

-- a run has carried out the whole drive if it came to its answer, and else the bytes that were taken
abbrev pub bytes_in : Course → (drive : List ℕ) → List ℕ
bytes_in Answered drive = drive
bytes_in (ReadFailed word taken) drive = taken
bytes_in NoMemory drive = []
bytes_in (BoardFailed taken) drive = taken

-- a place is one of the pair of totals if it is within the first 1,024 bytes of the store
abbrev pub IsOfTotals : ℕ → Type 0
IsOfTotals place = IsWithin 0 1024 place

-- A run began with an image and a text that had been `printed`, which may be `told`. It did all deeds of some bytes of
-- its drive, or a part of them, and then printed its last line, or a part of it.
module _ (told : Type 0) (image printed : List ℕ) where
  -- A cut of the power may have left an image and a text that belong to some place of the list of the run's deeds,
  -- behind which the last line stands: the image has the commits before that place, and the text ends there. The number
  -- that a scan finds less the opening one is the number of those commits. The totals are the opening ones plus the
  -- sums over their entries. Each receipt of which a byte was printed has its own entry among them. The bytes of the
  -- seal are the opening ones.
  pub record IsCutOfStart (start : Start) (bytes line left_image left_text : List ℕ) : Type 0 where
    pub cut : IsCutOfDeeds (tables_in start) start.seal told start.durable printed
        (deeds_in start bytes ++ Prints line ∷ []) left_image left_text
    pub seal_stays : SameBut IsOfTotals image left_image

  -- a cut of a run may leave what a cut of its start may leave, if it has a start, and else the opening image and a
  -- beginning of the last line
  abbrev pub IsCutOfRun : Result Start Ended → (bytes line left_image left_text : List ℕ) → Type 0
  IsCutOfRun (Err why) bytes line left_image left_text = (left_image ≡ image) × (told → Begins printed left_text line)
  IsCutOfRun (Ok start) bytes line left_image left_text = IsCutOfStart start bytes line left_image left_text

  -- a run is done if the image stands for the durable state after all commits of the run, beside the opening seal
  pub record IsRunDone (start : Start) (bytes now : List ℕ) : Type 0 where
    pub state : HasState now (after_deeds start.durable (deeds_in start bytes))
    pub seal_stays : SameBut IsOfTotals image now

  -- an image stands at the end of a run if it has the state after all commits of the run, beside the opening seal. If
  -- the run was refused, it is the opening image.
  abbrev pub StandsAfterRun : Result Start Ended → (bytes now : List ℕ) → Type 0
  StandsAfterRun (Err why) bytes now = now ≡ image
  StandsAfterRun (Ok start) bytes now = IsRunDone start bytes now

module _ {E D L : Type 0} {N : ℕ} (F : FileGhosts E) (B : Ghosts D N L) where
  -- the start of a run on a board, by the image of the store and the file of word 1, its tariff
  abbrev pub start_at : (files : E) (board : D) → Result Start Ended
  start_at files board = start_of (opening_in (B.image board)) (F.rest files 1)

  -- a cut of a run that took a course may leave what a cut may leave of the deeds over the bytes that the course
  -- carried out, and of the course's last line behind them
  abbrev pub IsCutOfCourse : (files : E) (old : D) → Course → (left_image left_text : List ℕ) → Type 0
  IsCutOfCourse files old course = IsCutOfRun B.tells_text (B.image old) (B.printed old) (start_at files old)
      (bytes_in course (F.rest files 2)) (line_in run_command (F.rest files) (B.image old) course)

  -- The headline. A run took a course, and printed its text: the displays, refusals and receipts of the events of the
  -- bytes that were taken, and its last line. In the end the store has the state after all commits of those events,
  -- unless the board failed. A cut of the power from the opening sync on leaves a place in the list of what the run
  -- does; one before that sync has succeeded leaves what it might have left before the call. If nothing was in flight
  -- before the call, a cut at any moment of it leaves such a place. The next run under the same tariff begins over what
  -- such a cut leaves. If the store or the tariff is refused, nothing is written, whatever the answer is. Else, unless
  -- the board failed, the commits in turn are all that was written: each goes into the slot without the state before
  -- it, so the other slot stays as it is up to the next commit, and without a commit the store is kept.
  pub record IsRun (files files' : E) (old new : D) (ended : ℕ) : Type 0 where
    pub call : IsCall F B run_command files files' old new ended
    pub stands : ended ≢ 8
        → StandsAfterRun B.tells_text (B.image old) (B.printed old) (start_at files old)
        (bytes_in call.course (F.rest files 2)) (B.image new)
    pub leaves : LeavesFromSync B (ended ≡ 8) old new (IsCutOfCourse files old call.course)
    pub settled : IsAtRest B old → LeavesOnly B old new (IsCutOfCourse files old call.course)
    pub again : (start : Start) (left_image left_text : List ℕ) → start_at files old ≡ Ok start
        → IsCutOfCourse files old call.course left_image left_text
        → (durable : Durable)
        × (start_of (opening_in left_image) (F.rest files 1) ≡ Ok (record start { durable = durable }))
    pub unwritten : (why : Ended) → start_at files old ≡ Err why → WritesNothing B old new ended
    pub turn : (start : Start) → start_at files old ≡ Ok start → ended ≢ 8
        → CommitsInTurn B start.durable (changes_of (deeds_in start (bytes_in call.course (F.rest files 2)))) old new
