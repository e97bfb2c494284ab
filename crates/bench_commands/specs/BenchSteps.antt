-- For proofs: what the command `bench` has before it prints. Bench says what a verification is.
use Rattle.std.specs.Prelude.{[], ℕ, ◌++◌, ◌≡◌, Bool, Err, List, None, Ok, Option, Some, false, flat_map, true}
use Rattle.{drive_text.specs.Ending.{IsSplit, TellsEnd}, verify_bench.specs.ExpectedReceipts.{expected_of}}
use Rattle.verify_bench.specs.{CrossOvers.{cross_overs_text}, PassedReports.{do_all_pass}, Report.{report_text}}
use Rattle.call_ends.specs.declared.ending.Ended.TheVariants.{BadDrive, Done, EndlessDrive, NoMemory, NotPassed}
use Rattle.{call_ends.specs.declared.ending.Ended.TheVariants.{ReadFault}, bench_commands.specs.Common.{store_of}}
use Rattle.bench_commands.specs.Bench.{Terms, ended_for_readings, setting_of_terms}
use Rattle.bench_commands.specs.Common.{BadAt, Durable, Ended, Endless, Event, IsGoing, Reading, ReadingsFault, Run}
use Rattle.bench_commands.specs.Common.{Seal, Stop, Whole, drive_end, events_of, opening_in, readings_in, run_events}
use Rattle.drive_source.specs.declared.source.Stop.TheVariants as stops

-- ---- the store

-- the store of an image is sealed by a seal if it has the seal beside a durable state
pub record IsSealedBy (image : List ℕ) (seal : Seal) : Type 0 where
  pub durable : Durable
  pub is : store_of (opening_in image) ≡ Ok (durable, seal)

-- ---- the drive

-- the reading of a drive stopped in a state if the state holds of the bytes that were taken
pub record IsStopped (drive left : List ℕ) (state : List ℕ → Type 0) : Type 0 where
  pub taken : List ℕ
  pub split : IsSplit drive taken left
  pub stands : state taken

-- a drive is whole with its runs if it was read to its end, and they are the runs of its events
pub record IsWholeDrive (drive left : List ℕ) (runs : List Run) : Type 0 where
  pub end_is : drive_end drive ≡ Whole
  pub none_left : left ≡ []
  pub events : flat_map run_events runs ≡ events_of drive

-- a drive has no runs if a read failed, a line is bad, it has no end, or memory ran out
abbrev pub IsNoDrive : (drive left : List ℕ) → Ended → Type 0
IsNoDrive drive left ReadFault = IsStopped drive left IsGoing
IsNoDrive drive left (BadDrive line) = (drive_end drive ≡ BadAt line) × TellsEnd drive left
IsNoDrive drive left EndlessDrive = (drive_end drive ≡ Endless) × TellsEnd drive left
IsNoDrive drive left NoMemory = IsStopped drive left (λ taken. Unit {0})
IsNoDrive drive left why = ⊥

-- how a command ends by a drive whose reading stopped so, and not yet if it stopped at the end
abbrev pub fault_by : Stop → Option Ended
fault_by stops.Whole = None
fault_by (stops.BadLine line) = Some (BadDrive line)
fault_by stops.TooLong = Some EndlessDrive
fault_by stops.ReadFault = Some ReadFault

-- ---- the readings

-- a text of readings is refused by an end if the end is that of its fault
abbrev pub AreRefused : (decimals : ℕ) (text : List ℕ) → Ended → Type 0
AreRefused decimals text why =
    (fault : ReadingsFault) × ((readings_in decimals text ≡ Err fault) × (why ≡ ended_for_readings fault))

-- ---- the judgement

-- what is printed of readings by the events of a drive
abbrev pub judged_text : Terms → List Event → List Reading → List ℕ
judged_text terms events found =
    cross_overs_text (setting_of_terms terms).tariff
    ++ report_text (setting_of_terms terms).tariff.step.0 (setting_of_terms terms).tariff.decimals
    (expected_of (setting_of_terms terms) events) found

-- the test `judged_pass` is true if all rows of readings pass by the events of a drive
abbrev pub judged_pass : Terms → List Event → List Reading → Bool
judged_pass terms events found =
    do_all_pass (setting_of_terms terms).tariff.step.0 (expected_of (setting_of_terms terms) events) found

-- how a command ended that printed a report of readings
abbrev pub ended_with : (pass : Bool) → Ended
ended_with true = Done
ended_with false = NotPassed
