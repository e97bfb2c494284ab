-- For proofs: what the command `run` has before its last line is printed. Run says what a run is.
use Rattle.std.specs.{Option.{ForSome}, Prelude.{ℕ, ◌≡◌, ◌≢◌, Err, List, Ok}}
use Rattle.outside.specs.{Runs.{IsAtRest, MayHold}, declared.files.Files.{Ghosts as FileGhosts}}
use Rattle.call_ends.specs.{Ending.{EndsOnDevices, IsRefusal}, Unwritten.{LeavesUnwritten}}
use Rattle.call_ends.specs.declared.ending.Ended.TheVariants.{BoardFault, NoMemory, ReadFault}
use Rattle.drive_commands.specs.Common.{Begins, CommitsInTurn, Durable, Ended, Fits, Ghosts, IsSealedIn, IsTablesOf}
use Rattle.drive_commands.specs.Common.{LeavesFromSync, Seal, TableParts, Tree, changes_of, line_of, opening_in}
use Rattle.drive_commands.specs.{Common.{sealed_tariff, status_of, tables_of}, Run.{start_of, start_with}}
use Rattle.drive_commands.specs.Run.{IsCutOfCourse, StandsAfterRun, Start, bytes_in, deeds_in, run_command, start_at}

-- ---- the tables of the sealed tariff

-- tables are sealed ones if they are those of a text's tariff, and the tariff is the sealed one
pub record AreSealedTables (seal : Seal) (text : List ℕ) (tables : TableParts) : Type 0 where
  pub tree : Tree
  pub accepted : sealed_tariff seal.digest text ≡ Ok tree
  pub compiled : IsTablesOf tree tables
  pub value : tables ≡ tables_of tree seal.params.constant

-- ---- how a run begins

-- a run has begun with a durable state, a seal and these tables if they are those of its start, and the held trip fits
-- them
pub record HasBegun (durable : Durable) (seal : Seal) (tariff : List ℕ) (tables : TableParts) : Type 0 where
  pub tree : Tree
  pub starts : start_with durable seal (sealed_tariff seal.digest tariff)
      ≡ Ok (record { durable = durable; seal = seal; tree = tree })
  pub compiled : IsTablesOf tree tables
  pub value : tables ≡ tables_of tree seal.params.constant
  pub fits : ForSome durable.hold (Fits tables)

-- a run hasn't begun over a sealed store if a read failed, memory ran out, or it is refused
abbrev pub HasNotBegun : (image tariff : List ℕ) → (read_failed : Type 0) → Ended → Type 0
HasNotBegun image tariff read_failed ReadFault = read_failed × IsSealedIn image
HasNotBegun image tariff read_failed NoMemory = IsSealedIn image
HasNotBegun image tariff read_failed BoardFault = ⊥
HasNotBegun image tariff read_failed why = (start_of (opening_in image) tariff ≡ Err why) × IsRefusal why

-- ---- what it leaves

module _ {E D L : Type 0} {N : ℕ} (F : FileGhosts E) (B : Ghosts D N L) where
  -- a run reached its last line, or a fault of the board before it, if all holds of it that `IsRun` says
  pub record RunReachesLine (files files' : E) (old new : D) (ended : Ended) : Type 0 where
    pub comes : EndsOnDevices F B run_command files files' old new ended
    pub stands : ended ≢ BoardFault → StandsAfterRun B.tells_text (B.image old) (B.printed old) (start_at F B files old)
        (bytes_in comes.course (F.rest files 2)) (B.image new)
    pub leaves : LeavesFromSync B (status_of ended ≡ 8) old new (IsCutOfCourse F B files old comes.course)
    -- a cut while the last line is printed leaves such a place too
    pub rests : ended ≢ BoardFault → (left_image left_text : List ℕ)
        → MayHold (B.image new) (B.in_flight new) left_image
        → (B.tells_text → Begins (B.printed new) left_text (line_of ended))
        → IsCutOfCourse F B files old comes.course left_image left_text
    pub settled : ended ≢ BoardFault → IsAtRest B new
    pub unwritten : (why : Ended) → start_at F B files old ≡ Err why → LeavesUnwritten B old new
    pub same : (why : Ended) → start_at F B files old ≡ Err why → ended ≢ BoardFault → B.image new ≡ B.image old
    pub turn : (start : Start) → start_at F B files old ≡ Ok start → ended ≢ BoardFault
        → CommitsInTurn B start.durable (changes_of (deeds_in start (bytes_in comes.course (F.rest files 2)))) old new
