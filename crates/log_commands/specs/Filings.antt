-- For proofs: what filing receipts leaves of the log and of its end in memory. Calls and FilingEnds say what it gives.
use Rattle.std.specs.Prelude.{ℕ, ◌*◌, ◌++◌, ◌+◌, ◌≡◌, ◌≤◌, Err, List, None, Ok, Option, Result, Some, length}
use Rattle.{outside.specs.declared.fault.Failed.{Failed}, log_commands.specs.Common.{FileEnd, Ghosts, LeavesOnly}}
use Rattle.log_commands.specs.{Appends.{IsReady}, LogList.{last_ones}}
use Rattle.log_commands.specs.{Filed.{Files, IsFiledOf}, Reading.{HasRead, Place}, declared.tail.Tail.{Tail}}
use Rattle.log_commands.specs.{FilingEnds.{EndsAs, IsTold, StandsForSome, newest_of}, Record.{IsRecord, Record}}
use Rattle.log_commands.specs.declared.file_roll.FileEnd.TheVariants as ends
pub use Rattle.log_commands.specs.FilingEnds.{EndsAs, IsTold, StandsForSome, newest_after, newest_of}

-- a newest record is sound, whatever the board tells, if it is a record whose place in the log is at most its number;
-- the place is 0 if there is none
abbrev pub IsLast : (last : ℕ) → Option Record → Type 0
IsLast last None = last ≡ 0
IsLast last (Some newest) = IsRecord newest × (last ≤ newest.number)

-- a read may have failed in a filing that ends so, but not if the roll was read to its end or is too long
abbrev pub MayHaveFailed : Result FileEnd Failed → Type 0
MayHaveFailed (Ok (ends.Filed count)) = ⊥
MayHaveFailed (Ok (ends.OtherTaxi place)) = Unit {0}
MayHaveFailed (Ok ends.TooLong) = ⊥
MayHaveFailed (Ok ends.ReadFault) = Unit {0}
MayHaveFailed (Err failed) = Unit {0}

-- a tail is that of a list if the image stands for the last 256 of the list, nothing is in flight, and the tail tells
-- how the list ends
pub record IsTailOf (image : List ℕ) (in_flight : ℕ → Type 0) (tail : Tail) (records : List Record) : Type 0 where
  pub ready : IsReady image in_flight tail.last tail.is_open (last_ones 256 records)
  pub newest : newest_of records ≡ tail.newest

module _ {D L : Type 0} {N : ℕ} (B : Ghosts D N L) (told : Type 0) where
  -- a run leaves some of a filing if a cut at any moment of it leaves a log that stands for the found list with some
  -- first ones of the filed behind it
  abbrev pub LeavesSome : (old new : D) (first : Tail) (filed : List Record) → Type 0
  LeavesSome old new first filed = told → (records : List Record)
      → IsTailOf (B.image old) (B.in_flight old) first records
      → LeavesOnly B old new (λ image text. StandsForSome records filed image)

  -- a run files receipts if it goes through them, none is of another taxi, and the log then stands for the found list
  -- with the filed behind it
  pub record FilesTo (old new : D) (first last : Tail) (receipts filed : List Record) : Type 0 where
    pub files : Files first.newest receipts filed last.newest
    pub count : last.filed ≡ first.filed + length filed
    pub stands : told → (records : List Record) → IsTailOf (B.image old) (B.in_flight old) first records
        → IsTailOf (B.image new) (B.in_flight new) last (records ++ filed)
    pub moments : LeavesSome old new first filed

module _ {D L : Type 0} {N : ℕ} (B : Ghosts D N L) (told_log told_files : Type 0) where
  -- a run files a roll if it files receipts of it and ends so, in at most 6 steps for each that is filed
  pub record FilesRoll (old new : D) (first last : Tail) (roll rest : List ℕ) (end : FileEnd) (steps steps' : ℕ)
      : Type 0 where
    pub receipts : List Record
    pub filed : List Record
    pub to : FilesTo B told_log old new first last receipts filed
    pub ends : told_files → EndsAs end first.newest roll rest filed last.newest
    pub of : told_files → IsFiledOf first.newest roll rest filed
    pub told : IsTold end filed
    pub few : steps' ≤ steps + 6 * length filed

  -- a run fails amid a roll if the board fails: the last of these receipts is perhaps filed, and those before it are
  pub record FailsInRoll (old new : D) (first : Tail) (roll rest : List ℕ) (steps steps' : ℕ) : Type 0 where
    pub receipts : List Record
    pub filed : List Record
    pub last : Option Record
    pub files : Files first.newest receipts filed last
    pub moments : LeavesSome B told_log old new first filed
    pub of : told_files → IsFiledOf first.newest roll rest filed
    pub few : steps' ≤ steps + 6 * length filed

  -- a run is filing a roll if it has filed receipts of it so far, and has seen `seen` of them
  pub record IsFiling (old new : D) (first last : Tail) (roll : List ℕ) (place : Place) (rest : List ℕ)
      (seen steps steps' : ℕ) : Type 0 where
    pub receipts : List Record
    pub filed : List Record
    pub to : FilesTo B told_log old new first last receipts filed
    pub read : told_files → HasRead roll place rest receipts
    pub seen_is : seen ≡ length receipts
    pub few : steps' ≤ steps + 6 * length filed
