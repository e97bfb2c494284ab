-- Rules: how a call of the program ends, what it prints, and what it leaves of the log.
use Rattle.std.specs.Prelude.{[], ℕ, ◌*◌, ◌++◌, ◌+◌, ◌<◌, ◌∷◌, ◌≡◌, ◌≢◌, ◌≤◌, ◌⊎◌, List, None, Option, Some, length}
use Rattle.outside.specs.{Runs.{IsAtRest, MayHold}, declared.files.Files.{Ghosts as FileGhosts}}
use Rattle.log_commands.specs.Common.{BadLog, BadWords, Begins, BoardFault, BrokenLog, Call, Ended, File, FileEnd}
use Rattle.log_commands.specs.Common.{Filed, Ghosts, LeavesFromSync, LeavesOnly, Listed, OtherTaxi, ReadFault, Rose}
use Rattle.log_commands.specs.{Common.{Rows, SameBut, Show, Shown, TooLong, stream_limit}, Endings.{line_of, status_of}}
use Rattle.log_commands.specs.{Filed.{EndsAt, IsFiledOf}, ShownLog.{texts_of}, Unread.{IsBroken, IsLowestBad}}
use Rattle.log_commands.specs.{FilingEnds.{EndsAs, IsTold, StandsForSome, newest_of}, LogList.{StandsFor, last_ones}}
use Rattle.log_commands.specs.{Record.{Record}, Roll.{Reads}}
use Rattle.log_commands.specs.declared.file_roll.FileEnd.TheVariants as ends

-- filing a roll again into the log of an image appends nothing if no receipts are filed of any beginning of the roll
abbrev pub AppendsNothing : (image roll : List ℕ) → Type 0
AppendsNothing image roll =
    (records filed : List Record) (rest : List ℕ) → StandsFor records image
    → IsFiledOf (newest_of records) roll rest filed → filed ≡ []

-- what IsCall says of a call is known of words that are no command, of `show` if the log's image is told, and of `file`
-- if the contents of the roll are told too; of `rows` IsRowsCall says it, in RowsCalls
abbrev pub known_of : Option Call → (files_tell image_told : Type 0) → Type 0
known_of None files_tell image_told = Unit {0}
known_of (Some Show) files_tell image_told = image_told
known_of (Some File) files_tell image_told = files_tell × image_told
known_of (Some Rows) files_tell image_told = ⊥

-- a call may end with these statuses, whatever is told: refused words with 1, `show` with 0, 2 and 3, `file` with 0, 2,
-- 3, 4, 5 and 7, `rows` with 0, 5 and 7, and each of them with 8
abbrev pub MayHave : Option Call → (status : ℕ) → Type 0
MayHave None status = (status ≡ 1) ⊎ (status ≡ 8)
MayHave (Some Show) status = (status ≡ 0) ⊎ ((status ≡ 2) ⊎ ((status ≡ 3) ⊎ (status ≡ 8)))
MayHave (Some File) status = (status ≤ 8) × ((status ≢ 1) × (status ≢ 6))
MayHave (Some Rows) status = (status ≡ 0) ⊎ ((status ≡ 5) ⊎ ((status ≡ 7) ⊎ (status ≡ 8)))

-- a read of the roll may have failed in a call that ends with this status: at 7 one has, and at 4 and 8 one may have,
-- since what was taken of the roll before it is still gone through
abbrev pub MayHaveReadFault : (status : ℕ) → Type 0
MayHaveReadFault status = (status ≡ 4) ⊎ ((status ≡ 7) ⊎ (status ≡ 8))

-- the steps of a call are bounded, of refused words by 1 and of `show` by 771; `IsCall` bounds those of `file` by what
-- it files, and `IsRowsCall` those of `rows` by the receipts of the roll
abbrev pub AreFew : Option Call → (before now : ℕ) → Type 0
AreFew None before now = now ≤ before + 1
AreFew (Some Show) before now = now ≤ before + 771
AreFew (Some File) before now = Unit {0}
AreFew (Some Rows) before now = Unit {0}

-- words are a command if they call for something that the program does
abbrev pub IsCommand : Option Call → Type 0
IsCommand call = (command : Call) × (call ≡ Some command)

-- of a call: what its words call, the image at its start, the roll, and what is left of the roll in the end
module _ (call : Option Call) (image roll rest : List ℕ) where
  -- a call files a roll up to an end if it is `file`, its image stands for the list found, and the receipts filed
  -- behind that list are those of the bytes taken which the end says
  pub record FilesUpTo (end : FileEnd) (found filed : List Record) : Type 0 where
    pub command : call ≡ Some File
    pub stands : StandsFor found image
    pub of : IsFiledOf (newest_of found) roll rest filed
    pub last : Option Record
    pub ends : EndsAs end (newest_of found) roll rest filed last
    pub told : IsTold end filed

  -- a filing ends in the roll at a place if the whole roll, and not only its bytes taken, has its first receipt of
  -- another taxi there
  abbrev pub EndsInRoll : (found filed : List Record) → (place : ℕ) → Type 0
  EndsInRoll found filed place = (last : Option Record) × EndsAt (newest_of found) roll filed last place

  -- a call breaks off if nothing is filed yet, or amid a filing of the roll, whose last receipt is then perhaps filed
  abbrev pub BreaksOff : (found filed : List Record) → Type 0
  BreaksOff found filed = (filed ≡ []) ⊎ (StandsFor found image × IsFiledOf (newest_of found) roll rest filed)

-- of a call also: whether the count of faults of its roll rose, and that of its board
module _ (call : Option Call) (image roll rest : List ℕ) (read_failed board_failed : Type 0) where
  -- a call but `rows` may end so if it has the end's reason, with the list that was found and the receipts that were
  -- filed
  abbrev pub MayEnd : Ended → (found filed : List Record) → Type 0
  MayEnd (Filed count) found filed = FilesUpTo call image roll rest (ends.Filed count) found filed
  MayEnd Shown found filed = (call ≡ Some Show) × StandsFor found image
  MayEnd Listed found filed = ⊥
  MayEnd BadWords found filed = call ≡ None
  MayEnd (BadLog slot) found filed = IsCommand call × IsLowestBad image slot
  MayEnd BrokenLog found filed = IsCommand call × IsBroken image
  MayEnd (OtherTaxi place) found filed =
      FilesUpTo call image roll rest (ends.OtherTaxi place) found filed
      × EndsInRoll call image roll rest found filed place
  MayEnd TooLong found filed = FilesUpTo call image roll rest ends.TooLong found filed
  MayEnd ReadFault found filed = FilesUpTo call image roll rest ends.ReadFault found filed × read_failed
  MayEnd BoardFault found filed = BreaksOff call image roll rest found filed × board_failed

-- before its last line an end of the program shows the texts of the list that was found, if the log is shown, and else
-- nothing
abbrev pub shown_of : Ended → (found : List Record) → List ℕ
shown_of Shown found = texts_of found
shown_of ended found = []

-- the text of an end of the program is what it shows, and then its last line
abbrev pub text_of : Ended → (found : List Record) → List ℕ
text_of ended found = shown_of ended found ++ line_of ended

module _ {D L : Type 0} {N : ℕ} (B : Ghosts D N L) where
  -- a call ends whole if its status is that of its end, and the text of its end was printed, if the text is told
  pub record IsWhole (ended : Ended) (found : List Record) (log log' : D) (status : ℕ) : Type 0 where
    pub status_is : status ≡ status_of ended
    pub printed : B.tells_text → B.printed log' ≡ B.printed log ++ text_of ended found

  -- a call is cut short if the board failed: its status is 8, and a beginning of the text of its end was printed, if
  -- the text is told
  pub record IsCutShort (ended : Ended) (found : List Record) (log log' : D) (status : ℕ) : Type 0 where
    pub status_is : status ≡ 8
    pub failed : Rose (B.faults log) (B.faults log')
    pub begun : B.tells_text → Begins (B.printed log) (B.printed log') (text_of ended found)

  -- a filing leaves the log of a list if, from the opening sync on, a cut at any moment leaves the last 256 or the last
  -- 255 of the list with some first ones of the filed behind it. Unless the board failed, the log then stands for the
  -- last 256 of the list with all of the filed behind it, and nothing is in flight
  pub record LeavesLog (list filed : List Record) (log log' : D) (status : ℕ) : Type 0 where
    pub moments : LeavesFromSync B (status ≡ 8) log log'
        (λ left_image left_text. StandsForSome list filed left_image)
    pub stands : status ≢ 8 → StandsFor (last_ones 256 (list ++ filed)) (B.image log')
    pub settled : status ≢ 8 → IsAtRest B log'

  -- a call leaves the log unwritten if a byte may have changed only at places where some were in flight, and none has
  -- unless the board failed. At no moment might a cut have left an image that it couldn't have left before
  pub record LeavesLogUnwritten (log log' : D) (status : ℕ) : Type 0 where
    pub image : SameBut (B.in_flight log) (B.image log) (B.image log')
    pub same : status ≢ 8 → B.image log' ≡ B.image log
    pub flight : (place : ℕ) → B.in_flight log' place → B.in_flight log place
    pub moments : LeavesOnly B log log' (λ left_image left_text. MayHold (B.image log) (B.in_flight log) left_image)

-- a call takes nothing of the roll if it is neither `file` nor `rows`, or if its words or its log are refused
abbrev pub TakesNothing : Option Call → (status : ℕ) → Type 0
TakesNothing call status = ((call ≢ Some File) × (call ≢ Some Rows)) ⊎ ((1 ≤ status) × (status ≤ 3))

-- a call writes nothing if it isn't `file`, or if its words or its log are refused
abbrev pub WritesNothing : Option Call → (status : ℕ) → Type 0
WritesNothing call status = (call ≢ Some File) ⊎ ((1 ≤ status) × (status ≤ 3))

module _ {E D L : Type 0} {N : ℕ} (F : FileGhosts E) (B : Ghosts D N L) where
  -- a call is carried out if it ends for its reason, and prints its text, whole or cut short; if it is `file` it leaves
  -- what a filing leaves of the list for which its log stands, and takes at most 260 steps and 6 for each filed receipt
  pub record IsCall (call : Option Call) (files files' : E) (log log' : D) (steps steps' status : ℕ) : Type 0 where
    pub ended : Ended
    pub found : List Record
    pub filed : List Record
    pub may : MayEnd call (B.image log) (F.rest files 1) (F.rest files' 1) (Rose (F.faults files 1) (F.faults files' 1))
        (Rose (B.faults log) (B.faults log')) ended found filed
    pub ends : IsWhole B ended found log log' status ⊎ IsCutShort B ended found log log' status
    pub leaves : call ≡ Some File → (list : List Record) → StandsFor list (B.image log)
        → LeavesLog B list filed log log' status
    pub few : call ≡ Some File → steps' ≤ steps + 260 + 6 * length filed

-- receipts are of a taxi if each of them says it
abbrev pub IsOfTaxi : (taxi : List ℕ) → List Record → Type 0
IsOfTaxi taxi [] = Unit {0}
IsOfTaxi taxi (it ∷ more) = (it.taxi ≡ taxi) × IsOfTaxi taxi more

-- a newest record is of a taxi if it says it, or if there is none
abbrev pub IsNewestOf : (taxi : List ℕ) → Option Record → Type 0
IsNewestOf taxi None = Unit {0}
IsNewestOf taxi (Some newest) = newest.taxi ≡ taxi

-- a roll is of one taxi if all receipts that reading it gives, however far, are of one taxi, of which the newest record
-- of the log is too
pub record IsOneTaxi (roll : List ℕ) (newest : Option Record) : Type 0 where
  pub taxi : List ℕ
  pub receipts : (receipts : List Record) (rest : List ℕ) → Reads roll receipts rest → IsOfTaxi taxi receipts
  pub newest_is : IsNewestOf taxi newest

-- a roll is fit for `rows` if it has fewer than 2^40 bytes, and for `file` if it is also of one taxi, of which the
-- newest record of the log is too; `show` takes none
abbrev pub IsFit : Call → (roll : List ℕ) → (newest : Option Record) → Type 0
IsFit Show roll newest = Unit {0}
IsFit File roll newest = (length roll < stream_limit) × IsOneTaxi roll newest
IsFit Rows roll newest = length roll < stream_limit
