-- Rules: what holds of a call, by the contents of its files, the opening image, and which counts of faults rose.
use Rattle.std.specs.Prelude.{[], ℕ, ◌++◌, ◌<◌, ◌≡◌, ◌⊎◌, List}
use Rattle.outside.specs.declared.files.Files.{Ghosts as FileGhosts}
use Rattle.call_ends.specs.{Common.{Begins, Ghosts, Rose}, Stream.{TakesBytes, TellsItsEnd, bad_status}}
use Rattle.call_ends.specs.Course.{Answered, BoardFailed, Command, Course, NoMemory, ReadFailed, call_text, status_in}

-- a call leaves a word's file as it was if its command comes to no read of it, whatever bytes of the drive or the
-- requests were taken
abbrev pub LeavesUnread : Command → (contents left : ℕ → List ℕ) (image : List ℕ) → Type 0
LeavesUnread c contents left image =
    (word : ℕ) → ((taken : List ℕ) → ¬ c.comes_to contents image word taken) → left word ≡ contents word

-- Below, `contents` are the files at the beginning of a call and `left` at its end, and `image` is the opening image. A
-- read of a word's file failed if `read_failed` holds of the word.
module _ (c : Command) (contents left : ℕ → List ℕ) (image : List ℕ) (read_failed : ℕ → Type 0)
    (board_failed : Type 0) where
  -- a call came to its answer if, at a status at which its command reads all, each of its files was read to the end. At
  -- the status of a bad stream, the bytes that were taken tell the stream's end.
  pub record IsAnswered : Type 0 where
    pub whole : c.reads_all (c.answer contents image).status → (word : ℕ) → c.reads word → left word ≡ []
    pub bad : (c.answer contents image).status ≡ bad_status c.drive → TellsItsEnd c.drive contents left

  -- a read of a word's file failed if the command reads the file, and comes to it when the bytes `taken` of the drive
  -- or the requests were taken
  pub record FailsToRead (word : ℕ) (taken : List ℕ) : Type 0 where
    pub reads : c.reads word
    pub comes : c.comes_to contents image word taken
    pub failed : read_failed word
    pub takes : TakesBytes c.drive contents left taken

  -- memory ran out if it may run out when some bytes of the drive or the requests were taken
  pub record LacksMemory : Type 0 where
    pub taken : List ℕ
    pub may : c.may_lack contents image taken
    pub takes : TakesBytes c.drive contents left taken

  -- the board failed when the bytes `taken` of the drive or the requests were taken
  pub record FailsAtBoard (taken : List ℕ) : Type 0 where
    pub failed : board_failed
    pub takes : TakesBytes c.drive contents left taken

  -- a call may take a course if what the course says has happened
  abbrev pub MayTake : Course → Type 0
  MayTake Answered = IsAnswered
  MayTake (ReadFailed word taken) = FailsToRead word taken
  MayTake NoMemory = LacksMemory
  MayTake (BoardFailed taken) = FailsAtBoard taken

-- memory may run out in a call if it may when some bytes of the drive or the requests were taken
abbrev pub MayLack : Command → (contents : ℕ → List ℕ) (image : List ℕ) → Type 0
MayLack c contents image = (taken : List ℕ) × c.may_lack contents image taken

-- a call ended whole if it has the status of its text, and all of the text was printed, if that is told
pub record IsWhole (tells_text : Type 0) (status : ℕ) (text : List ℕ) (ended : ℕ) (before now : List ℕ) : Type 0 where
  pub status_is : ended ≡ status
  pub printed : tells_text → now ≡ before ++ text

-- a call was cut short if it ended with 8, the board failed, and a beginning of its text was printed, if that is told
pub record IsCutShort (tells_text board_failed : Type 0) (text : List ℕ) (ended : ℕ)
    (before now : List ℕ) : Type 0 where
  pub status_is : ended ≡ 8
  pub failed : board_failed
  pub begun : tells_text → Begins before now text

-- a call of a status and a text ended with `ended` if it ended whole, or was cut short
abbrev pub IsEnd : (tells_text board_failed : Type 0) (status : ℕ) (text : List ℕ) (ended : ℕ) (before now : List ℕ)
    → Type 0
IsEnd tells_text board_failed status text ended before now =
    IsWhole tells_text status text ended before now ⊎ IsCutShort tells_text board_failed text ended before now

module _ {E D L : Type 0} {N : ℕ} (F : FileGhosts E) (B : Ghosts D N L) where
  -- a call of a command took a course, ended with the course's status and text, or with 8 and a beginning of the text,
  -- and left each file as it was that the command doesn't come to read
  pub record IsCall (c : Command) (files files' : E) (board board' : D) (ended : ℕ) : Type 0 where
    pub course : Course
    pub may : MayTake c (F.rest files) (F.rest files') (B.image board)
        (λ word. Rose (F.faults files word) (F.faults files' word)) (Rose (B.faults board) (B.faults board')) course
    pub ends : IsEnd B.tells_text (Rose (B.faults board) (B.faults board'))
        (status_in c (F.rest files) (B.image board) course) (call_text c (F.rest files) (B.image board) course)
        ended (B.printed board) (B.printed board')
    pub unread : LeavesUnread c (F.rest files) (F.rest files') (B.image board)

-- a call stopped reading at a word if its command reads the word's file, the count of that file's faults rose, and the
-- files of all words with a later turn are as they were
pub record StopsReading {E : Type 0} (F : FileGhosts E) (c : Command) (files files' : E) : Type 0 where
  pub word : ℕ
  pub reads : c.reads word
  pub rose : Rose (F.faults files word) (F.faults files' word)
  pub behind : (other : ℕ) → c.turn word < c.turn other → F.rest files' other ≡ F.rest files other

-- a read failed in a call if the count of faults of a file that its command reads rose
pub record HasReadFault {E : Type 0} (F : FileGhosts E) (c : Command) (files files' : E) : Type 0 where
  pub word : ℕ
  pub reads : c.reads word
  pub rose : Rose (F.faults files word) (F.faults files' word)
