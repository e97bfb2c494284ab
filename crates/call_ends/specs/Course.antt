-- Rules: what a command is, and the course that a call of it takes.
use Rattle.std.specs.Prelude.{[], ℕ, ◌++◌, ◌+◌, ◌≡◌, ◌≤◌, List, None, Option}
use Rattle.call_ends.specs.{Answer.{Answer}, LastLine.{no_memory_line, read_fault_line}, Stream.{Stream}}

-- A command is a record of functions of its files' contents, by their words, and of the opening image of the store.
pub record Command : Type 1 where
  -- the answer of the command
  pub answer : (contents : ℕ → List ℕ) (image : List ℕ) → Answer
  -- the drive or the requests that the command takes piece by piece, if it has such a file
  pub drive : Option Stream
  -- what the command shows when the bytes `taken` of the drive or the requests were taken
  pub shown : (contents : ℕ → List ℕ) (image taken : List ℕ) → List ℕ
  -- the words whose files the command reads
  pub reads : ℕ → Type 0
  -- the turn of a word: the command reads the file of a word with a smaller turn before that of one with a greater
  pub turn : ℕ → ℕ
  -- whether the command has read each of its files to the end if it answers with a status
  pub reads_all : (status : ℕ) → Type 0
  -- whether the command comes to a read of a word's file when the bytes `taken` of the drive or the requests were taken
  pub comes_to : (contents : ℕ → List ℕ) (image : List ℕ) (word : ℕ) (taken : List ℕ) → Type 0
  -- whether the command comes to a place where memory may run out when the bytes `taken` were taken
  pub may_lack : (contents : ℕ → List ℕ) (image taken : List ℕ) → Type 0
  -- what has to be told of the files' contents and of the image, so that the answer of the command is known
  pub told : (files_tell image_told : Type 0) → Type 0
  -- whether the command opens the store
  pub opens : Type 0
  -- whether the command may have written the store if it ends with a status
  pub writes : (ended : ℕ) → Type 0
  -- whether the command's count of steps may rise from `before` to `now`, by what is told and what is left of the files
  pub steps : (files_tell image_told : Type 0) (contents left : ℕ → List ℕ) (image : List ℕ) (before now : ℕ) → Type 0

-- a command only looks at the store if it opens the store and never writes
pub record IsReadOnlyCommand (c : Command) : Type 0 where
  pub opens : c.opens
  pub unwritten : (ended : ℕ) → ¬ c.writes ended

-- a command that shows what the store holds opens it, reads no file, takes no memory and writes nothing, in at most 64
-- steps and one for the last line
abbrev pub store_command : (answer : (image : List ℕ) → Answer) → Command
store_command answer = record {
  answer = λ contents image. answer image;
  drive = None;
  shown = λ contents image taken. [];
  reads = λ word. ⊥;
  turn = λ word. word;
  reads_all = λ status. status ≡ 0;
  comes_to = λ contents image word taken. ⊥;
  may_lack = λ contents image taken. ⊥;
  told = λ files_tell image_told. image_told;
  opens = Unit {0};
  writes = λ ended. ⊥;
  steps = λ files_tell image_told contents left image before now. now ≤ before + 64 + 1;
}

-- a course says how far a call came: it came to its answer, a read failed, memory ran out, or the board failed
pub data Course : Type 0 where
  -- the call came to its answer
  Answered : Course
  -- a read of a word's file failed, when the bytes `taken` of the drive or the requests were taken
  ReadFailed : (word : ℕ) (taken : List ℕ) → Course
  -- memory ran out
  NoMemory : Course
  -- the board failed before the answer, when the bytes `taken` of the drive or the requests were taken
  BoardFailed : (taken : List ℕ) → Course

module _ (c : Command) (contents : ℕ → List ℕ) (image : List ℕ) where
  -- the status of a course whose text is printed whole is that of the answer, 7, 12 or 8
  abbrev pub status_in : Course → ℕ
  status_in Answered = (c.answer contents image).status
  status_in (ReadFailed word taken) = 7
  status_in NoMemory = 12
  status_in (BoardFailed taken) = 8

  -- the text that is shown in a course is that of the whole answer, or what the bytes that were taken show
  abbrev pub shown_in : Course → List ℕ
  shown_in Answered = (c.answer contents image).shown
  shown_in (ReadFailed word taken) = c.shown contents image taken
  shown_in NoMemory = []
  shown_in (BoardFailed taken) = c.shown contents image taken

  -- the last line of a course is that of the answer or of the fault, and is empty if the board failed
  abbrev pub line_in : Course → List ℕ
  line_in Answered = (c.answer contents image).line
  line_in (ReadFailed word taken) = read_fault_line
  line_in NoMemory = no_memory_line
  line_in (BoardFailed taken) = []

  -- the text of a course is what is shown in it, and then its last line
  abbrev pub call_text : Course → List ℕ
  call_text course = shown_in course ++ line_in course
