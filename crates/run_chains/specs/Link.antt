-- Rules: one run of a chain, and the cut of the power in it.
use Rattle.std.specs.Prelude.{[], ℕ, ◌+◌, ◌-◌, ◌≡◌, ◌≢◌, ◌≤◌, Err, List, None, Ok, Option, Result, Some, length, min}
use Rattle.{std.specs.Prelude.{take}, outside.specs.Faults.{Rose}, memory_devices.specs.MemoryBoard.{contents_inside}}
use Rattle.{memory_devices.specs.Calls.{IsInSome}, call_ends.specs.Course.{Course, call_text, line_in, status_in}}
use Rattle.{call_ends.specs.Call.{LeavesUnread, MayTake}, drive_commands.specs.Run.{bytes_in, run_command}}
use Rattle.run_chains.specs.Common.{BoardState, Change, Deed, Durable, Ended, FilesState, Fill, GrowsBy, HasState}
use Rattle.run_chains.specs.Common.{IsCutOfRun, IsOfTotals, SameBut, Start, changes_of, deeds_in, image_of}
use Rattle.run_chains.specs.Common.{left_since_of, opening_in, rest_of, start_of, text_of}

-- A run of a chain is told by what its files held and what is left of them, its board as the run left it, how the power
-- was cut, how far the run came, and its status. What is left behind it is the next image, the state for which that
-- image stands, the number of that state, and what had been printed. A cut is one inside the board's call with a
-- number, and what it makes of the bytes in flight.
pub record Link : Type 0 where
  pub files : FilesState
  pub files_left : FilesState
  pub board : BoardState
  pub cut : Option (ℕ × Fill)
  pub course : Course
  pub status : ℕ
  pub image : List ℕ
  pub found : Durable
  pub number : ℕ
  pub text : List ℕ

-- a cut comes inside the call with its number, or inside the last one if the number is above that
abbrev pub call_of : BoardState → (number : ℕ) → ℕ
call_of board number = min number (length board.calls)

-- what had been printed is all of a board's text if there is no cut, and else the text that the board holds inside the
-- call of the cut
abbrev pub text_before : Option (ℕ × Fill) → BoardState → List ℕ
text_before None board = text_of board
text_before (Some (number, fill)) board = (contents_inside board (call_of board number)).text

-- an image is left inside a call of a board if it has each byte that the board holds there, but those in flight
abbrev pub IsLeftInside : BoardState → (call : ℕ) → List ℕ → Type 0
IsLeftInside board call image =
    SameBut (IsInSome (contents_inside board call).ranges) (contents_inside board call).image image

-- a run does the deeds of the bytes of its drive from its start on, and nothing if it is refused before the drive
abbrev pub deeds_from : Result Start Ended → (bytes : List ℕ) → List Deed
deeds_from (Err why) bytes = []
deeds_from (Ok start) bytes = deeds_in start bytes

module _ (image : List ℕ) (link : Link) where
  -- a run over an image begins with the start that the image and its tariff give, or is refused
  abbrev pub begun_with : Result Start Ended
  begun_with = start_of (opening_in image) (rest_of link.files 1)

  -- the bytes of its drive that a run carried out are the whole drive if it came to its answer, and else the bytes that
  -- were taken
  abbrev pub bytes_done : List ℕ
  bytes_done = bytes_in link.course (rest_of link.files 2)

  -- the deeds that a run has done are the deeds over the bytes that it carried out
  abbrev pub deeds_done : List Deed
  deeds_done = deeds_from begun_with bytes_done

  -- the commits that a run has done are the commits of its deeds, in order
  abbrev pub commits_done : List Change
  commits_done = changes_of deeds_done

  -- the last line of a run is the one of its course
  abbrev pub last_line : List ℕ
  last_line = line_in run_command (rest_of link.files) image link.course

  -- a pair of an image and a text is a point of a run if a cut of the power may leave it of the run
  abbrev pub IsCutOfLink : (left_image left_text : List ℕ) → Type 0
  IsCutOfLink left_image left_text =
      IsCutOfRun (Unit {0}) image [] begun_with bytes_done last_line left_image left_text

-- the prefix of a run is the commits that the next image has, as many as its number is above that of the state before
abbrev pub prefix_of : (durable : Durable) (image : List ℕ) → Link → List Change
prefix_of durable image link = take (link.number - durable.number) (commits_done image link)

-- A run of a chain is one over an image that stands for a durable state, if its course, its status, its commits, the
-- next image and what had been printed are as the fields say. That its board is the one on which the run was carried
-- out is said of the runs of a chain, by AreCalls in Chain.
pub record IsLink (durable : Durable) (image : List ℕ) (link : Link) : Type 0 where
  -- the run came to its answer over the whole drive, with the status of the command's definition, or to a read that
  -- failed, with 7; memory didn't run out, and the board didn't fail
  pub may : MayTake run_command (rest_of link.files) (rest_of link.files_left) image
      (λ word. Rose link.files.failed link.files_left.failed) ⊥ link.course
  pub status : link.status ≡ status_in run_command (rest_of link.files) image link.course
  pub memory : link.status ≢ 12
  -- the run read no file but those of its words, and none of these before it came to read it
  pub others : (word : ℕ) → word ≢ 1 → word ≢ 2 → rest_of link.files_left word ≡ rest_of link.files word
  pub unread : LeavesUnread run_command (rest_of link.files) (rest_of link.files_left) image
  -- the next number is no smaller than the one before, and no greater than with all commits of the run
  pub least : durable.number ≤ link.number
  pub most : link.number ≤ durable.number + length (commits_done image link)
  -- the next image stands for the state after as many commits of the run
  pub stands : HasState link.image link.found
  pub number : link.number ≡ link.found.number
  pub follows : GrowsBy durable link.found (prefix_of durable image link)
  -- the commits are all those of the run if the power wasn't cut, and none if it was cut before the first call
  pub whole : link.cut ≡ None → link.number ≡ durable.number + length (commits_done image link)
  pub none : (fill : Fill) → link.cut ≡ Some (0, fill) → (link.image ≡ image) × (link.number ≡ durable.number)
  -- the board has printed the text of the run, and at each of its moments a cut leaves a point of the run
  pub printed : text_of link.board ≡ call_text run_command (rest_of link.files) image link.course
  pub moments : (left_image left_text : List ℕ) → left_since_of link.board 0 left_image left_text
      → IsCutOfLink image link left_image left_text
  -- the next image and what had been printed are those of the board: in the end, or inside the call of the cut
  pub text_is : link.text ≡ text_before link.cut link.board
  pub uncut : link.cut ≡ None → link.image ≡ image_of link.board
  pub inside : (call : ℕ) (fill : Fill) → link.cut ≡ Some (call, fill) → call ≢ 0
      → IsLeftInside link.board (call_of link.board call) link.image
  -- the bytes of the seal stay
  pub seal_stays : SameBut IsOfTotals image link.image
  -- the next image and what had been printed are a pair that a cut of the power leaves of the run
  pub pair : IsCutOfLink image link link.image link.text
