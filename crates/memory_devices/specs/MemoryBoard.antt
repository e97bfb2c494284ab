-- Rules: what a board in memory is.
use Rattle.std.specs.Prelude.{[], ℕ, ◌++◌, ◌+◌, ◌-◌, ◌^◌, ◌∷◌, ◌≡◌, ◌⊎◌, Contains, List, count_by, false, length, min}
use Rattle.{std.specs.Prelude.{suc, true, zero}, outside.specs.Faults.{one_more}}
use Rattle.memory_devices.specs.Calls.{Call, CallOutcome, Contents, IsInSome, after, after_all, begun, opened}
use Rattle.memory_devices.specs.{Common.{Elapses, IsImage}, Moments.{LeftSince}}

-- a board in memory is the image that it opened with, the numbers of the calls that fail, the calls that were kept, and
-- how many calls found no memory
pub record BoardState : Type 0 where
  pub start : List ℕ
  pub fail : List ℕ
  pub calls : List CallOutcome
  pub refused : ℕ

-- a new board has an image and the numbers of the calls that will fail, and no call was made of it
abbrev pub new_board : List ℕ → List ℕ → BoardState
new_board image fail = record { start = image; fail = fail; calls = []; refused = 0 }

-- a board holds what its kept calls leave of the image that it opened with
abbrev pub contents_of : BoardState → Contents
contents_of board = after_all (opened board.start) board.calls

-- the image of a board is the bytes that a read gives
abbrev pub image_of : BoardState → List ℕ
image_of board = (contents_of board).image

-- a place of a board is in flight if it was written since the last good sync, so that a cut may leave any byte there
abbrev pub in_flight_of : BoardState → ℕ → Type 0
in_flight_of board place = IsInSome (contents_of board).ranges place

-- the text of a board is all that was printed
abbrev pub text_of : BoardState → List ℕ
text_of board = (contents_of board).text

-- the moment of a board is the number of calls that were kept
abbrev pub moment_of : BoardState → ℕ
moment_of board = length board.calls

-- an image and a text are left since the moment `start` if a cut at it or later might have left them
abbrev pub left_since_of : BoardState → ℕ → List ℕ → List ℕ → Type 0
left_since_of board start left_image left_text = LeftSince (opened board.start) board.calls start left_image left_text

-- the faults of a board are the calls that failed by their numbers and those that found no memory, as many as 64 bits
-- count
abbrev pub faults_of : BoardState → ℕ
faults_of board = min (board.refused + count_by (λ kept. kept.failed) board.calls) (2 ^ 64 - 1)

-- a device of `size` bytes is a board in memory whose image has that size
pub record Memory (size : ℕ) : Type 0 where
  pub state : BoardState
  pub is_image : IsImage size (image_of state)

-- a board is new with an image if a read gives it, nothing is in flight or printed, there were no faults, the moment is
-- 0, and a cut might have left only that image and no text
pub record IsNew (image : List ℕ) (board : BoardState) : Type 0 where
  pub image_is : image_of board ≡ image
  pub settled : (place : ℕ) → ¬ in_flight_of board place
  pub text_is : text_of board ≡ []
  pub faults_are : faults_of board ≡ 0
  pub moment_is : moment_of board ≡ 0
  pub left : (left_image left_text : List ℕ) → left_since_of board 0 left_image left_text
      → (left_image ≡ image) × (left_text ≡ [])

-- the next call of a board is listed if its number is one of those that fail
abbrev pub IsListedCall : BoardState → Type 0
IsListedCall board = Contains board.fail (length board.calls + 1)

-- after a call that was kept and didn't fail the board has that call behind those that it kept before
abbrev pub done_on : BoardState → Call → BoardState
done_on board call = record board { calls = board.calls ++ record { call = call; failed = false } ∷ [] }

-- after a call that was kept and failed the board has it, as one that failed, behind those that it kept before
abbrev pub failed_on : BoardState → Call → BoardState
failed_on board call = record board { calls = board.calls ++ record { call = call; failed = true } ∷ [] }

-- after a call that found no memory the board is the same, with one more such call counted
abbrev pub refused_on : BoardState → BoardState
refused_on board = record board { refused = one_more board.refused }

-- a call is done if it isn't listed, and was kept as one that didn't fail
abbrev pub IsDone : BoardState → Call → BoardState → Type 0
IsDone old call new = (¬ IsListedCall old) × (new ≡ done_on old call)

-- a call is undone if it is listed and was kept as one that failed, or if it found no memory
abbrev pub IsUndone : BoardState → Call → BoardState → Type 0
IsUndone old call new = (IsListedCall old × (new ≡ failed_on old call)) ⊎ (new ≡ refused_on old)

-- time passes between two states of a board with an outcome if it goes on from the first one's moment to the second's,
-- and a cut might have left only that outcome more
abbrev pub TimePasses : BoardState → BoardState → (List ℕ → List ℕ → Type 0) → Type 0
TimePasses old new outcome = Elapses (moment_of old) (moment_of new) (left_since_of old) (left_since_of new) outcome

-- inside a call, numbered from 1, the board holds what the calls before it left, with that call begun; number 0 is
-- before the first call
abbrev pub inside : Contents → List CallOutcome → ℕ → Contents
inside held calls zero = held
inside held [] (suc number) = held
inside held (kept ∷ more) (suc zero) = begun held kept.call
inside held (kept ∷ more) (suc (suc number)) = inside (after held kept) more (suc number)

-- a cut inside the call with a number finds what a board that opened with its image holds there
abbrev pub contents_inside : BoardState → ℕ → Contents
contents_inside board number = inside (opened board.start) board.calls number
