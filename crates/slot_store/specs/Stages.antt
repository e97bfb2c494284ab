-- Rules: the three stages in which a pair of slots gets a new body.
use Rattle.std.specs.Prelude.{ℕ, ◌-◌, ◌<◌, ◌≡◌, ◌≤◌, Bool, List, None, Option, Some, false, is_some}
use Rattle.{slot_bodies.specs.declared.body.Body.{Ghosts as BodyGhosts}, slot_store.specs.Common.{Ghosts, Pair, Place}}
use Rattle.slot_store.specs.{Sizes.{last_pair, slot_size}, Writes.{LeavesThroughout, WritesIn}}
use Rattle.slot_store.specs.Slots.{HasBody, IsBlank, IsClosed, IsOpen, IsQuiet, IsSettled, Shows, ShowsEither, slot_at}

-- the kept slot is the one with the latest body, or slot 1 of a blank pair
abbrev pub kept_slot : Option Place → ℕ
kept_slot None = 1
kept_slot (Some place) = place.slot

-- the kept slot begins at the place of its number in the pair
abbrev pub kept_at : Pair → ℕ
kept_at pair = slot_at pair.at (kept_slot pair.latest)

-- the spare slot, which is written next, is the one that isn't kept
abbrev pub spare_slot : Option Place → ℕ
spare_slot latest = 1 - kept_slot latest

-- the spare slot begins at the place of its number in the pair
abbrev pub spare_at : Pair → ℕ
spare_at pair = slot_at pair.at (spare_slot pair.latest)

-- the test `is_spare_open` is true if the gate of the slot that is written next is open, which it isn't in a blank
-- pair
abbrev pub is_spare_open : Option Place → Bool
is_spare_open None = false
is_spare_open (Some place) = place.other_open

-- the place of a new body, once its gate is open, is in the slot that is written next, beside an open one if the
-- pair had a body before
abbrev pub new_place : Pair → Place
new_place pair = record { slot = spare_slot pair.latest; other_open = is_some pair.latest }

-- a pair lies in the store if it begins at 1,024 at most, and the slot that is kept is slot 0 or 1
pub record IsPair (pair : Pair) : Type 0 where
  pub at_in : pair.at ≤ last_pair
  pub slot_in : kept_slot pair.latest ≤ 1

-- the latest body is before a number if its own number is below it, or if there is no body
abbrev pub IsBefore : {T : Type 0} → (T → ℕ) → Option T → ℕ → Type 0
IsBefore number_of None number = Unit {0}
IsBefore number_of (Some body) number = number_of body < number

module _ {T : Type 0} (reads : List ℕ → Option T) where
  -- the slot that begins at `start` keeps the latest body if it is open with it, and keeps none if it is closed
  abbrev pub HasLatestBody : ℕ → List ℕ → Option T → Type 0
  HasLatestBody start image None = IsClosed start image
  HasLatestBody start image (Some body) = IsOpen reads start image (Some body)

  -- a pair is shut, before the second stage, if nothing of it is in flight, the slot that is written next is closed,
  -- and the other one keeps the latest body
  pub record IsShut (pair : Pair) (image : List ℕ) (in_flight : ℕ → Type 0) (latest : Option T) : Type 0 where
    pub known : is_some latest ≡ is_some pair.latest
    pub quiet : IsQuiet pair.at in_flight
    pub spare : IsClosed (spare_at pair) image
    pub kept : HasLatestBody (kept_at pair) image latest

module _ {T : Type 0} (reads : List ℕ → Option T) (number_of : T → ℕ) where
  -- a pair at `at` is ready with no body if it is blank with nothing in flight, and with the latest body if it is
  -- settled with it at its place
  abbrev pub IsReadyAt : ℕ → Option Place → List ℕ → (ℕ → Type 0) → Option T → Type 0
  IsReadyAt at None image in_flight None = IsBlank at image × IsQuiet at in_flight
  IsReadyAt at None image in_flight (Some body) = ⊥
  IsReadyAt at (Some place) image in_flight None = ⊥
  IsReadyAt at (Some place) image in_flight (Some body) = IsSettled reads number_of at place image in_flight body

  -- a pair is ready, before the first stage, if it is blank or settled with the latest body, as its place says
  abbrev pub IsReady : Pair → List ℕ → (ℕ → Type 0) → Option T → Type 0
  IsReady pair image in_flight latest = IsReadyAt pair.at pair.latest image in_flight latest

  -- a pair is written, before the third stage, if it is shut, and the closed slot has the new body, whose number is
  -- greater than that of the latest
  pub record IsWritten (pair : Pair) (image : List ℕ) (in_flight : ℕ → Type 0) (latest : Option T)
      (body : T) : Type 0 where
    pub shut : IsShut reads pair image in_flight latest
    pub body_is : HasBody reads (spare_at pair) image (Some body)
    pub newer : IsBefore number_of latest (number_of body)

module _ {D L : Type 0} {N : ℕ} (B : Ghosts D N L) where
  -- a stage writes `count` places from `start` on if its writes lie there, and in the slot that is written next
  pub record WritesOfSpare (pair : Pair) (start count : ℕ) (old new : D) : Type 0 where
    pub alone : WritesIn B start count old new
    pub in_slot : WritesIn B (spare_at pair) slot_size old new

-- what holds of a pair on a board, over the meanings of a type of bodies and of a type of boards
module _ {T : Type 0} (meanings : BodyGhosts T) {D L : Type 0} {N : ℕ} (B : Ghosts D N L) where
  -- a pair is ready on a board if it is ready in the board's image, with what is in flight there
  abbrev pub IsReadyOn : Pair → D → Option T → Type 0
  IsReadyOn pair board latest =
      IsReady meanings.reads meanings.number_of pair (B.image board) (B.in_flight board) latest

  -- a pair is shut on a board if it is shut in the board's image, with what is in flight there
  abbrev pub IsShutOn : Pair → D → Option T → Type 0
  IsShutOn pair board latest = IsShut meanings.reads pair (B.image board) (B.in_flight board) latest

  -- a pair is written on a board if it is written in the board's image, with what is in flight there
  abbrev pub IsWrittenOn : Pair → D → Option T → T → Type 0
  IsWrittenOn pair board latest body =
      IsWritten meanings.reads meanings.number_of pair (B.image board) (B.in_flight board) latest body

  -- a pair is settled on a board if it is settled in the board's image, with what is in flight there
  abbrev pub IsSettledOn : ℕ → Place → D → T → Type 0
  IsSettledOn at place board body =
      IsSettled meanings.reads meanings.number_of at place (B.image board) (B.in_flight board) body

  -- a pair may get a body over the latest one, of which there may be none, if it is ready with the latest one, and the
  -- body's number is greater than that one's
  pub record MayGet (pair : Pair) (board : D) (latest : Option T) (body : T) : Type 0 where
    pub ready : IsReadyOn pair board latest
    pub newer : IsBefore meanings.number_of latest (meanings.number_of body)

  -- a body may be written behind the shut gate of a pair if the pair is shut with the latest one, and the body's number
  -- is greater than that one's
  pub record MayWrite (pair : Pair) (board : D) (latest : Option T) (body : T) : Type 0 where
    pub shut : IsShutOn pair board latest
    pub newer : IsBefore meanings.number_of latest (meanings.number_of body)

  -- a run shuts a pair if, with whatever latest body it was ready on the old board, it is shut on the new one
  abbrev pub Shuts : Pair → D → D → Type 0
  Shuts pair old new = (latest : Option T) → IsReadyOn pair old latest → IsShutOn pair new latest

  -- a run writes a body behind a gate if, over whatever latest body it may be written on the old board, it is written
  -- on the new one
  abbrev pub WritesBody : Pair → T → D → D → Type 0
  WritesBody pair body old new =
      (latest : Option T) → MayWrite pair old latest body → IsWrittenOn pair new latest body

  -- a run opens the written slot of a pair at a place if, with whatever body it was written on the old board, the pair
  -- is settled there with that body on the new one
  abbrev pub OpensAt : Pair → D → D → Place → Type 0
  OpensAt pair old new place =
      (latest : Option T) (body : T) → IsWrittenOn pair old latest body → IsSettledOn pair.at place new body

  -- a run leaves the latest body if a cut at each of its moments leaves a pair that shows it, and outside the slot that
  -- is written next only what a cut of the old board might leave
  abbrev pub LeavesLatest : Pair → Option T → D → D → Type 0
  LeavesLatest pair latest old new =
      LeavesThroughout B (spare_at pair) slot_size
      (λ image. Shows meanings.reads meanings.number_of pair.at image latest) old new

  -- a run leaves the latest body or a new one if a cut at each of its moments leaves a pair that shows either, and
  -- outside the slot that is written next only what a cut of the old board might leave
  abbrev pub LeavesLatestOrNew : Pair → Option T → T → D → D → Type 0
  LeavesLatestOrNew pair latest body old new =
      LeavesThroughout B (spare_at pair) slot_size
      (ShowsEither meanings.reads meanings.number_of pair.at latest body) old new
