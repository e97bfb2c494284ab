-- Rules: what a board's store has of durable states. The pair of totals begins at place 0.
use Rattle.std.specs.Prelude.{ℕ, ◌-◌, List, Some, true}
use Rattle.slot_store.specs.{Sizes.{slot_size}, Slots.{StandsFor, slot_at}}
use Rattle.meter_store.specs.Common.{Durable, Ghosts, IsSettled, LeavesThroughout, Place, ShowsEither}
pub use Rattle.totals_record.specs.{Ranges.{state_number_of}, Reading.{reads}}

-- an image has a state if its pair of totals stands for it; `reads` says which state a slot's bytes are read as, as the
-- law states_are_read_by_their_table says
abbrev pub HasState : List ℕ → Durable → Type 0
HasState image durable = StandsFor reads state_number_of 0 image durable

-- an image has either of two states if its pair of totals stands for one of them
abbrev pub HasEither : Durable → Durable → List ℕ → Type 0
HasEither old new image = ShowsEither reads state_number_of 0 (Some old) new image

-- a commit over the state at a place writes the slot that begins here, which is the one without that state
abbrev pub written_at : Place → ℕ
written_at place = slot_at 0 (1 - place.slot)

-- the place of the state after a commit is in the slot that was written, beside the open one of the state before
abbrev pub place_after : Place → Place
place_after place = record { slot = 1 - place.slot; other_open = true }

module _ {D L : Type 0} {N : ℕ} (B : Ghosts D N L) where
  -- a board keeps a state at a place if its pair of totals is settled there with that state
  abbrev pub HoldsState : Place → D → Durable → Type 0
  HoldsState place board durable = IsSettled reads state_number_of 0 place (B.image board) (B.in_flight board) durable

  -- a run over the state at a place leaves either of two states if a cut at each of its moments leaves an image of one
  -- of them, and outside the slot that is written only what a cut of the old board might leave
  abbrev pub LeavesEither : Place → Durable → Durable → D → D → Type 0
  LeavesEither place before after old new =
      LeavesThroughout B (written_at place) slot_size (HasEither before after) old new
