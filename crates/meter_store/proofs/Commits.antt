-- What a store of a body at place 0 means for the durable state.
use Rattle.std.proofs.Common.{ℕ, ◌≡◌, Some, subst}
use Rattle.{slot_store.specs.Stages.{spare_at}, totals_record.specs.Reading.{reads}}
use Rattle.meter_store.specs.Common.{Durable, Ghosts, IsSettled, LeavesThroughout, Pair, Place, ShowsEither, WritesIn}
use Rattle.meter_store.specs.Stored.{HasEither, HoldsState, LeavesEither, state_number_of, written_at}

abbrev pair_at : Place → Pair
pair_at place = record { at = 0; latest = Some place }

module _ {D L : Type 0} {N : ℕ} (B : Ghosts D N L) where
  -- with the state that was stored
  pub leaves_either : (pair : Pair) (place : Place) (durable body state : Durable) (old new : D) → pair ≡ pair_at place
      → body ≡ state
      → LeavesThroughout B (spare_at pair) 512 (ShowsEither reads state_number_of pair.at (Some durable) body) old new
      → LeavesEither B place durable state old new
  leaves_either pair place durable body state old new at same run =
      subst (λ (s : Durable). LeavesThroughout B (written_at place) 512 (HasEither durable s) old new) same
      (subst (λ (p : Pair). LeavesThroughout B (spare_at p) 512
      (ShowsEither reads state_number_of p.at (Some durable) body) old new) at run)

  pub writes_other : (pair : Pair) (place : Place) (old new : D) → pair ≡ pair_at place
      → WritesIn B (spare_at pair) 512 old new → WritesIn B (written_at place) 512 old new
  writes_other pair place old new at writes = subst (λ (p : Pair). WritesIn B (spare_at p) 512 old new) at writes

  pub keeps_state : (pair : Pair) (place new_place : Place) (state : Durable) (board : D) → pair ≡ pair_at place
      → IsSettled reads state_number_of pair.at new_place (B.image board) (B.in_flight board) state
      → HoldsState B new_place board state
  keeps_state pair place new_place state board at settled =
      subst (λ (p : Pair). IsSettled reads state_number_of p.at new_place (B.image board)
      (B.in_flight board) state) at settled
