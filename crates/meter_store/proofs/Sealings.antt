-- What a sealing leaves at each moment.
use Rattle.{std.specs.Option.{ForSome, option_map}, outside.specs.Disk.{IsWithin, SameBut}}
use Rattle.std.proofs.Common.{ℕ, ◌≡◌, ◌≤◌, List, None, Option, Some, arith, inl, inr, refl, subst, sym, ⊎_elim}
use Rattle.slot_store.specs.{Slots.{FliesNoMore, IsQuiet, IsSamePair}, Stages.{IsBefore, IsPair, spare_at}}
use Rattle.slot_store.{specs.Writes.{IsApart, OrWithin}, proofs.Laws.{in_part_as, run_on, writes_in_part, writes_on}}
use Rattle.{seal_record.specs.Decoding.{reads, seal_number_of}, meter_store.specs.Common.{WritesIn, first_state}}
use Rattle.meter_store.specs.Common.{Durable, Ghosts, IsReady, LeavesThroughout, Pair, Place, Seal, ShowsEither}
use Rattle.meter_store.specs.Sealing.{FoundSeal, FoundTotals, HasEitherSeal, HoldsSeal, HoldsSealing, IsAmid}
use Rattle.meter_store.specs.Sealing.{LeavesSealing, ShowsSeal, StillHas, found_number, next_number}
use Rattle.meter_store.specs.Stored.{HasState, HoldsState}
use Rattle.slot_store.proofs.Laws as slots
use Rattle.totals_record.specs.Reading as totals
use Rattle.meter_store.specs.Stored as stored

-- the pair of seals has the found place, or none if it was found blank
abbrev pub pair_for : Option (Place × ℕ) → Pair
pair_for found = record { at = 1024; latest = option_map (λ latest. latest.0) found }

-- the pair of seals lies in the store
pub is_pair : (found : Option (Place × ℕ)) → ForSome found (λ latest. latest.0.slot ≤ 1) → IsPair (pair_for found)
is_pair None slot = record { at_in = omega arith; slot_in = omega arith }
is_pair (Some found) slot = record { at_in = omega arith; slot_in = slot found refl }

-- the pair of totals if none were found
abbrev pub first_pair : Pair
first_pair = record { at = 0; latest = None }

module _ {D L : Type 0} {N : ℕ} (B : Ghosts D N L) (start : ℕ) (old new : D) where
  -- a pair apart from what is written keeps its bytes, and no more of it is in flight
  same_beside : (at : ℕ) → IsApart at start 1024 → IsQuiet at (B.in_flight old) → WritesIn B start 1024 old new
      → IsSamePair at (B.image old) (B.image new)
  same_beside at apart quiet writes =
      slots.apart_same at start 1024 (B.image old) (B.in_flight old) (B.image new) apart quiet writes.rest

  no_more_beside : (at : ℕ) → IsApart at start 1024 → WritesIn B start 1024 old new
      → FliesNoMore at (B.in_flight old) (B.in_flight new)
  no_more_beside at (inl before) writes place within flies =
      ⊎_elim (λ was. was) (λ (touched : IsWithin start 1024 place).
      absurd (omega (arith, before, within.low, touched.high))) (writes.flight place flies)
  no_more_beside at (inr behind) writes place within flies =
      ⊎_elim (λ was. was) (λ (touched : IsWithin start 1024 place).
      absurd (omega (arith, behind, within.high, touched.low))) (writes.flight place flies)

module _ {D L : Type 0} {N : ℕ} (B : Ghosts D N L) where
  -- the new seal's number is greater than the found one's
  pub newer_found : (board : D) (found : Option (Place × ℕ)) (old : Option Seal) (number : ℕ)
      → FoundSeal B board found old → number ≡ next_number (found_number found) → IsBefore seal_number_of old number
  newer_found board None None number is next = tt
  newer_found board None (Some seal) number is next = absurd is
  newer_found board (Some found) None number is next = absurd is
  newer_found board (Some found) (Some seal) number is next = omega (arith, is.1, next)

  -- what a store of the first totals, and of a seal, leaves of its pair
  pub put_first : (pair : Pair) (durable : Durable) (old new : D) → pair ≡ first_pair → durable ≡ first_state
      → LeavesThroughout B (spare_at pair) 512 (ShowsEither totals.reads stored.state_number_of pair.at None durable)
      old new → LeavesThroughout B 0 1024 (StillHas None) old new
  put_first pair durable old new p d run =
      slots.whole_leaves B first_pair (StillHas None) old new (record { at_in = omega arith; slot_in = omega arith })
      (subst
      (λ (x : Durable). LeavesThroughout B 0 512 (ShowsEither totals.reads stored.state_number_of 0 None x) old new) d
      (subst (λ (x : Pair). LeavesThroughout B (spare_at x) 512
      (ShowsEither totals.reads stored.state_number_of x.at None durable) old new) p run))

  pub put_next : (pair : Pair) (found : Option (Place × ℕ)) (seal : Seal) (before : Option Seal) (old new : D)
      → ForSome found (λ latest. latest.0.slot ≤ 1) → pair ≡ pair_for found
      → LeavesThroughout B (spare_at pair) 512 (ShowsEither reads seal_number_of pair.at before seal) old new
      → LeavesThroughout B 1024 1024 (HasEitherSeal before seal) old new
  put_next pair found seal before old new slot p run =
      slots.whole_leaves B (pair_for found) (HasEitherSeal before seal) old new (is_pair found slot)
      (subst (λ (x : Pair). LeavesThroughout B (spare_at x) 512
      (ShowsEither reads seal_number_of x.at before seal) old new) p run)

  -- a pair of seals that was found is ready for a new one
  pub ready_found : (board : D) (found : Option (Place × ℕ)) (old : Option Seal) → FoundSeal B board found old
      → IsReady reads seal_number_of (pair_for found) (B.image board) (B.in_flight board) old
  ready_found board None None is = is
  ready_found board None (Some seal) is = absurd is
  ready_found board (Some found) None is = absurd is
  ready_found board (Some found) (Some seal) is = is.0

  -- nothing of it is in flight
  quiet_found : (board : D) (found : Option (Place × ℕ)) (old : Option Seal) → FoundSeal B board found old
      → IsQuiet 1024 (B.in_flight board)
  quiet_found board None None is = is.1
  quiet_found board None (Some seal) is = absurd is
  quiet_found board (Some found) None is = absurd is
  quiet_found board (Some found) (Some seal) is = is.0.quiet

  -- if it has the same bytes it shows what was found
  shows_found : (board : D) (found : Option (Place × ℕ)) (old : Option Seal) (left : List ℕ)
      → FoundSeal B board found old → IsSamePair 1024 (B.image board) left → ShowsSeal left old
  shows_found board None None left is same = slots.same_blank 1024 (B.image board) left is.0 same
  shows_found board None (Some seal) left is same = absurd is
  shows_found board (Some found) None left is same = absurd is
  shows_found board (Some found) (Some seal) left is same =
      slots.at_stands reads seal_number_of 1024 found.0 left seal
      (slots.same_at reads seal_number_of 1024 found.0 (B.image board) left seal is.0.is_at same)

  -- and it is found so on a board on which no more of it is in flight
  still_found : (board after : D) (found : Option (Place × ℕ)) (old : Option Seal) → FoundSeal B board found old
      → IsSamePair 1024 (B.image board) (B.image after)
      → FliesNoMore 1024 (B.in_flight board) (B.in_flight after) → FoundSeal B after found old
  still_found board after None None is same fewer = (
    slots.same_blank 1024 (B.image board) (B.image after) is.0 same,
    λ place within flies. is.1 place within (fewer place within flies),
  )
  still_found board after None (Some seal) is same fewer = absurd is
  still_found board after (Some found) None is same fewer = absurd is
  still_found board after (Some found) (Some seal) is same fewer = (
    slots.settled_stays reads seal_number_of 1024 found.0 seal (B.image board) (B.image after) (B.in_flight board)
        (B.in_flight after) is.0 same fewer,
    is.1,
  )

  -- settled totals stand in each image with the same bytes
  totals_stand : (board : D) (place : Place) (durable : Durable) (left : List ℕ) → HoldsState B place board durable
      → SameBut (OrWithin (B.in_flight board) 1024 1024) (B.image board) left → HasState left durable
  totals_stand board place durable left kept same =
      slots.at_stands totals.reads stored.state_number_of 0 place left durable
      (slots.same_at totals.reads stored.state_number_of 0 place (B.image board) left durable kept.is_at
      (slots.apart_same 0 1024 1024 (B.image board) (B.in_flight board) left (inr (omega arith)) kept.quiet same))

  -- a seal beside settled totals
  leaves_beside : (board after : D) (durable : Durable) (old : Option Seal) (new : Seal)
      → FoundTotals B board (Some durable) → WritesIn B 1024 1024 board after
      → LeavesThroughout B 1024 1024 (HasEitherSeal old new) board after
      → LeavesSealing B (record { totals = Some durable; old = old; new = new }) board after
  leaves_beside board after durable old new found writes run =
      in_part_as B 1024 1024 1024 1024 (HasEitherSeal old new)
      (IsAmid (record { totals = Some durable; old = old; new = new })) board after (omega arith) (omega arith)
      (λ left same either.
      let stands = totals_stand board found.0 durable left found.1 same in record {
        totals = stands;
        seal = ⊎_elim (λ shows. inl shows) (λ sealed. inr (record { totals = stands; seal = sealed })) either;
      }) writes run

  keeps_beside : (board after : D) (durable : Durable) (new : Seal) (place : Place) → FoundTotals B board (Some durable)
      → WritesIn B 1024 1024 board after
      → HoldsSeal B place after new → HoldsSealing B (Some durable) new after
  keeps_beside board after durable new place found writes kept = record {
    totals = (
      found.0,
      slots.settled_stays totals.reads stored.state_number_of 0 found.0 durable (B.image board) (B.image after)
          (B.in_flight board) (B.in_flight after) found.1
          (same_beside B 1024 board after 0 (inr (omega arith)) found.1.quiet writes)
          (no_more_beside B 1024 board after 0 (inr (omega arith)) writes),
    );
    seal_is = (place, kept);
  }

  -- a seal beside totals that were found
  pub leaves_found : (board after : D) (totals : Option Durable) (durable : Durable) (old : Option Seal) (new : Seal)
      → totals ≡ Some durable → FoundTotals B board totals → WritesIn B 1024 1024 board after
      → LeavesThroughout B 1024 1024 (HasEitherSeal old new) board after
      → LeavesSealing B (record { totals = totals; old = old; new = new }) board after
  leaves_found board after totals durable old new is found writes run =
      subst (λ (t : Option Durable). LeavesSealing B (record { totals = t; old = old; new = new }) board after) (sym is)
      (leaves_beside board after durable old new
      (subst (λ (t : Option Durable). FoundTotals B board t) is found) writes run)

  pub keeps_found : (board after : D) (totals : Option Durable) (durable : Durable) (new : Seal) (place : Place)
      → totals ≡ Some durable → FoundTotals B board totals → WritesIn B 1024 1024 board after
      → HoldsSeal B place after new → HoldsSealing B totals new after
  keeps_found board after totals durable new place is found writes kept =
      subst (λ (t : Option Durable). HoldsSealing B t new after) (sym is) (keeps_beside board after durable new place
      (subst (λ (t : Option Durable). FoundTotals B board t) is found) writes kept)

  -- the first totals, before the seal
  pub leaves_first : (board after : D) (found : Option (Place × ℕ)) (old : Option Seal) (new : Seal)
      → FoundSeal B board found old → WritesIn B 0 1024 board after
      → LeavesThroughout B 0 1024 (StillHas None) board after
      → LeavesSealing B (record { totals = None; old = old; new = new }) board after
  leaves_first board after found old new is writes run =
      in_part_as B 0 2048 0 1024 (StillHas None) (IsAmid (record { totals = None; old = old; new = new })) board
      after (omega arith) (omega arith) (λ left same kept. record {
        totals = kept;
        seal = inl (shows_found board found old left is (slots.apart_same 1024 0 1024 (B.image board)
            (B.in_flight board) left (inl (omega arith)) (quiet_found board found old is) same));
      }) writes run

  pub found_after : (board between : D) (found : Option (Place × ℕ)) (old : Option Seal) → FoundSeal B board found old
      → WritesIn B 0 1024 board between → FoundSeal B between found old
  found_after board between found old is writes =
      still_found board between found old is (same_beside B 0 board between 1024 (inl (omega arith))
      (quiet_found board found old is) writes) (no_more_beside B 0 board between 1024 (inl (omega arith)) writes)

  -- the seal after them
  pub leaves_both : (board between after : D) (found : Option (Place × ℕ)) (old : Option Seal) (new : Seal)
      (place : Place) → FoundSeal B board found old → WritesIn B 0 1024 board between
      → LeavesThroughout B 0 1024 (StillHas None) board between → HoldsState B place between first_state
      → WritesIn B 1024 1024 between after
      → LeavesThroughout B 1024 1024 (HasEitherSeal old new) between after
      → LeavesSealing B (record { totals = None; old = old; new = new }) board after
  leaves_both board between after found old new place is writes first kept more second =
      run_on B 0 2048 board between after (IsAmid (record { totals = None; old = old; new = new }))
      (writes_in_part B 0 2048 0 1024 board between (omega arith) (omega arith) writes)
      (leaves_first board between found old new is writes first)
      (in_part_as B 0 2048 1024 1024 (HasEitherSeal old new) (IsAmid (record { totals = None; old = old; new = new }))
      between after (omega arith) (omega arith) (λ left same either.
      let stands = totals_stand between place first_state left kept same in record {
        totals = inr stands;
        seal = ⊎_elim (λ shows. inl shows) (λ sealed. inr (record { totals = stands; seal = sealed })) either;
      }) more second)

  pub keeps_both : (between after : D) (new : Seal) (place at : Place) → HoldsState B place between first_state
      → WritesIn B 1024 1024 between after
      → HoldsSeal B at after new → HoldsSealing B None new after
  keeps_both between after new place at kept writes sealed =
      let both = keeps_beside between after first_state new at (place, kept) writes sealed in
      record { totals = both.totals; seal_is = both.seal_is }

  pub writes_both : (board between after : D) → WritesIn B 0 1024 board between → WritesIn B 1024 1024 between after
      → WritesIn B 0 2048 board after
  writes_both board between after first second =
      writes_on B 0 2048 board between after (writes_in_part B 0 2048 0 1024 board between (omega arith)
      (omega arith) first) (writes_in_part B 0 2048 1024 1024 between after (omega arith) (omega arith) second)

  pub writes_first : (board after : D) → WritesIn B 0 1024 board after → WritesIn B 0 2048 board after
  writes_first board after writes = writes_in_part B 0 2048 0 1024 board after (omega arith) (omega arith) writes

  -- a store into the pair of totals if none were found
  pub first_beside : (pair : Pair) (old new : D) → pair ≡ first_pair → WritesIn B (spare_at pair) 512 old new
      → WritesIn B 0 1024 old new
  first_beside pair old new is writes = writes_in_part B 0 1024 0 512 old new (omega arith) (omega arith)
      (subst (λ (p : Pair). WritesIn B (spare_at p) 512 old new) is writes)

  -- and one into the pair of seals
  pub next_beside : (pair : Pair) (found : Option (Place × ℕ)) (old new : D) → pair ≡ pair_for found
      → WritesIn B (spare_at pair) 512 old new → WritesIn B 1024 1024 old new
  next_beside pair found old new is writes = writes_in_part B 1024 1024 (spare_at (pair_for found)) 512 old new
      (omega arith) (omega arith) (subst (λ (p : Pair). WritesIn B (spare_at p) 512 old new) is writes)
