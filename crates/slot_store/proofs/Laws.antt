-- The laws that the public empty functions state.
use Rattle.std.proofs.Common.{ℕ, ◌*◌, ◌+◌, ◌↔◌, ◌≡◌, ◌≤◌, List, None, Ok, Option, Result, Some, arith, drop, get_or}
use Rattle.std.proofs.Common.{inl, inr, length, length-drop, length-take, refl, replicate, suc, take, zero}
use Rattle.{taxi_units.specs.Bytes.{AreBytes}, outside.proofs.Laws.{slice_bytes}}
use Rattle.slot_store.specs.{Common.{Ghosts, Pair, Place, SameBut}, declared.found.SlotFault.{SlotFault}}
use Rattle.slot_store.specs.Scan.{IsAnswer, found_at}
use Rattle.slot_store.specs.Slots.{FliesNoMore, IsAt, IsBlank, IsOpen, IsQuiet, IsSamePair, IsSettled, Shows, StandsFor}
use Rattle.slot_store.specs.{Stages.{IsPair, IsReady, IsReadyAt, spare_at}, declared.found.Found.TheVariants.{Latest}}
use Rattle.slot_store.specs.{Writes.{IsApart, LeavesThroughout, OrWithin, WritesIn}, declared.found.Found.{Found}}
use Rattle.slot_store.proofs.ScanAnswers as findings
use Rattle.slot_store.proofs.Moments as moments
use Rattle.slot_store.proofs.Untouched as untouched
pub use Rattle.slot_store.proofs.Causes.{fewer_steps, steps_then}
pub use Rattle.slot_store.proofs.Moments.{in_part_as, run_on, writes_in_part, writes_on}
pub use Rattle.slot_store.proofs.Synced.{from_sync_as, goes_on, held_on, settled_already}

module _ {T : Type 0} (reads : List ℕ → Option T) (number_of : T → ℕ) where
  -- the answer is the one that the image calls for
  pub answer_is : (at : ℕ) (image : List ℕ) (answer : Result (Found T) SlotFault)
      → (found_at reads number_of at image ≡ answer) ↔ IsAnswer reads number_of at image answer
  answer_is = findings.answer_is reads number_of

  -- an image that stands for a body is answered with it
  pub body_found : (at : ℕ) (image : List ℕ) (body : T) → StandsFor reads number_of at image body
      → (place : Place) × (found_at reads number_of at image ≡ Ok (Latest place body))
  body_found = findings.found_where reads number_of

  pub one_body : (at : ℕ) (image : List ℕ) (one other : T) → StandsFor reads number_of at image one
      → StandsFor reads number_of at image other → one ≡ other
  one_body = findings.one_body reads number_of

  -- a pair that is not touched
  pub at_stands : (at : ℕ) (place : Place) (image : List ℕ) (body : T) → IsAt reads number_of at place image body
      → StandsFor reads number_of at image body
  at_stands = untouched.at_stands reads number_of

  pub same_at : (at : ℕ) (place : Place) (image left : List ℕ) (body : T) → IsAt reads number_of at place image body
      → IsSamePair at image left → IsAt reads number_of at place left body
  same_at = untouched.same_at reads number_of

  -- a settled pair, or a blank one of which nothing is in flight
  pub settled_stays : (at : ℕ) (place : Place) (body : T) (old new : List ℕ) (flown flying : ℕ → Type 0)
      → IsSettled reads number_of at place old flown body
      → IsSamePair at old new → FliesNoMore at flown flying → IsSettled reads number_of at place new flying body
  settled_stays at place body old new flown flying settled same fewer = record {
    quiet = λ byte within flies. settled.quiet byte within (fewer byte within flies);
    is_at = same_at at place old new body settled.is_at same;
  }

  pub ready_stays : (pair : Pair) (latest : Option T) (old new : List ℕ) (flown flying : ℕ → Type 0)
      → IsReady reads number_of pair old flown latest
      → IsSamePair pair.at old new → FliesNoMore pair.at flown flying → IsReady reads number_of pair new flying latest
  ready_stays pair latest old new flown flying = by pair.latest latest
    where
      by : (place : Option Place) (l : Option T) → IsReadyAt reads number_of pair.at place old flown l
          → IsSamePair pair.at old new
          → FliesNoMore pair.at flown flying → IsReadyAt reads number_of pair.at place new flying l
      by None None ready same fewer = (
        untouched.same_blank pair.at old new ready.0 same,
        λ byte within flies. ready.1 byte within (fewer byte within flies),
      )
      by None (Some body) ready same fewer = absurd ready
      by (Some place) None ready same fewer = absurd ready
      by (Some place) (Some body) ready same fewer =
          settled_stays pair.at place body old new flown flying ready same fewer

  pub ready_left : (pair : Pair) (latest : Option T) (image : List ℕ) (in_flight : ℕ → Type 0) (left : List ℕ)
      → IsReady reads number_of pair image in_flight latest
      → SameBut in_flight image left → Shows reads number_of pair.at left latest
  ready_left pair latest image in_flight left ready same =
      untouched.quiet_leaves reads number_of pair.at pair.latest latest image left in_flight ready same

zeros : (n i : ℕ) → get_or {A = ℕ} (replicate n 0) i 0 ≡ 0
zeros zero i = refl
zeros (suc n) zero = refl
zeros (suc n) (suc i) = zeros n i

-- a store of zeros has no open slot
pub zeros_are_blank : (n at : ℕ) → IsBlank at (replicate n 0)
zeros_are_blank n at slot low e = omega (arith, e, zeros n (at + 512 * slot))

pub same_blank : (at : ℕ) (image left : List ℕ) → IsBlank at image → IsSamePair at image left → IsBlank at left
same_blank = untouched.same_blank

-- an open slot has its body's own spelling, if nothing else is read as that body
pub open_spelling : {T : Type 0} (reads : List ℕ → Option T) (spelling : T → List ℕ)
    → ((bytes : List ℕ) (body : T) → length bytes ≡ 511 → AreBytes bytes → reads bytes ≡ Some body
    → bytes ≡ spelling body)
    → (start : ℕ) (image : List ℕ) (body : T) → AreBytes image → start + 512 ≤ length image
    → IsOpen reads start image (Some body) → take 511 (drop (start + 1) image) ≡ spelling body
open_spelling reads spelling nothing_else start image body small long opened =
    nothing_else (take 511 (drop (start + 1) image)) body
    (omega (arith, long, length-take 511 (drop (start + 1) image), length-drop (start + 1) image))
    (slice_bytes image (start + 1) 511 small) opened.body_is

-- a pair apart from what is written
apart_quiet : (at start count : ℕ) (flown : ℕ → Type 0) → IsApart at start count → IsQuiet at flown
    → IsQuiet at (OrWithin flown start count)
apart_quiet at start count flown apart quiet byte within (inl flies) = quiet byte within flies
apart_quiet at start count flown (inl before) quiet byte within (inr touched) =
    omega (arith, before, within.low, touched.high)
apart_quiet at start count flown (inr behind) quiet byte within (inr touched) =
    omega (arith, behind, within.high, touched.low)

pub apart_same : (at start count : ℕ) (image : List ℕ) (flown : ℕ → Type 0) (left : List ℕ) → IsApart at start count
    → IsQuiet at flown
    → SameBut (OrWithin flown start count) image left → IsSamePair at image left
apart_same at start count image flown left apart quiet same = record {
  size = same.size;
  bytes = λ byte within. same.rest byte (apart_quiet at start count flown apart quiet byte within);
}

module _ {D L : Type 0} {N : ℕ} (B : Ghosts D N L) where
  pub apart_still : (at start count : ℕ) (old new : D) → IsApart at start count → IsQuiet at (B.in_flight old)
      → WritesIn B start count old new → IsQuiet at (B.in_flight new)
  apart_still at start count old new apart quiet writes byte within flies =
      apart_quiet at start count (B.in_flight old) apart quiet byte within (writes.flight byte flies)

  -- what holds of the slot that is written next holds of the whole pair
  pub whole_leaves : (pair : Pair) (kind : List ℕ → Type 0) (old new : D) → IsPair pair
      → LeavesThroughout B (spare_at pair) 512 kind old new → LeavesThroughout B pair.at 1024 kind old new
  whole_leaves pair kind old new fits run =
      moments.in_part B pair.at 1024 (spare_at pair) 512 kind old new (omega arith) (omega (arith, fits.slot_in)) run

  pub whole_writes : (pair : Pair) (old new : D) → IsPair pair → WritesIn B (spare_at pair) 512 old new
      → WritesIn B pair.at 1024 old new
  whole_writes pair old new fits writes = moments.writes_in_part B pair.at 1024 (spare_at pair) 512 old new
      (omega arith) (omega (arith, fits.slot_in)) writes
