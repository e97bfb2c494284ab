-- What scans found is what a sealing asks for.
use Rattle.std.proofs.Common.{ℕ, ◌≡◌, List, Option, subst, sym}
use Rattle.slot_store.specs.{Scan.{IsAsFound}, declared.found.Found.TheVariants.{Blank, Latest}}
use Rattle.meter_store.specs.{Common.{Durable, Found, Ghosts, Seal}, Sealing.{totals_found}}
use Rattle.meter_store.specs.Sealing.{FoundSeal, FoundTotals, ScannedSeal, ScannedTotals, old_seal, seal_found}
use Rattle.totals_record.specs.Reading as totals
use Rattle.meter_store.specs.Stored as stored

-- as it was found, with fewer places in flight
fewer : {T : Type 0} (reads : List ℕ → Option T) (number_of : T → ℕ) (at : ℕ) (image : List ℕ)
    (flown flying : ℕ → Type 0) (found : Found T)
    → ((place : ℕ) → flying place → flown place) → IsAsFound reads number_of at image flown found
    → IsAsFound reads number_of at image flying found
fewer reads number_of at image flown flying Blank less is =
    (is.0, λ place within flies. is.1 place within (less place flies))
fewer reads number_of at image flown flying (Latest place body) less is =
    record { quiet = λ byte within flies. is.quiet byte within (less byte flies); is_at = is.is_at }

module _ {D L : Type 0} {N : ℕ} (B : Ghosts D N L) where
  pub totals_are_found : (board : D) (found : Found Durable) → ScannedTotals B board found
      → FoundTotals B board (totals_found found)
  totals_are_found board Blank is = is
  totals_are_found board (Latest place durable) is = (place, is)

  pub seal_is_found : (board : D) (found : Found Seal) → ScannedSeal B board found
      → FoundSeal B board (seal_found found) (old_seal found)
  seal_is_found board Blank is = is
  seal_is_found board (Latest place seal) is = (is, λ i. seal.seal_number)

  pub totals_stay_found : (board after : D) (found : Found Durable) → ScannedTotals B board found
      → B.image after ≡ B.image board
      → ((place : ℕ) → B.in_flight after place → B.in_flight board place) → ScannedTotals B after found
  totals_stay_found board after found is same less =
      fewer totals.reads stored.state_number_of 0 (B.image after) (B.in_flight board) (B.in_flight after) found less
      (subst (λ (image : List ℕ). IsAsFound totals.reads stored.state_number_of 0 image (B.in_flight board) found)
      (sym same) is)
