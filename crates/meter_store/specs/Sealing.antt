-- Rules: what a sealing leaves in the store. The pair of totals begins at place 0, the pair of seals at place 1,024.
use Rattle.std.specs.Prelude.{ℕ, ◌+◌, ◌≡◌, ◌⊎◌, List, None, Option, Some}
use Rattle.slot_store.specs.{Scan.{IsAsFound}, Sizes.{pair_size}, declared.found.Found.TheVariants.{Blank, Latest}}
use Rattle.{slot_store.specs.Slots.{IsBlank, IsQuiet, Shows, StandsFor}, seal_record.specs.Ranges.{seal_number_of}}
use Rattle.meter_store.specs.Common.{Durable, Found, Ghosts, IsSettled, LeavesThroughout, Place, Seal, ShowsEither}
use Rattle.meter_store.specs.{Common.{first_state}, Stored.{HasState, HoldsState}}
use Rattle.totals_record.specs.Reading as totals
use Rattle.meter_store.specs.Stored as stored
pub use Rattle.seal_record.specs.Decoding.{reads}

-- the pair of seals begins at place 1,024 of the store
abbrev pub seals_at : ℕ
seals_at = 1024

-- an image has a seal if its pair of seals stands for it; `reads` says which seal a slot's bytes are read as, as the
-- law seals_are_read_by_their_table says
abbrev pub HasSeal : List ℕ → Seal → Type 0
HasSeal image seal = StandsFor reads seal_number_of seals_at image seal

-- an image shows a seal if its pair of seals stands for it, and shows none if that pair is blank
abbrev pub ShowsSeal : List ℕ → Option Seal → Type 0
ShowsSeal image seal = Shows reads seal_number_of seals_at image seal

-- an image has either seal if it has the new one, or shows the old one, of which there may be none
abbrev pub HasEitherSeal : (old : Option Seal) → (new : Seal) → List ℕ → Type 0
HasEitherSeal old new image = ShowsEither reads seal_number_of seals_at old new image

-- a sealing begins with the totals and the seal that were found, if any, and puts a new seal in
pub record Sealing : Type 0 where
  pub totals : Option Durable
  pub old : Option Seal
  pub new : Seal

-- the number of the seal that is put in is the one after the found seal's, or 1 if none was found
abbrev pub next_number : (found : Option ℕ) → ℕ
next_number None = 1
next_number (Some number) = number + 1

-- the totals after a sealing are those that were found, or the first ones, of zero and with number 1
abbrev pub sealed_totals : (found : Option Durable) → Durable
sealed_totals None = first_state
sealed_totals (Some durable) = durable

-- an image keeps totals if it has those that were found, or, if none were found, has none or the first ones
abbrev pub StillHas : (found : Option Durable) → List ℕ → Type 0
StillHas None image = IsBlank 0 image ⊎ HasState image first_state
StillHas (Some durable) image = HasState image durable

-- an image is sealed if it has the totals after the sealing and the new seal
pub record IsSealed (sealing : Sealing) (image : List ℕ) : Type 0 where
  pub totals : HasState image (sealed_totals sealing.totals)
  pub seal : HasSeal image sealing.new

-- an image is amid a sealing if the totals are kept, and the seal is the old one, or none as before, or the new one
-- beside totals
pub record IsAmid (sealing : Sealing) (image : List ℕ) : Type 0 where
  pub totals : StillHas sealing.totals image
  pub seal : ShowsSeal image sealing.old ⊎ IsSealed sealing image

-- the writes of a sealing begin at the pair of seals if totals were found, and else at the pair of totals
abbrev pub first_written : (found : Option Durable) → ℕ
first_written None = 0
first_written (Some durable) = seals_at

-- the writes of a sealing may reach one pair if totals were found, and else both
abbrev pub places_written : (found : Option Durable) → ℕ
places_written None = pair_size + pair_size
places_written (Some durable) = pair_size

-- the number of the found seal stands beside its place, and there is none if no seal was found
abbrev pub found_number : Option (Place × ℕ) → Option ℕ
found_number None = None
found_number (Some found) = Some found.1

-- the totals that a scan found are those of its latest body, and there are none if the pair is blank
abbrev pub totals_found : Found Durable → Option Durable
totals_found Blank = None
totals_found (Latest place durable) = Some durable

-- the seal that a scan found is told by its place and its number, and there is none if the pair is blank
abbrev pub seal_found : Found Seal → Option (Place × ℕ)
seal_found Blank = None
seal_found (Latest place seal) = Some (place, seal.seal_number)

-- the old seal is the one that a scan found, and there is none if the pair is blank
abbrev pub old_seal : Found Seal → Option Seal
old_seal Blank = None
old_seal (Latest place seal) = Some seal

module _ {D L : Type 0} {N : ℕ} (B : Ghosts D N L) where
  -- a board has found totals if its pair of totals is settled with them, or, if none were found, is blank with
  -- nothing in flight
  abbrev pub FoundTotals : D → Option Durable → Type 0
  FoundTotals board None = IsBlank 0 (B.image board) × IsQuiet 0 (B.in_flight board)
  FoundTotals board (Some durable) = (place : Place) × HoldsState B place board durable

  -- a board keeps a seal at a place if its pair of seals is settled there with that seal
  abbrev pub HoldsSeal : Place → D → Seal → Type 0
  HoldsSeal place board seal = IsSettled reads seal_number_of seals_at place (B.image board) (B.in_flight board) seal

  -- a board has a found seal if its pair of seals is settled with it at the found place, and it has the found
  -- number; or if none was found, the pair is blank with nothing in flight
  abbrev pub FoundSeal : D → Option (Place × ℕ) → Option Seal → Type 0
  FoundSeal board None None = IsBlank seals_at (B.image board) × IsQuiet seals_at (B.in_flight board)
  FoundSeal board None (Some seal) = ⊥
  FoundSeal board (Some found) None = ⊥
  FoundSeal board (Some found) (Some seal) = HoldsSeal found.0 board seal × (seal.seal_number ≡ found.1)

  -- a scan has found totals on a board if its pair of totals is as the scan found it, with nothing in flight
  abbrev pub ScannedTotals : D → Found Durable → Type 0
  ScannedTotals board found = IsAsFound totals.reads stored.state_number_of 0 (B.image board) (B.in_flight board) found

  -- a scan has found a seal on a board if its pair of seals is as the scan found it, with nothing in flight
  abbrev pub ScannedSeal : D → Found Seal → Type 0
  ScannedSeal board found = IsAsFound reads seal_number_of seals_at (B.image board) (B.in_flight board) found

  -- a board keeps what was sealed if both pairs are settled, the totals' with those that were found or the first
  -- ones, and the seals' with the new seal
  pub record HoldsSealing (found : Option Durable) (seal : Seal) (board : D) : Type 0 where
    pub totals : (place : Place) × HoldsState B place board (sealed_totals found)
    pub seal_is : (place : Place) × HoldsSeal place board seal

  -- a run leaves a sealing if a cut at each of its moments leaves an image amid the sealing, and outside the places
  -- that are written only what a cut of the old board might leave
  abbrev pub LeavesSealing : Sealing → D → D → Type 0
  LeavesSealing sealing old new =
      LeavesThroughout B (first_written sealing.totals) (places_written sealing.totals) (IsAmid sealing) old new
