-- For proofs: what the command `seal` has before its last line is printed. Seal says what a sealing is.
use Rattle.std.specs.Prelude.{ℕ, ◌≡◌, ◌≢◌, ◌⊎◌, Err, List, Ok, Option, Result}
use Rattle.{outside.specs.declared.files.Files.{Ghosts as FileGhosts}, store_commands.specs.Opening.{opening_in}}
use Rattle.store_commands.specs.Common.{BadParams, BadTariff, Begins, BoardFault, Ended, Ghosts, MayHold, NoMemory}
use Rattle.store_commands.specs.Common.{OtherDecimals, ReadFault, Sealing, Tree, line_of, status_of, tariff_in}
use Rattle.store_commands.specs.Seal.{HasDecimals, MayLeaveSealing, Seals, are_decimals, seal_read, sealing_of}

-- a text has a tariff with decimals if its tariff is sound and has them, and they are those that were found, if any
pub record IsTariffWith (found : Option ℕ) (decimals : ℕ) (tariff : List ℕ) : Type 0 where
  pub has : HasDecimals found tariff
  pub decimals_are : has.tree.decimals ≡ decimals

-- a text has no tariff that may be sealed if it isn't sound, has other decimals than were found, or memory ran out
abbrev pub IsNoTariff : (found : Option ℕ) (tariff : List ℕ) → Ended → Type 0
IsNoTariff found tariff NoMemory = Unit {0}
IsNoTariff found tariff (BadTariff why) = tariff_in tariff ≡ Err why
IsNoTariff found tariff (OtherDecimals one own) =
    (t : Tree) × (tariff_in tariff ≡ Ok t) × (are_decimals found t.decimals ≡ Err (OtherDecimals one own))
IsNoTariff found tariff ended = ⊥

-- no seal was made if a read failed of a text that was come to, memory ran out, or the texts are refused
abbrev pub IsNoSeal : (number : ℕ) → Option ℕ → (tariff params : List ℕ) → (read_failed : ℕ → Type 0) → Ended
    → Type 0
IsNoSeal number found tariff params read_failed ReadFault = read_failed 1 ⊎ (HasDecimals found tariff × read_failed 2)
IsNoSeal number found tariff params read_failed NoMemory = Unit {0}
IsNoSeal number found tariff params read_failed (BadTariff why) =
    seal_read number found tariff params ≡ Err (BadTariff why)
IsNoSeal number found tariff params read_failed (OtherDecimals one own) =
    seal_read number found tariff params ≡ Err (OtherDecimals one own)
IsNoSeal number found tariff params read_failed (BadParams fault) =
    seal_read number found tariff params ≡ Err (BadParams fault)
IsNoSeal number found tariff params read_failed ended = ⊥

module _ {D L : Type 0} {N : ℕ} (B : Ghosts D N L) where
  -- a board rests amid a sealing that began with an image and a printed text if a cut while a last line is printed
  -- leaves only what a cut of the sealing may leave
  abbrev pub RestsAmid : Result Sealing Ended → (image printed line : List ℕ) → D → Type 0
  RestsAmid sealing image printed line board =
      (left_image left_text : List ℕ) → MayHold (B.image board) (B.in_flight board) left_image
      → Begins (B.printed board) left_text line → MayLeaveSealing sealing image printed left_image left_text

module _ {E D L : Type 0} {N : ℕ} (F : FileGhosts E) (B : Ghosts D N L) where
  -- a sealing reaches its last line if all holds that `Seals` says, and a cut while that line is printed leaves what a
  -- cut of the sealing may leave
  pub record SealReachesLine (files : E) (old new : D) (ended : Ended) : Type 0 where
    pub seals : Seals B (sealing_of (opening_in (B.image old)) (F.rest files 1) (F.rest files 2)) old new
        (status_of ended)
    pub rests : ended ≢ BoardFault → RestsAmid B
        (sealing_of (opening_in (B.image old)) (F.rest files 1) (F.rest files 2)) (B.image old) (B.printed old)
        (line_of ended) new
