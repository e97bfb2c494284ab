-- Rules: a chain of runs and cuts of the power, in which each run is made over the image that the one before it left.
use Rattle.std.specs.Prelude.{[], ℕ, ◌++◌, ◌<◌, ◌∷◌, ◌≡◌, List, Ok, Option, length, map}
use Rattle.run_chains.specs.Common.{BoardState, Change, Deed, Does, Durable, FilesState, Fill, HasSeal, HasState}
use Rattle.run_chains.specs.Common.{Receipt, Seal, Start, new_board, texts}
use Rattle.run_chains.specs.Link.{IsLink, Link, begun_with, deeds_done, prefix_of}
use Rattle.taxi_units.specs.declared.receipt.Receipt as receipts

-- a chain may begin with an image that stands for a durable state and a seal
pub record IsSealedStore (image : List ℕ) : Type 0 where
  pub durable : Durable
  pub seal : Seal
  pub totals : HasState image durable
  pub sealed : HasSeal image seal

-- runs are a chain from an image that stands for a durable state if each is a run over the image that is left before it
abbrev pub IsChain : Durable → (image : List ℕ) → List Link → Type 0
IsChain durable image [] = Unit {0}
IsChain durable image (link ∷ links) = IsLink durable image link × IsChain link.found link.image links

-- the last image of a chain is the one that its last run left, or the opening image if there is no run
abbrev pub last_image : (image : List ℕ) → List Link → List ℕ
last_image image [] = image
last_image image (link ∷ links) = last_image link.image links

-- the last state of a chain is the one that its last run left, or the opening state if there is no run
abbrev pub last_state : Durable → List Link → Durable
last_state durable [] = durable
last_state durable (link ∷ links) = last_state link.found links

-- the prefixes of a chain are the commits that each run left in the store, run by run
abbrev pub prefixes_of : Durable → (image : List ℕ) → List Link → List Change
prefixes_of durable image [] = []
prefixes_of durable image (link ∷ links) = prefix_of durable image link ++ prefixes_of link.found link.image links

-- what the calls of a program may leave is a relation: it holds of the files and the board with which a call is made,
-- and of the files, the board and the status that the call may leave
abbrev pub Ran : Type 1
Ran = (files : FilesState) → (board : BoardState) → (files_left : FilesState) → (board_left : BoardState)
    → (status : ℕ) → Type 0

-- runs are calls of a program if each was made with the files before it and a new board, and left the files behind it,
-- its board and its status; the new board has the image that is left before the run, and none of its calls is to fail
abbrev pub AreCalls : Ran → (image : List ℕ) → List Link → Type 0
AreCalls ran image [] = Unit {0}
AreCalls ran image (link ∷ links) =
    ran link.files (new_board image []) link.files_left link.board link.status × AreCalls ran link.image links

-- a call has made a chain of runs of a program if they are calls of the program, have the files `files` before them and
-- `files_left` behind them, the cuts `cuts` and the answers `answers`; the last image is that of the call and stands
-- for the last state
pub record HasChain (ran : Ran) (durable : Durable) (image : List ℕ) (files files_left : List FilesState)
    (cuts : List (Option (ℕ × Fill))) (last : List ℕ) (answers : List (ℕ × ℕ)) : Type 0 where
  pub links : List Link
  pub chain : IsChain durable image links
  pub calls : AreCalls ran image links
  pub files_are : map (λ (link : Link). link.files) links ≡ files
  pub left_are : map (λ (link : Link). link.files_left) links ≡ files_left
  pub cuts_are : map (λ (link : Link). link.cut) links ≡ cuts
  pub answers_are : map (λ (link : Link). (link.status, link.number)) links ≡ answers
  pub last_is : last_image image links ≡ last
  pub stands : HasState last (last_state durable links)

-- the text that a run over an image left has a byte of a receipt if the receipt is among the run's deeds, and the texts
-- of the deeds before it are shorter than the text
pub record HasByteOf (image : List ℕ) (link : Link) (receipt : receipts.Receipt) : Type 0 where
  pub start : Start
  pub begins : begun_with image link ≡ Ok start
  pub earlier : List Deed
  pub later : List Deed
  pub among : deeds_done image link ≡ earlier ++ Does (Receipt receipt) ∷ later
  pub reached : length (texts start.seal earlier) < length link.text
