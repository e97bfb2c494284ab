-- For proofs: one run of a chain by the values that the code has of it. Link says what such a run is.
use Rattle.std.specs.Prelude.{[], ℕ, ◌≡◌, ◌⊎◌, List, Option}
use Rattle.run_chains.specs.Chain.{Ran}
use Rattle.run_chains.specs.{Common.{BoardState, Durable, FilesState, Fill, new_board}, Link.{IsLink, Link}}

-- there is a run over an image, by a call of a program on a new board with that image; it has these files before and
-- after it, this cut, this status, and this image and number behind it
pub record HasLink (ran : Ran) (durable : Durable) (image : List ℕ) (files files_left : FilesState)
    (cut : Option (ℕ × Fill)) (status : ℕ) (next : List ℕ) (number : ℕ) : Type 0 where
  pub link : Link
  pub is : IsLink durable image link
  pub call : ran link.files (new_board image []) link.files_left link.board link.status
  pub files_are : link.files ≡ files
  pub left_are : link.files_left ≡ files_left
  pub cut_is : link.cut ≡ cut
  pub status_is : link.status ≡ status
  pub image_is : link.image ≡ next
  pub number_is : link.number ≡ number

-- a run of a chain lacks memory if none was there for its board and its files are as they were, or if it is a call of
-- the program on a new board that ended with 8 or 12; that board fails only if memory runs out
abbrev pub LacksMemory : Ran → (image : List ℕ) → (files files_left : FilesState) → Type 0
LacksMemory ran image files files_left =
    (files_left ≡ files)
    ⊎ ((board : BoardState) × (status : ℕ) × ran files (new_board image []) files_left board status
    × ((status ≡ 8) ⊎ (status ≡ 12)))
