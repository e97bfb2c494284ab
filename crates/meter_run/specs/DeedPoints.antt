-- Rules: points of a list of deeds, by recursion over the list. IsCutOfDeeds, in Points, says which deeds a cut has.
use Rattle.std.specs.{Option.{ForSome}, Prelude.{[], ℕ, ◌++◌, ◌∷◌, ◌≡◌, ◌⊎◌, List}}
use Rattle.meter_run.specs.Common.{Begins, Durable, Fits, Ghosts, HasState, LeavesOnly, Seal, TableParts}
use Rattle.meter_run.specs.Deeds.{Deed, after_deed, deed_text}

-- an image holds a durable state if it stands for it and the state's held trip fits the tables
pub record HasFittingState (tables : TableParts) (image : List ℕ) (durable : Durable) : Type 0 where
  pub has : HasState image durable
  pub fits : ForSome durable.hold (Fits tables)

module _ (tables : TableParts) (seal : Seal) (told : Type 0) where
  -- an image and a text are amid a deed if the image stands for the state before or after the deed, and a beginning of
  -- the deed's text was printed, if the text is told
  pub record IsAmidDeed (durable : Durable) (printed : List ℕ) (deed : Deed) (image text : List ℕ) : Type 0 where
    pub holds : HasFittingState tables image durable ⊎ HasFittingState tables image (after_deed durable deed)
    pub begun : told → Begins printed text (deed_text seal deed)

  -- an image and a text are at a point of a list of deeds if they are at its end, or amid one of the deeds
  abbrev pub IsPointOfDeeds : Durable → (printed : List ℕ) → List Deed → (image text : List ℕ) → Type 0
  IsPointOfDeeds durable printed [] image text = HasFittingState tables image durable × (told → text ≡ printed)
  IsPointOfDeeds durable printed (deed ∷ deeds) image text =
      IsAmidDeed durable printed deed image text
      ⊎ IsPointOfDeeds (after_deed durable deed) (printed ++ deed_text seal deed) deeds image text

module _ {D L : Type 0} {N : ℕ} (B : Ghosts D N L) (tables : TableParts) (seal : Seal) where
  -- calls of the board keep to deeds if they carried them out, or a part of them: a cut at each moment leaves a point
  -- of the list, and the board is at one
  pub record GoesBy (old new : D) (durable : Durable) (deeds : List Deed) : Type 0 where
    pub leaves : LeavesOnly B old new (IsPointOfDeeds tables seal B.tells_text durable (B.printed old) deeds)
    pub stops : IsPointOfDeeds tables seal B.tells_text durable (B.printed old) deeds (B.image new) (B.printed new)
