-- Rules: what a cut of the power may leave of a list of deeds, in the store and of the printed text.
use Rattle.std.specs.{Option.{ForSome}, Prelude.{[], ℕ, ◌++◌, ◌+◌, ◌<◌, ◌∷◌, ◌≡◌, ◌≤◌, ◌⊎◌, Contains, List, Ok, length}}
use Rattle.slot_store.specs.{Scan.{found_at}, declared.found.Found.TheVariants.{Latest}}
use Rattle.{totals_record.specs.Reading.{reads}, meter_states.specs.Pairs.{IsReceiptOf}}
use Rattle.meter_run.specs.Common.{Begins, Durable, Enter, Entry, Fits, GrowsBy, HasState, Place, Receipt, Seal}
use Rattle.meter_run.specs.{Common.{TableParts, state_number_of}, Deeds.{Deed, Does, changes_of, texts}}
use Rattle.taxi_units.specs.declared.receipt.Receipt as receipts
pub use Rattle.meter_run.specs.DeedPoints.{GoesBy, HasFittingState, IsPointOfDeeds}

-- a scan answers a durable state of an image if it finds that state as the latest body, at some place; which state the
-- bytes of a slot are read as, `reads`, says the law states_are_read_by_their_table of totals_record
abbrev pub ScanAnswers : (image : List ℕ) → Durable → Type 0
ScanAnswers image durable = (place : Place) × (found_at reads state_number_of 0 image ≡ Ok (Latest place durable))

-- deeds that begin at a number of the store end in the entry of a receipt if their last deed is that entry, and the
-- receipt has the number that the store has behind them: one more for each commit
pub record EndsInEntryOf (number : ℕ) (receipt : receipts.Receipt) (deeds : List Deed) : Type 0 where
  pub before : List Deed
  pub entry : Entry
  pub last : deeds ≡ before ++ Does (Enter entry) ∷ []
  pub is : IsReceiptOf entry receipt
  pub numbered : receipt.number ≡ number + length (changes_of deeds)

-- deeds that begin at a number of the store have their entries if each receipt among them stands directly behind its
-- entry, with the number that the store has then
abbrev pub HasEntries : (number : ℕ) → List Deed → Type 0
HasEntries number deeds =
    (earlier later : List Deed) (receipt : receipts.Receipt) → deeds ≡ earlier ++ Does (Receipt receipt) ∷ later
    → EndsInEntryOf number receipt earlier

-- entries have that of a receipt if one of them is the receipt's
pub record HasEntryOf (receipt : receipts.Receipt) (entries : List Entry) : Type 0 where
  pub entry : Entry
  pub among : Contains entries entry
  pub is : IsReceiptOf entry receipt

-- a receipt has a number within two numbers of the store if it is above the first and no greater than the second
abbrev pub IsNumberedWithin : (above most : ℕ) → receipts.Receipt → Type 0
IsNumberedWithin above most receipt = (above < receipt.number) × (receipt.number ≤ most)

-- a receipt is entered if its entry, which stands directly before it, is among the deeds that the store has
pub record IsEntered (number : ℕ) (kept earlier : List Deed) (receipt : receipts.Receipt) : Type 0 where
  pub entry : EndsInEntryOf number receipt earlier
  pub more : List Deed
  pub has : kept ≡ earlier ++ more

-- a cut of the power may leave an image and a text of deeds that began at a durable state, when `printed` had been
-- printed: some deeds were done, the cut came amid the next one, if any, and the others were left
pub record IsCutOfDeeds (tables : TableParts) (seal : Seal) (told : Type 0) (durable : Durable) (printed : List ℕ)
    (deeds : List Deed) (image text : List ℕ) : Type 0 where
  pub done : List Deed
  pub next : List Deed
  pub left : List Deed
  pub split : deeds ≡ done ++ (next ++ left)
  pub one : length next ≤ 1
  -- the text that is printed is that of the deeds that were done and a beginning of the next one's, if the text is told
  pub begun : told → Begins (printed ++ texts seal done) text (texts seal next)
  -- the image has what was committed by the deeds that were done, or by the next one too
  pub kept : List Deed
  pub kept_is : (kept ≡ done) ⊎ (kept ≡ done ++ next)
  -- the image stands for a state, which a scan of it answers and whose held trip fits; the number of that state less
  -- the opening one is the number of commits that the image has; its totals are the opening ones plus the sums over the
  -- entries of those commits
  pub found : Durable
  pub stands : HasState image found
  pub scanned : ScanAnswers image found
  pub fits : ForSome found.hold (Fits tables)
  pub follows : GrowsBy durable found (changes_of kept)
  -- of each receipt of which a byte may have been printed, the entry directly before it is in the image, and the
  -- receipt has the number of the store behind that entry
  pub receipts : (earlier later : List Deed) (receipt : receipts.Receipt)
      → done ++ next ≡ earlier ++ Does (Receipt receipt) ∷ later → IsEntered durable.number kept earlier receipt
