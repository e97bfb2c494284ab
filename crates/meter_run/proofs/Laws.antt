-- The laws of the public empty functions.
use Rattle.std.{specs.Prelude.{get_or}, proofs.Common.{[], ℕ, ◌++◌, ◌<◌, ◌∷◌, ◌≡◌, ◌≤◌, List}}
use Rattle.{meter_states.proofs.Laws.{receipts_follow_their_entries-run}, meter_run.specs.Common.{events_of}}
use Rattle.meter_run.specs.Common.{Begins, Durable, Ghosts, HasSeal, HoldsSeal, IsAtRest, KeepsStore, LeavesOnly}
use Rattle.meter_run.specs.Common.{MayLeaveAmid, Place, Receipt, Seal, Setting, TableParts, actions_of, entries_of}
use Rattle.meter_run.specs.{Deeds.{Deed, Does, Prints, changes_of}, Runs.{HasDone, HasStopped, OpensWith, run_deeds}}
use Rattle.meter_run.{specs.OnStore.{HasBeside, WritesTotals}, proofs.Cuts.{acts_have_entries}}
use Rattle.meter_run.specs.Points.{HasEntries, HasEntryOf, IsCutOfDeeds, IsNumberedWithin}
use Rattle.meter_run.proofs.CutImages.{beside_bytes, kept_begins, next_opens, numbers_rise, receipt_entered}
use Rattle.meter_run.proofs.{CutImages.{receipt_numbered, seal_kept, seal_left}, LastLines.{line_begun, line_whole}}
use Rattle.taxi_units.specs.declared.receipt.Receipt as receipts
pub use Rattle.meter_run.specs.PointLaws.{changes_joined, left_has, settled_has, texts_joined, turn_behind, turn_kept}
pub use Rattle.meter_run.proofs.BoardDeeds.{keeps_read}
pub use Rattle.meter_run.proofs.{Cuts.{begins_in, deeds_follow}, SupplyDrop.{begins, ready_first}}

module _ (tables : TableParts) (seal : Seal) (told : Type 0) (opening : Durable) (printed : List ℕ) (deeds : List Deed)
    (image text : List ℕ) (cut : IsCutOfDeeds tables seal told opening printed deeds image text) where
  pub the_number_tells_the_commits-beginning : (more : List Deed) × (deeds ≡ cut.kept ++ more)
  the_number_tells_the_commits-beginning = kept_begins tables seal told opening printed deeds image text cut

  pub receipts_have_their_entries-cut : (earlier later : List Deed) (receipt : receipts.Receipt) → cut.done ++ cut.next
      ≡ earlier ++ Does (Receipt receipt) ∷ later → HasEntryOf receipt (entries_of (changes_of cut.kept))
  receipts_have_their_entries-cut = receipt_entered tables seal told opening printed deeds image text cut

  pub receipts_are_numbered_in_order-cut : (earlier later : List Deed) (receipt : receipts.Receipt) → cut.done
      ++ cut.next ≡ earlier ++ Does (Receipt receipt) ∷ later → IsNumberedWithin opening.number cut.found.number receipt
  receipts_are_numbered_in_order-cut = receipt_numbered tables seal told opening printed deeds image text cut

  pub cuts_open_the_next_run : {D L : Type 0} {N : ℕ} (B : Ghosts D N L) (board : D) → B.image board ≡ image
      → IsAtRest B board → OpensWith B tables board cut.found
  cuts_open_the_next_run B board is settled =
      next_opens tables seal told opening printed deeds image text cut B board is settled

pub receipts_have_their_entries-run : (s : Setting) (opening : Durable) (drive : List ℕ)
    → HasEntries opening.number (run_deeds s opening drive)
receipts_have_their_entries-run s opening drive = acts_have_entries opening.number
    (actions_of s opening (events_of drive)) (receipts_follow_their_entries-run s opening (events_of drive))

pub receipts_are_numbered_in_order-rise : (number : ℕ) (earlier between later : List Deed)
    (first next : receipts.Receipt)
    → HasEntries number (earlier ++ Does (Receipt first) ∷ (between ++ Does (Receipt next) ∷ later))
    → first.number < next.number
receipts_are_numbered_in_order-rise = numbers_rise

module _ {D L : Type 0} {N : ℕ} (B : Ghosts D N L) where
  pub runs_leave_the_seals-bytes : (board : D) (left : List ℕ) (place : ℕ) → HasBeside B board left → 1024 ≤ place
      → ¬ B.in_flight board place → get_or left place 0 ≡ get_or (B.image board) place 0
  runs_leave_the_seals-bytes = beside_bytes B

  pub runs_leave_the_seals-left : (board : D) (left : List ℕ) (place : Place) (seal : Seal) → HasBeside B board left
      → HoldsSeal B place board seal → HasSeal left seal
  runs_leave_the_seals-left = seal_left B

  pub runs_leave_the_seals-kept : (old new : D) (place : Place) (seal : Seal) → WritesTotals B old new
      → HoldsSeal B place old seal → HoldsSeal B place new seal
  runs_leave_the_seals-kept = seal_kept B

  pub lines_follow_a_run-whole : (tables : TableParts) (seal : Seal) (old mid new : D) (opening : Durable) (deeds : List
      Deed) (line : List ℕ) → HasEntries opening.number deeds → HasDone B tables seal old mid opening deeds
      → WritesTotals B old mid → KeepsStore B mid new
      → LeavesOnly B mid new (MayLeaveAmid (B.image mid) (B.in_flight mid) (B.printed mid) line)
      → (B.tells_text → B.printed new ≡ B.printed mid ++ line)
      → HasDone B tables seal old new opening (deeds ++ Prints line ∷ [])
  lines_follow_a_run-whole = line_whole B

  pub lines_follow_a_run-begun : (tables : TableParts) (seal : Seal) (old mid new : D) (opening : Durable) (deeds : List
      Deed) (line : List ℕ) → HasEntries opening.number deeds → HasDone B tables seal old mid opening deeds
      → WritesTotals B old mid → KeepsStore B mid new
      → LeavesOnly B mid new (MayLeaveAmid (B.image mid) (B.in_flight mid) (B.printed mid) line)
      → (B.tells_text → Begins (B.printed mid) (B.printed new) line)
      → HasStopped B tables seal old new opening (deeds ++ Prints line ∷ [])
  lines_follow_a_run-begun = line_begun B
