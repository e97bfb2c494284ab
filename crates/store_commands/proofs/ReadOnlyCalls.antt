-- Calls that only look at the store: what a cut leaves from their opening sync on.
use Rattle.std.proofs.{Common.{[], ℕ, ◌∙◌, ◌≡◌, ◌≢◌, ◌⊎◌, List, ap, inl, inr, subst, sym}, lemmas.List.{ext_get_or}}
use Rattle.outside.{specs.Runs.{LeavesNow}, proofs.Laws.{leaves_kept, leaves_wider}}
use Rattle.{slot_store.proofs.Laws.{from_sync_as, goes_on}, call_ends.specs.{Call.{IsEnd}, Unwritten.{LeavesImage}}}
use Rattle.call_ends.{specs.Ending.{LeavesImageSettled}, proofs.Laws.{board_or_not, bytes-kept, bytes-read, bytes-then}}
use Rattle.store_commands.specs.Common.{Ended, Ghosts, IsAsHeld, IsAtRest, KeepsStore, LeavesFromSync, LeavesOnly}
use Rattle.store_commands.specs.{Common.{LeavesStoreUnwritten, MayHold, line_of, status_of}, Opened.{OnlyOpens}}
use Rattle.call_ends.specs.declared.ending.Ended.TheVariants as ended

module _ {D L : Type 0} {N : ℕ} (B : Ghosts D N L) where
  -- an image as it was, whatever the text is
  abbrev Same : D → List ℕ → List ℕ → Type 0
  Same board left_image left_text = left_image ≡ B.image board

  -- a scan
  unwritten-scanned : (fails fails' : Type 0) (old new : D) → (fails → fails')
      → LeavesFromSync B fails old new (IsAsHeld B old)
      → LeavesImage B fails' old new
  unwritten-scanned fails fails' old new more synced =
      from_sync_as B (IsAsHeld B old) (Same old) fails fails' old new more (λ i x held. held.image) synced

  pub unwritten-only : (fails : Type 0) (end : Ended) (old new : D) → (fails → end ≡ ended.BoardFault)
      → LeavesFromSync B fails old new (IsAsHeld B old)
      → (¬ fails → B.image new ≡ B.image old) → (¬ fails → IsAtRest B new) → LeavesImageSettled B old new end
  unwritten-only fails end old new board synced same settled = record {
    leaves = unwritten-scanned fails (end ≡ ended.BoardFault) old new board synced;
    same = λ good. same (λ f. good (board f));
    settled = λ good. settled (λ f. good (board f));
  }

  -- if nothing is in flight, calls that keep the store leave the image
  kept_image : (old mid new : D) → LeavesNow B mid → IsAtRest B mid → B.image mid ≡ B.image old → KeepsStore B mid new
      → LeavesOnly B mid new (Same old)
  kept_image old mid new now settled same kept =
      leaves_wider B (λ i x. MayHold (B.image mid) (B.in_flight mid) i) (Same old) mid new
      (λ i x held. ext_get_or 0 i (B.image mid) held.bytes.size
      (λ place lt. held.bytes.rest place (settled place)) ∙ same)
      (leaves_kept B mid new now kept)

  -- behind them too
  pub unwritten-on : (fails fails' : Type 0) (old mid new : D) → ¬ fails → LeavesImage B fails old mid → LeavesNow B mid
      → IsAtRest B mid
      → B.image mid ≡ B.image old → KeepsStore B mid new → LeavesImage B fails' old new
  unwritten-on fails fails' old mid new went leaves now settled same kept =
      goes_on B (Same old) (Same old) fails fails' old mid new went (λ i x is. is) leaves
      (kept_image old mid new now settled same kept)

  -- a scan that went well, and calls that keep the store
  pub unwritten-kept : (fails : Type 0) (end : Ended) (old mid new : D) → ¬ fails
      → LeavesFromSync B fails old mid (IsAsHeld B old) → LeavesNow B mid
      → IsAtRest B mid → B.image mid ≡ B.image old → KeepsStore B mid new → LeavesImageSettled B old new end
  unwritten-kept fails end old mid new went synced now settled same kept = record {
    leaves = unwritten-on fails (end ≡ ended.BoardFault) old mid new went
        (unwritten-scanned fails fails old mid (λ f. f) synced) now settled same kept;
    same = λ good. kept.same ∙ same;
    settled = λ good place flies. settled place (kept.flight place flies);
  }

  -- an opening, and an opening that went well with calls behind it that keep the store
  pub unwritten-opened : (fails : Type 0) (end : Ended) (old new : D) → (fails → end ≡ ended.BoardFault)
      → OnlyOpens B fails old new → LeavesStoreUnwritten B old new end
  unwritten-opened fails end old new board h = record {
    bytes = bytes-read B old new h.reads;
    same = λ good. h.same (λ f. good (board f));
    looks = λ told. unwritten-only fails end old new board (h.synced told) h.same (h.settled told);
  }

  pub unwritten-behind : (fails : Type 0) (end : Ended) (old mid new : D) → ¬ fails → OnlyOpens B fails old mid
      → LeavesNow B mid → KeepsStore B mid new
      → LeavesStoreUnwritten B old new end
  unwritten-behind fails end old mid new went h now kept = record {
    bytes = bytes-then B old mid new (bytes-read B old mid h.reads) (bytes-kept B mid new kept);
    same = λ good. kept.same ∙ h.same went;
    looks =
        λ told. unwritten-kept fails end old mid new went (h.synced told) now (h.settled told went) (h.same went) kept;
  }

  -- the last line behind it
  pub unwritten-finished : (old mid new : D) (end : Ended) (status : ℕ) (told failed : Type 0) (before now : List ℕ)
      → LeavesImageSettled B old mid end → LeavesNow B mid
      → KeepsStore B mid new → (line_of end ≡ [] → new ≡ mid)
      → IsEnd told failed (status_of end) (line_of end) status before now
      → LeavesImage B (status ≡ 8) old new
  unwritten-finished old mid new end status told failed before now h only_now kept silent ends = by (board_or_not end)
    where
      eighth : IsEnd told failed (status_of end) (line_of end) status before now → end ≡ ended.BoardFault → status ≡ 8
      eighth (inl whole) e = whole.status_is ∙ ap status_of e
      eighth (inr cut) e = cut.status_is

      by : (end ≡ ended.BoardFault) ⊎ ((end ≢ ended.BoardFault) × (status_of end ≢ 8))
          → LeavesImage B (status ≡ 8) old new
      by (inl is) =
          subst (λ (board : D). LeavesImage B (status ≡ 8) old board) (sym (silent (ap line_of is)))
          (from_sync_as B (Same old) (Same old) (end ≡ ended.BoardFault) (status ≡ 8) old mid (eighth ends)
          (λ i x is. is) h.leaves)
      by (inr (good, not_8)) =
          unwritten-on (end ≡ ended.BoardFault) (status ≡ 8) old mid new good h.leaves only_now (h.settled good)
          (h.same good) kept
