-- Which ends and statuses the finding of the log's end and the filing of a roll come to.
use Rattle.std.proofs.Common.{ℕ, ◌∙◌, ◌≡◌, ◌≢◌, ◌≤◌, Err, List, None, Ok, Option, Result, Some, arith, inl, inr, refl}
use Rattle.{std.proofs.Common.{sym}, slot_store.proofs.Laws.{from_sync_as}, log_commands.specs.Filings.{MayHaveFailed}}
use Rattle.log_commands.specs.Calls.{AreFew, MayHave, MayHaveReadFault, TakesNothing, WritesNothing}
use Rattle.log_commands.specs.Common.{BoardFault, Call, File, FileEnd, Ghosts, LeavesFromSync, ReadFault, Rows, Show}
use Rattle.log_commands.specs.{Endings.{filing_end, status_of, unread_end}, declared.finding.FindFault.{FindFault}}
use Rattle.log_commands.proofs.NewestFound.{same_fault}
use Rattle.log_commands.specs.declared.file_roll.FileEnd.TheVariants as ends
use Rattle.log_commands.specs.declared.finding.FindFault.TheVariants as faults

pub unread_no_read : (fault : FindFault) → unread_end fault ≡ ReadFault → ⊥
unread_no_read (faults.BadSlot slot) e = absurd cc
unread_no_read faults.Broken e = absurd cc
unread_no_read faults.LogFault e = absurd cc

pub unread_board : (fault : FindFault) → unread_end fault ≡ BoardFault → fault ≡ faults.LogFault
unread_board (faults.BadSlot slot) e = absurd cc
unread_board faults.Broken e = absurd cc
unread_board faults.LogFault e = refl

pub filing_read : (end : FileEnd) → filing_end end ≡ ReadFault → end ≡ ends.ReadFault
filing_read (ends.Filed count) e = absurd cc
filing_read (ends.OtherTaxi place) e = absurd cc
filing_read ends.TooLong e = absurd cc
filing_read ends.ReadFault e = refl

pub filing_no_board : (end : FileEnd) → filing_end end ≡ BoardFault → ⊥
filing_no_board (ends.Filed count) e = absurd cc
filing_no_board (ends.OtherTaxi place) e = absurd cc
filing_no_board ends.TooLong e = absurd cc
filing_no_board ends.ReadFault e = absurd cc

-- if a read may have failed, the status is one at which it may
pub filing_reads : (end : FileEnd) → MayHaveFailed (Ok end) → MayHaveReadFault (status_of (filing_end end))
filing_reads (ends.Filed count) failed = absurd failed
filing_reads (ends.OtherTaxi place) failed = inl refl
filing_reads ends.TooLong failed = absurd failed
filing_reads ends.ReadFault failed = inr (inl refl)

in_range : (end : FileEnd) → 1 ≤ status_of (filing_end end) → status_of (filing_end end) ≤ 3 → ⊥
in_range (ends.Filed count) low high = omega (arith, low)
in_range (ends.OtherTaxi place) low high = omega (arith, high)
in_range ends.TooLong low high = omega (arith, high)
in_range ends.ReadFault low high = omega (arith, high)

-- a filing writes
pub filing_writes : (end : FileEnd) (status : ℕ) → status ≡ status_of (filing_end end)
    → WritesNothing (Some File) status → ⊥
filing_writes end status is (inl not) = not refl
filing_writes end status is (inr range) = in_range end (omega (arith, is, range.0)) (omega (arith, is, range.1))

pub filing_takes : (end : FileEnd) (status : ℕ) → status ≡ status_of (filing_end end)
    → TakesNothing (Some File) status → ⊥
filing_takes end status is (inl not) = not.0 refl
filing_takes end status is (inr range) = in_range end (omega (arith, is, range.0)) (omega (arith, is, range.1))

pub fault_writes : WritesNothing (Some File) 8 → ⊥
fault_writes (inl not) = not refl
fault_writes (inr range) = omega (arith, range.1)

pub fault_takes : TakesNothing (Some File) 8 → ⊥
fault_takes (inl not) = not.0 refl
fault_takes (inr range) = omega (arith, range.1)

-- `rows` takes what it reads
pub rows_take : (status : ℕ) → MayHave (Some Rows) status → TakesNothing (Some Rows) status → ⊥
rows_take status has (inl not) = not.1 refl
rows_take status has (inr range) = omega (arith, has, range.0, range.1)

-- ---- the statuses that a call may have

pub unread_shows : (fault : FindFault) → MayHave (Some Show) (status_of (unread_end fault))
unread_shows (faults.BadSlot slot) = inr (inl refl)
unread_shows faults.Broken = inr (inr (inl refl))
unread_shows faults.LogFault = inr (inr (inr refl))

pub unread_files : (fault : FindFault) → MayHave (Some File) (status_of (unread_end fault))
unread_files (faults.BadSlot slot) = (omega arith, (omega arith, omega arith))
unread_files faults.Broken = (omega arith, (omega arith, omega arith))
unread_files faults.LogFault = (omega arith, (omega arith, omega arith))

pub filing_files : (end : FileEnd) → MayHave (Some File) (status_of (filing_end end))
filing_files (ends.Filed count) = (omega arith, (omega arith, omega arith))
filing_files (ends.OtherTaxi place) = (omega arith, (omega arith, omega arith))
filing_files ends.TooLong = (omega arith, (omega arith, omega arith))
filing_files ends.ReadFault = (omega arith, (omega arith, omega arith))

-- each call may end with 8
pub fault_has : (call : Option Call) (status : ℕ) → status ≡ 8 → MayHave call status
fault_has None status is = inr is
fault_has (Some Show) status is = inr (inr (inr is))
fault_has (Some File) status is = (omega (arith, is), (omega (arith, is), omega (arith, is)))
fault_has (Some Rows) status is = inr (inr (inr is))

-- a bound of steps holds of fewer
pub few_are_fewer : (call : Option Call) (before more now : ℕ) → AreFew call before more → now ≤ more
    → AreFew call before now
few_are_fewer None before more now few fewer = omega (arith, few, fewer)
few_are_fewer (Some Show) before more now few fewer = omega (arith, few, fewer)
few_are_fewer (Some File) before more now few fewer = tt
few_are_fewer (Some Rows) before more now few fewer = tt

module _ {D L T : Type 0} {N : ℕ} (B : Ghosts D N L) (kind : List ℕ → List ℕ → Type 0) (old new : D)
    (r : Result T FindFault) where
  -- if no end is found, a sync that fails is the fault
  pub unread_sync : (fault : FindFault) → r ≡ Err fault → LeavesFromSync B (r ≡ Err faults.LogFault) old new kind
      → LeavesFromSync B (fault ≡ faults.LogFault) old new kind
  unread_sync fault is synced = from_sync_as B kind kind (r ≡ Err faults.LogFault) (fault ≡ faults.LogFault) old new
      (λ e. same_fault T fault faults.LogFault (sym is ∙ e)) (λ image text is_kind. is_kind) synced

  no_fault : (found : T) → r ≡ Ok found → r ≡ Err faults.LogFault → ⊥
  no_fault found is e = let no : ◌≡◌ {A = Result T FindFault} (Ok found) (Err faults.LogFault) = sym is ∙ e in absurd cc

  -- if one is found, it has succeeded
  pub found_sync : (found : T) → r ≡ Ok found → LeavesFromSync B (r ≡ Err faults.LogFault) old new kind
      → LeavesFromSync B ⊥ old new kind
  found_sync found is synced = from_sync_as B kind kind (r ≡ Err faults.LogFault) ⊥ old new (no_fault found is)
      (λ image text is_kind. is_kind) synced

  -- and the image is as it was
  pub found_same : {S : Type 0} (found : T) → r ≡ Ok found → (r ≢ Err faults.LogFault → S) → S
  found_same found is same = same (no_fault found is)
