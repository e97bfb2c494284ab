use Rattle.std.proofs.Common.{◌∙◌, ◌≡◌, Err, Ok, ap, arith, refl, sym}
use Rattle.{slot_store.proofs.Laws.{from_sync_as}, call_ends.proofs.Laws.{no_fault, reads-then, same_fault}}
use Rattle.store_commands.specs.{Common.{IsAsHeld, LeavesFromSync, ReadsOnly, found_at}, Opening.{fault_from}}
use Rattle.store_commands.proofs.Openings.{failed_from, opened_bad, opened_by, stays_found, synced-on}
use Rattle.store_commands.proofs.opening.open_store.Goals.{After-scan-2}
use Rattle.slot_store.specs.declared.found.SlotFault.TheVariants as slots
use Rattle.totals_record.specs.Reading as totals
use Rattle.meter_store.specs.Stored as states
use Rattle.seal_record.specs.Decoding as seals
use Rattle.store_commands.specs.declared.opening.StoreFault.TheVariants as stores
use Rattle.store_commands.proofs.opening.open_store.Given as given
use Rattle.store_commands.proofs.opening.open_store.Goals as goal

-- a scan that fails is the opening's fault
failed : (g : given.Over) (c : goal.After-fault_of_pair g) → c.scan.result ≡ Err slots.DeviceFailed
    → c.fault_of_pair.result ≡ stores.BoardFault
failed g c e = c.fault_of_pair.ensures ∙ ap (fault_from 0) (same_fault _ _ _ c.in-Err.is e)

failed_on : (g : given.Over) (c : goal.After-fault_of_pair-in-Err-scan g) → c.scan-2.result ≡ Err slots.DeviceFailed
    → c.fault_of_pair-in-Err-scan.result ≡ stores.BoardFault
failed_on g c e = c.fault_of_pair-in-Err-scan.ensures ∙ ap (fault_from 2) (same_fault _ _ _ c.in-Err-scan.is e)

-- one scan after the other
reads_both : (g : given.Over) (c : After-scan-2 g) → ReadsOnly g.B.Printer c.args.board.now c.scan-2.new.board
reads_both g c = reads-then g.B.Printer c.args.board.now c.scan.new.board c.scan-2.new.board c.scan.ensures.reads
    (c.scan.ensures.synced.same (no_fault _ _ _ c.in-Ok.is)) c.scan-2.ensures.reads

synced_both : (g : given.Over) (c : After-scan-2 g) (fails : Type 0) → g.B.Printer.tells_image
    → LeavesFromSync g.B.Printer fails c.args.board.now c.scan-2.new.board (IsAsHeld g.B.Printer c.args.board.now)
synced_both g c fails tells =
    let first = c.scan.ensures in
    let went = no_fault c.scan.result c.in-Ok.found slots.DeviceFailed c.in-Ok.is in
    synced-on g.B.Printer c.args.board.now c.scan.new.board c.scan-2.new.board first.reads (first.synced.same went)
    (c.scan.result ≡ Err slots.DeviceFailed) fails went (first.synced.settled tells went)
    (first.synced.leaves tells) c.scan-2.ensures.reads.leaves

pub returns-in-Err-clause-exact : goal.returns-in-Err-clause-exact
returns-in-Err-clause-exact g c = λ tells good.
    ap Err c.fault_of_pair.ensures ∙ sym (opened_bad (g.B.Printer.image c.args.board.now) c.in-Err.fault
    (sym (c.scan.ensures.exact tells (λ e. good (ap Err (failed g c e)))) ∙ c.in-Err.is))

pub returns-in-Err-clause-same : goal.returns-in-Err-clause-same
returns-in-Err-clause-same g c = λ good. c.scan.ensures.synced.same (λ e. good (ap Err (failed g c e)))

pub returns-in-Err-clause-cause : goal.returns-in-Err-clause-cause
returns-in-Err-clause-cause g c = λ e.
    let failed = failed_from 0 c.in-Err.fault (sym c.fault_of_pair.ensures ∙ same_fault _ _ _ refl e) in
    c.scan.ensures.cause.rose (c.in-Err.is ∙ ap Err failed)

pub returns-in-Err-scan-clause-exact : goal.returns-in-Err-scan-clause-exact
returns-in-Err-scan-clause-exact g c = λ tells good.
    let went : ¬ (c.scan.result ≡ Err slots.DeviceFailed) = no_fault _ _ _ c.in-Ok.is in
    ap Err c.fault_of_pair-in-Err-scan.ensures
    ∙ sym (opened_by (g.B.Printer.image c.args.board.now) c.in-Ok.found (Err c.in-Err-scan.fault)
    (sym (c.scan.ensures.exact tells went) ∙ c.in-Ok.is)
    (ap (found_at seals.reads seals.seal_number_of 1024) (sym (c.scan.ensures.synced.same went))
    ∙ sym (c.scan-2.ensures.exact tells (λ e. good (ap Err (failed_on g c e)))) ∙ c.in-Err-scan.is))

pub returns-in-Err-scan-clause-reads : goal.returns-in-Err-scan-clause-reads
returns-in-Err-scan-clause-reads g c = reads_both g (goal.at.returns-in-Err-scan-clause-reads g c).After-scan-2

pub returns-in-Err-scan-clause-same : goal.returns-in-Err-scan-clause-same
returns-in-Err-scan-clause-same g c = λ good.
    c.scan-2.ensures.synced.same (λ e. good (ap Err (failed_on g c e)))
    ∙ c.scan.ensures.synced.same (no_fault _ _ _ c.in-Ok.is)

pub returns-in-Err-scan-clause-cause : goal.returns-in-Err-scan-clause-cause
returns-in-Err-scan-clause-cause g c = λ e.
    let failed =
    failed_from 2 c.in-Err-scan.fault (sym c.fault_of_pair-in-Err-scan.ensures ∙ same_fault _ _ _ refl e) in
    omega (
      arith,
      c.scan-2.ensures.cause.rose (c.in-Err-scan.is ∙ ap Err failed),
      c.scan.ensures.cause.kept
          (no_fault _ _ _ c.in-Ok.is),
    )

pub returns-clause-exact : goal.returns-clause-exact
returns-clause-exact g c = λ tells good.
    let went : ¬ (c.scan.result ≡ Err slots.DeviceFailed) = no_fault _ _ _ c.in-Ok.is in
    sym (opened_by (g.B.Printer.image c.args.board.now) c.in-Ok.found (Ok c.in-Ok-scan.found)
    (sym (c.scan.ensures.exact tells went) ∙ c.in-Ok.is)
    (ap (found_at seals.reads seals.seal_number_of 1024) (sym (c.scan.ensures.synced.same went))
    ∙ sym (c.scan-2.ensures.exact tells (no_fault _ _ _ c.in-Ok-scan.is)) ∙ c.in-Ok-scan.is))

pub returns-clause-opened : goal.returns-clause-opened
returns-clause-opened g c = λ tells.
    record {
      totals = stays_found totals.reads states.state_number_of 0 (g.B.Printer.image c.scan.new.board)
          (g.B.Printer.image c.scan-2.new.board) (g.B.Printer.in_flight c.scan.new.board)
          (g.B.Printer.in_flight c.scan-2.new.board)
          c.in-Ok.found (c.scan-2.ensures.synced.same (no_fault _ _ _ c.in-Ok-scan.is)) c.scan-2.ensures.reads.flight
          (c.in-Ok.ensures.settled tells);
      seal = c.in-Ok-scan.ensures.settled tells;
    }

pub returns-clause-reads : goal.returns-clause-reads
returns-clause-reads g c = reads_both g (goal.at.returns-clause-reads g c).After-scan-2

-- ---- from the opening sync on

pub returns-in-Err-clause-synced : goal.returns-in-Err-clause-synced
returns-in-Err-clause-synced g c = λ tells.
    let held = IsAsHeld g.B.Printer c.args.board.now in
    from_sync_as g.B.Printer held held (c.scan.result ≡ Err slots.DeviceFailed) _ c.args.board.now c.scan.new.board
    (λ e. ap Err (failed g c e)) (λ i x is. is) (c.scan.ensures.synced.leaves tells)

pub returns-in-Err-clause-settled : goal.returns-in-Err-clause-settled
returns-in-Err-clause-settled g c = λ tells good.
    c.scan.ensures.synced.settled tells (λ e. good (ap Err (failed g c e)))

pub returns-in-Err-scan-clause-synced : goal.returns-in-Err-scan-clause-synced
returns-in-Err-scan-clause-synced g c =
    synced_both g (goal.at.returns-in-Err-scan-clause-synced g c).After-scan-2 _

pub returns-in-Err-scan-clause-settled : goal.returns-in-Err-scan-clause-settled
returns-in-Err-scan-clause-settled g c = λ tells good.
    c.scan-2.ensures.synced.settled tells (λ e. good (ap Err (failed_on g c e)))

pub returns-clause-synced : goal.returns-clause-synced
returns-clause-synced g c = synced_both g (goal.at.returns-clause-synced g c).After-scan-2 _

pub returns-clause-settled : goal.returns-clause-settled
returns-clause-settled g c = λ tells good. c.scan-2.ensures.synced.settled tells (no_fault _ _ _ c.in-Ok-scan.is)

-- ---- the board's count

pub returns-in-Err-clause-count : goal.returns-in-Err-clause-count
returns-in-Err-clause-count g c = λ good. c.scan.ensures.cause.kept (λ e. good (ap Err (failed g c e)))

pub returns-in-Err-scan-clause-count : goal.returns-in-Err-scan-clause-count
returns-in-Err-scan-clause-count g c = λ good.
    c.scan-2.ensures.cause.kept (λ e. good (ap Err (failed_on g c e)))
    ∙ c.scan.ensures.cause.kept (no_fault _ _ _ c.in-Ok.is)

pub returns-clause-count : goal.returns-clause-count
returns-clause-count g c = λ good.
    c.scan-2.ensures.cause.kept (no_fault _ _ _ c.in-Ok-scan.is) ∙ c.scan.ensures.cause.kept (no_fault _ _ _ c.in-Ok.is)
