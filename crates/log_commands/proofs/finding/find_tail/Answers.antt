use Rattle.std.proofs.Common.{ℕ, ◌∙◌, IfOk, List, inl, inr, rules, subst, sym}
use Rattle.{slot_store.{specs.Syncs.{IsSynced}, proofs.Laws.{held_on}}, log_commands.specs.LogList.{StandsFor}}
use Rattle.log_commands.specs.{Common.{ReadsOnly}, Filings.{IsTailOf}, LogRow.{AreEntries}, Record.{Record}}
use Rattle.log_commands.specs.{LogScan.{IsBroken, IsLowestBad}, declared.scanning.ScanFault.TheVariants.{BadSlot}}
use Rattle.log_commands.proofs.{NewestFound.{fault_known, same_fault}, ReadOnlyCalls.{reads_sync, reads_then}}
use Rattle.log_commands.proofs.finding.find_tail.Goals.{After-sync, After-tail_of, In-Ok, In_ok-sync}
use Rattle.log_commands.proofs.finding.find_tail.Given as given
use Rattle.log_commands.proofs.finding.find_tail.Goals as goal

-- the sync
sync_reads : (g : given.Over) (c : After-sync g) → ReadsOnly g.G.Printer c.args.log.now c.sync.new.self
sync_reads g c =
    reads_sync g.G.Printer _ _ (g.met.G.Printer.only_now c.args.log.now) c.sync.ensures.image c.sync.ensures.flight
    c.sync.ensures.text c.sync.ensures.time

-- the board behind it, if it succeeded
synced : (g : given.Over) (c : In_ok-sync g) → ReadsOnly g.G.Printer c.args.log.now c.sync.new.self
    → g.G.Printer.tells_image → IsSynced g.G.Printer c.args.log.now c.sync.new.self
synced g c reads told =
    record { reads = reads; same = c.in_ok-sync.ensures.same; settled = c.in_ok-sync.ensures.durable told }

-- the entries are those of the image
are : (g : given.Over) (c : In-Ok g) → g.G.Printer.tells_image
    → AreEntries (g.G.Printer.image c.read_entries.new.log) c.in-Ok.entries
are g c told = subst (λ (i : List ℕ). AreEntries i c.in-Ok.entries) (sym c.read_entries.ensures.image)
    (c.in-Ok.ensures.entries told)

-- what is read behind the sync
read_behind : (g : given.Over) (c : After-tail_of g) → ReadsOnly g.G.Printer c.sync.new.self c.tail_of.new.log
read_behind g c = reads_then g.G.Printer c.sync.new.self c.read_entries.new.log c.tail_of.new.log
    c.read_entries.ensures.reads c.read_entries.ensures.image c.tail_of.ensures.reads

pub returns-in_err-sync-clause-synced : goal.returns-in_err-sync-clause-synced
returns-in_err-sync-clause-synced g c told =
    inl (search rules, sync_reads g (goal.at.returns-in_err-sync-clause-synced g c).After-sync)

pub returns-in-Ok-clause-found : goal.returns-in-Ok-clause-found
returns-in-Ok-clause-found g c told =
    let at = (goal.at.returns-in-Ok-clause-found g c).In-Ok in
    let log = g.G.Printer in
    let flying = log.in_flight c.tail_of.new.log in
    let same = c.read_entries.ensures.image ∙ c.in_ok-sync.ensures.same in
    let found = c.tail_of.ensures.found told
    (λ place flies. c.in_ok-sync.ensures.durable told place (c.read_entries.ensures.reads.flight place flies))
    (are g at told) in
    subst (λ (i : List ℕ). IfOk c.tail_of.result (λ tail. (records : List Record) × StandsFor records i
    × IsTailOf (log.image c.tail_of.new.log) flying tail records)) same
    (subst (λ (i : List ℕ). IfOk c.tail_of.result (λ tail. (records : List Record) × StandsFor records
    (log.image c.read_entries.new.log) × IsTailOf i flying tail records)) (sym c.tail_of.ensures.image) found)

pub returns-in-Ok-clause-bad : goal.returns-in-Ok-clause-bad
returns-in-Ok-clause-bad g c slot err told =
    absurd (c.tail_of.ensures.bad slot err told (are g (goal.at.returns-in-Ok-clause-bad g c).In-Ok told))

pub returns-in-Ok-clause-broken : goal.returns-in-Ok-clause-broken
returns-in-Ok-clause-broken g c err told =
    subst IsBroken (c.read_entries.ensures.image ∙ c.in_ok-sync.ensures.same)
    (c.tail_of.ensures.broken err (g.G.Printer.image c.read_entries.new.log)
    (are g (goal.at.returns-in-Ok-clause-broken g c).In-Ok told))

pub returns-in-Ok-clause-synced : goal.returns-in-Ok-clause-synced
returns-in-Ok-clause-synced g c told =
    let at = goal.at.returns-in-Ok-clause-synced g c in
    let is = synced g at.In_ok-sync (sync_reads g at.After-sync) told in
    inr (c.sync.new.self, is, held_on g.G.Printer _ _ _ is (read_behind g at.After-tail_of).leaves)

pub returns-in-Err-clause-bad : goal.returns-in-Err-clause-bad
returns-in-Err-clause-bad g c slot err told =
    subst (λ (i : List ℕ). IsLowestBad i slot) c.in_ok-sync.ensures.same
    (c.in-Err.ensures.bad slot
    (fault_known _ c.in-Err.fault (BadSlot slot) (c.fault_of.ensures.bad slot (same_fault _ _ _ err))) told)

pub returns-in-Err-clause-broken : goal.returns-in-Err-clause-broken
returns-in-Err-clause-broken g c err told = absurd (c.fault_of.ensures.whole (same_fault _ _ _ err))

pub returns-in-Err-clause-synced : goal.returns-in-Err-clause-synced
returns-in-Err-clause-synced g c told =
    let at = goal.at.returns-in-Err-clause-synced g c in
    let is = synced g at.In_ok-sync (sync_reads g at.After-sync) told in
    inr (c.sync.new.self, is, held_on g.G.Printer _ _ _ is c.read_entries.ensures.reads.leaves)

-- ---- whatever is told

pub returns-in_err-sync-clause-reads : goal.returns-in_err-sync-clause-reads
returns-in_err-sync-clause-reads g c = sync_reads g (goal.at.returns-in_err-sync-clause-reads g c).After-sync

pub returns-in-Ok-clause-reads : goal.returns-in-Ok-clause-reads
returns-in-Ok-clause-reads g c =
    reads_then g.G.Printer _ _ _ (sync_reads g (goal.at.returns-in-Ok-clause-reads g c).After-sync)
    c.in_ok-sync.ensures.same (read_behind g (goal.at.returns-in-Ok-clause-reads g c).After-tail_of)

pub returns-in-Err-clause-reads : goal.returns-in-Err-clause-reads
returns-in-Err-clause-reads g c =
    reads_then g.G.Printer _ _ _ (sync_reads g (goal.at.returns-in-Err-clause-reads g c).After-sync)
    c.in_ok-sync.ensures.same c.read_entries.ensures.reads

pub returns-in-Ok-clause-same : goal.returns-in-Ok-clause-same
returns-in-Ok-clause-same g c =
    λ not. c.tail_of.ensures.image ∙ (c.read_entries.ensures.image ∙ c.in_ok-sync.ensures.same)

pub returns-in-Err-clause-same : goal.returns-in-Err-clause-same
returns-in-Err-clause-same g c = λ not. c.read_entries.ensures.image ∙ c.in_ok-sync.ensures.same
