use Rattle.std.proofs.Common.{ℕ, ◌+◌, ◌<◌, ◌≡◌, ◌≤◌, None, get_or, length}
use Rattle.log_commands.specs.{Common.{ReadsOnly}, LogScan.{IsEntry}}
use Rattle.log_commands.proofs.entries.read_entries.Given as goal

-- the slots so far are known, and nothing was written
abbrev pub invariant-loop-slot : goal.invariant-loop-slot
invariant-loop-slot g l = record {
  size : length l.entries ≡ 256;
  entries : g.G.Printer.tells_image → (slot : ℕ) → slot < l.slot
      → IsEntry (g.G.Printer.image l.fn.log) slot (get_or l.entries slot None);
  image : g.G.Printer.image l.log ≡ g.G.Printer.image l.fn.log;
  reads : ReadsOnly g.G.Printer l.fn.log l.log;
  faults : g.G.Printer.faults l.log ≡ g.G.Printer.faults l.fn.log;
  steps : l.steps ≤ l.fn.steps + l.slot;
}
