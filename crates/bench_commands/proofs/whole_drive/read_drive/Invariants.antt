use Rattle.std.proofs.Common.{ℕ, ◌+◌, ◌≡◌, ◌≢◌, All, length}
use Rattle.bench_commands.{specs.Common.{IsRunInRange}, proofs.WholeDrives.{IsSoFar}}
use Rattle.bench_commands.proofs.whole_drive.read_drive.Given as goal

-- so far the runs of bytes of the drive were kept
abbrev pub invariant-loop-source : goal.invariant-loop-source
invariant-loop-source g l = record {
  so_far : IsSoFar g.F.Files.tells l.source (g.F.Files.rest l.fn.files l.word)
      (g.F.Files.rest l.files l.word) l.runs.items;
  range : All IsRunInRange l.runs.items;
  read : ((other : ℕ) → other ≢ l.word → g.F.Files.rest l.files other ≡ g.F.Files.rest l.fn.files other)
      × ((other : ℕ) → g.F.Files.faults l.files other ≡ g.F.Files.faults l.fn.files other);
}

abbrev pub decreases-loop-source : goal.decreases-loop-source
decreases-loop-source g l = length l.source.ahead + l.source.left
