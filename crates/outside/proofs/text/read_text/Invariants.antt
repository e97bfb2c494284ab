use Rattle.std.{specs.Prelude.{vec_capacity, vec_len}, proofs.Common.{ℕ, ◌++◌, ◌-◌, ◌≡◌, ◌≢◌, ◌≤◌}}
use Rattle.outside.proofs.text.read_text.Given as goal

abbrev pub invariant-loop-text : goal.invariant-loop-text
invariant-loop-text g l = record {
  few : vec_len l.text ≤ l.most;
  room : l.most ≤ vec_capacity l.text;
  taken : g.F.Files.tells → g.F.Files.rest l.fn.files l.word ≡ l.text.items ++ g.F.Files.rest l.files l.word;
  others : (other : ℕ) → other ≢ l.word → g.F.Files.rest l.files other ≡ g.F.Files.rest l.fn.files other;
  counts : (other : ℕ) → g.F.Files.faults l.files other ≡ g.F.Files.faults l.fn.files other;
}

abbrev pub decreases-loop-text : goal.decreases-loop-text
decreases-loop-text g l = l.most - vec_len l.text
