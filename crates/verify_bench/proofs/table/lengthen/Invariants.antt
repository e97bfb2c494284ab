use Rattle.std.{specs.Vec.{vec_len}, proofs.Common.{ℕ, ◌≡◌}}
use Rattle.verify_bench.specs.Gathered.{rate_at}
use Rattle.verify_bench.proofs.table.lengthen.Given as goal

abbrev pub invariant-loop-length : goal.invariant-loop-length
invariant-loop-length l = record {
  long : vec_len l.table ≡ l.length;
  same : (other : ℕ) → rate_at l.table.items other ≡ rate_at l.initial.table.items other;
}
