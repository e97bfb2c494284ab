use Rattle.std.proofs.Common.{◌+◌, ◌≡◌, ◌≤◌, drop}
use Rattle.verify_bench.specs.Common.{times}
use Rattle.verify_bench.proofs.hiring.Hiring.times.Given as goal

abbrev pub invariant-loop-extra : goal.invariant-loop-extra
invariant-loop-extra l = record {
  all : l.count + times l.number (drop l.extra-index l.self.extras.items) ≡ times l.number l.self.extras.items;
  few : l.count ≤ l.extra-index;
}
