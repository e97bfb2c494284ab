use Rattle.std.proofs.Common.{◌≡◌, length, take}
use Rattle.memory_devices.specs.{Calls.{after_all, opened}, Replays.{AreLeftOf}}
use Rattle.memory_devices.proofs.memory_state.MemoryState.cut_into.Given as goal

abbrev pub invariant-loop-kept : goal.invariant-loop-kept
invariant-loop-kept g l = record {
  image_size : length l.image ≡ g.row.N;
  settled_size : length l.settled ≡ g.row.N;
  left_size : length l.left ≡ g.row.N;
  follows : AreLeftOf (after_all (opened l.self.start) (take l.kept-index l.self.calls)) l.image l.left;
}
