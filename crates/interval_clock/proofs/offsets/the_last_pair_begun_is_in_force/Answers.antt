use Rattle.{std.proofs.Common.{pos}, interval_clock.proofs.OffsetLists.{offset_from-in_force, offset_from-none}}
use Rattle.interval_clock.proofs.offsets.the_last_pair_begun_is_in_force.Goals as goal

pub returns : goal.returns
returns c = record {
  in_force = λ pairs second place force. offset_from-in_force pairs (pos 0) second place force;
  before = λ pairs second later. offset_from-none pairs (pos 0) second later;
}
