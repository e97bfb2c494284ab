use Rattle.taxi_units.proofs.StreamEnds.{limits_fall_behind_what_was_taken, limits_have_all_that_was_taken}
use Rattle.taxi_units.proofs.streams.limits_fall_behind_what_was_taken.Goals as goal

pub returns : goal.returns
returns c = record {
  front = limits_fall_behind_what_was_taken;
  all = limits_have_all_that_was_taken;
}
