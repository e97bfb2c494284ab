use Rattle.drive_modes.proofs.AtCrossOver.{cross_over_as_one, cross_over_count, cross_over_even, cross_over_reached}
use Rattle.drive_modes.proofs.even_speed_laws.the_cross_over_speed_reaches_the_bound.Goals as goal

pub returns : goal.returns
returns c = record {
  even = cross_over_even;
  count = cross_over_count;
  as_one = cross_over_as_one;
  reached = cross_over_reached;
}
