use Rattle.rate_commands.proofs.FineConstants.{above_nearest, below_nearest, fine_all, nearest_above, nearest_below}
use Rattle.rate_commands.proofs.FineConstants.{none_above, none_below}
use Rattle.rate_commands.proofs.fineness_laws.fine_constants_are_nearest.Goals as goal

pub returns : goal.returns
returns c = record {
  fine = fine_all;
  below = λ rates k d. (below_nearest rates k d, nearest_below rates k d);
  above = λ rates k e. (above_nearest rates k e, nearest_above rates k e);
  none_below = none_below;
  none_above = none_above;
}
