use Rattle.drive_modes.proofs.EvenFares.{shown_least, shown_most, stretches_least, stretches_most, stretches_sum}
use Rattle.drive_modes.proofs.even_fare_laws.even_fares_are_shown_nearly.Goals as goal

pub returns : goal.returns
returns c = record {
  sum = stretches_sum;
  least = stretches_least;
  most = stretches_most;
  shown_least = shown_least;
  shown_most = shown_most;
}
