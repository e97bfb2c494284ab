use Rattle.drive_modes.proofs.{Charged.{as_one_least}, EvenSpeeds.{exact_above, exact_below, exact_free, nearly}}
use Rattle.drive_modes.proofs.Coarseness.{most_even, own_share, quarter, share}
use Rattle.drive_modes.proofs.even_speed_laws.even_speeds_are_charged_nearly.Goals as goal

pub returns : goal.returns
returns c = record {
  least = as_one_least;
  nearly = nearly;
  most = most_even;
  quarter = quarter;
  share = share;
  own_share = own_share;
  above = exact_above;
  below = exact_below;
  free = exact_free;
}
