use Rattle.near_commands.proofs.NearChoices.{near_fees, near_initial, near_minimum, near_place, near_rates, near_step}
use Rattle.near_commands.proofs.near_laws.near_tariffs_choose_alike.Goals as goal

pub returns : goal.returns
returns c = record {
  rates = near_rates;
  places = near_place;
  initial_places = near_initial;
  minimum_places = near_minimum;
  fees = near_fees;
  step = near_step;
}
