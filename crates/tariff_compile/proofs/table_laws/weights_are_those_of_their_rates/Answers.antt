use Rattle.tariff_compile.proofs.OwnWeights.{own_weights, weights_in_force_own, weights_of_rate}
use Rattle.tariff_compile.proofs.table_laws.weights_are_those_of_their_rates.Goals as goal

pub returns : goal.returns
returns c = record { own = own_weights; rate = weights_of_rate; in_force = weights_in_force_own }
