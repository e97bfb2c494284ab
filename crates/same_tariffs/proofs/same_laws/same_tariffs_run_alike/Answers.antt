use Rattle.same_tariffs.proofs.Laws.{same_tariffs_run_alike-goes_on, same_tariffs_run_alike-outcomes}
use Rattle.same_tariffs.proofs.Laws.{same_tariffs_run_alike-stores}
use Rattle.same_tariffs.proofs.same_laws.same_tariffs_run_alike.Goals as goal

pub returns : goal.returns
returns c = record {
  outcomes = same_tariffs_run_alike-outcomes;
  stores = same_tariffs_run_alike-stores;
  goes_on = same_tariffs_run_alike-goes_on;
}
