use Rattle.run_chains.proofs.NewStores.{new_store_explained}
use Rattle.run_chains.proofs.new_store_laws.explanations_are_of_the_run.Goals as goal

pub returns : goal.returns
returns c = new_store_explained
