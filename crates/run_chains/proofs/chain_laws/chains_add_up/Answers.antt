use Rattle.run_chains.proofs.ChainSums.{chain-state}
use Rattle.run_chains.proofs.chain_laws.chains_add_up.Goals as goal

pub returns-clause-totals : goal.returns-clause-totals
returns-clause-totals c = λ durable image links chain. (chain-state durable image links chain).totals

pub returns-clause-state : goal.returns-clause-state
returns-clause-state c = chain-state
