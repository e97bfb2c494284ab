use Rattle.run_chains.proofs.ChainReceipts.{chain-receipts}
use Rattle.run_chains.proofs.chain_laws.receipts_are_in_their_prefix.Goals as goal

pub returns-clause-entry : goal.returns-clause-entry
returns-clause-entry c = λ durable image runs link others has chain receipt byte.
    (chain-receipts durable image runs link others has chain receipt byte).entry

pub returns-clause-number : goal.returns-clause-number
returns-clause-number c = λ durable image runs link others has chain receipt byte.
    (chain-receipts durable image runs link others has chain receipt byte).number
