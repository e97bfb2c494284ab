use Rattle.log_commands.proofs.FiledLaws.{files_once}
use Rattle.log_commands.proofs.filing_laws.receipts_are_filed_once.Goals as goal

pub returns : goal.returns
returns c = record {
  filed = λ newest last last' receipts filed filed' a b. (files_once newest last last' receipts filed filed' a b).0;
  last = λ newest last last' receipts filed filed' a b. (files_once newest last last' receipts filed filed' a b).1;
}
