use Rattle.receipt_text.proofs.TariffLines.{differ_in_tariff}
use Rattle.receipt_text.proofs.grammar_laws.receipts_differ_in_their_tariff_alone.Goals as goal

pub returns : goal.returns
returns c = differ_in_tariff
