use Rattle.tariff_syntax.proofs.Laws.{printed_forms_read_back}
use Rattle.tariff_syntax.proofs.language_laws.printed_forms_read_back.Goals as goal

pub returns : goal.returns
returns c = printed_forms_read_back
