use Rattle.tariff_syntax.proofs.Laws.{lines_rise_in_number}
use Rattle.tariff_syntax.proofs.language_laws.lines_rise_in_number.Goals as goal

pub returns : goal.returns
returns c = lines_rise_in_number
