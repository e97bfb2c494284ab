use Rattle.tariff_syntax.proofs.Laws.{parentheses_are_needed}
use Rattle.tariff_syntax.proofs.language_laws.parentheses_are_needed.Goals as goal

pub returns : goal.returns
returns c = parentheses_are_needed
