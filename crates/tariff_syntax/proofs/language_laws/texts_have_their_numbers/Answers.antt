use Rattle.tariff_syntax.proofs.Laws.{texts_have_their_numbers}
use Rattle.tariff_syntax.proofs.language_laws.texts_have_their_numbers.Goals as goal

pub returns : goal.returns
returns c = texts_have_their_numbers
