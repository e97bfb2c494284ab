use Rattle.taxi_units.proofs.Words.{words_are_read_by_their_text}
use Rattle.taxi_units.proofs.text_laws.words_are_read_by_their_text.Goals as goal

pub returns : goal.returns
returns c = words_are_read_by_their_text
