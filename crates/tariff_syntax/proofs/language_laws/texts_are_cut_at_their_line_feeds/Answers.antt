use Rattle.tariff_syntax.proofs.Laws.{texts_are_cut_at_their_line_feeds}
use Rattle.tariff_syntax.proofs.language_laws.texts_are_cut_at_their_line_feeds.Goals as goal

pub returns : goal.returns
returns c = texts_are_cut_at_their_line_feeds
