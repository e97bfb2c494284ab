use Rattle.tariff_syntax.proofs.Laws.{texts_read_as_one_tariff-either, texts_read_as_one_tariff-not_both}
use Rattle.tariff_syntax.proofs.Laws.{texts_read_as_one_tariff-one_line, texts_read_as_one_tariff-one_tariff}
use Rattle.tariff_syntax.proofs.language_laws.texts_read_as_one_tariff.Goals as goal

pub returns : goal.returns
returns c = record {
  either = texts_read_as_one_tariff-either;
  not_both = texts_read_as_one_tariff-not_both;
  one_tariff = texts_read_as_one_tariff-one_tariff;
  one_line = texts_read_as_one_tariff-one_line;
}
