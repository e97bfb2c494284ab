use Rattle.tariff_syntax.proofs.Laws.{texts_are_parsed_as_they_read-bad_line, texts_are_parsed_as_they_read-tariff}
use Rattle.tariff_syntax.proofs.language_laws.texts_are_parsed_as_they_read.Goals as goal

pub returns : goal.returns
returns c = record {
  tariff = texts_are_parsed_as_they_read-tariff;
  bad_line = texts_are_parsed_as_they_read-bad_line;
}
