use Rattle.seal_record.proofs.TextLaws.{a_line_is_parted, lines_make_the_text, lists_so_far, numbers_in_ranges}
use Rattle.seal_record.proofs.TextLaws.{taxis_are_texts, the_first_bad_line}
use Rattle.seal_record.proofs.text_laws.texts_say_parameters_line_by_line.Goals as goal

pub returns : goal.returns
returns c = record {
  lines = lines_make_the_text;
  parts = a_line_is_parted;
  numbers = numbers_in_ranges;
  taxis = taxis_are_texts;
  offsets = lists_so_far;
  first_bad = the_first_bad_line;
}
