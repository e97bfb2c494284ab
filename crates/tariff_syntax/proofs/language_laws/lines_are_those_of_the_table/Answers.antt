use Rattle.tariff_syntax.proofs.TableLines.{item_of_line, line_of_item, parts_of_ranges, ranges_of_parts}
use Rattle.tariff_syntax.proofs.language_laws.lines_are_those_of_the_table.Goals as goal

pub returns : goal.returns
returns c = record {
  forms = λ decimals ts entry. (line_of_item decimals ts entry, item_of_line decimals ts entry);
  ranges = λ entry. (ranges_of_parts entry, parts_of_ranges entry);
}
