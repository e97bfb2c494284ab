use Rattle.tariff_tree.proofs.Laws.{first_lines_hold-conditions, first_lines_hold-initial, first_lines_hold-minimum}
use Rattle.tariff_tree.proofs.Laws.{first_lines_hold-rate}
use Rattle.tariff_tree.proofs.meaning_laws.first_lines_hold.Goals as goal

pub returns : goal.returns
returns c = record {
  conditions = first_lines_hold-conditions;
  rate = first_lines_hold-rate;
  initial = first_lines_hold-initial;
  minimum = first_lines_hold-minimum;
}
