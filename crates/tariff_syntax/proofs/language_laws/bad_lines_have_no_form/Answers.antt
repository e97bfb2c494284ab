use Rattle.tariff_syntax.proofs.Laws.{bad_lines_have_no_form-each, bad_lines_have_no_form-first}
use Rattle.tariff_syntax.proofs.Laws.{bad_lines_have_no_form-in_order, bad_lines_have_no_form-named}
use Rattle.tariff_syntax.proofs.Laws.{bad_lines_have_no_form-none}
use Rattle.tariff_syntax.proofs.language_laws.bad_lines_have_no_form.Goals as goal

pub returns : goal.returns
returns c = record {
  named = bad_lines_have_no_form-named;
  each = bad_lines_have_no_form-each;
  in_order = bad_lines_have_no_form-in_order;
  first = bad_lines_have_no_form-first;
  none = bad_lines_have_no_form-none;
}
