use Rattle.tariff_syntax.proofs.Laws.{texts_have_their_numbers}
use Rattle.tariff_commands.{specs.Common.{tree_of}, proofs.FoundFaults.{bad_found, bad_parsed, tree_found_in}}
use Rattle.tariff_commands.proofs.faults.found_in_text.Goals as goal

pub found_in_tariff-requires : goal.found_in_tariff-requires
found_in_tariff-requires c =
    texts_have_their_numbers c.args.text.now (tree_of c.in-Ok.tariff) c.in-Ok.ensures.answer.1

pub returns-in-Ok : goal.returns-in-Ok
returns-in-Ok c =
    tree_found_in c.found_in_tariff.result c.args.text.now c.in-Ok.tariff c.in-Ok.ensures.answer
    c.found_in_tariff.ensures

pub returns-in-Ok-syntax_lines : goal.returns-in-Ok-syntax_lines
returns-in-Ok-syntax_lines c =
    let bad = bad_parsed c.args.text.now c.in-Err-Syntax.field-0-0
    (rw c.in-Err-Syntax.field-0-is at c.in-Err-Syntax.ensures.answer) in
    let are = rw c.as_slice.ensures.value at c.in-Ok-syntax_lines.ensures in
    bad_found c.args.text.now c.in-Err-Syntax.field-0-0 c.in_ok-numbers-in-Err-Syntax.numbers.items
    c.in-Ok-syntax_lines.lines.items bad.0 bad.1 c.in_ok-numbers-in-Err-Syntax.ensures are
