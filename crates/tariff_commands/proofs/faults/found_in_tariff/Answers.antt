use Rattle.std.proofs.Common.{◌∙◌, sym}
use Rattle.tariff_commands.{specs.Common.{tree_of}, proofs.FoundFaults.{faults_found, not_none}}
use Rattle.tariff_commands.proofs.faults.found_in_tariff.Goals as goal

pub returns-in-Ok-fault_lines : goal.returns-in-Ok-fault_lines
returns-in-Ok-fault_lines c =
    let are = rw c.as_slice.ensures.value at c.in-Ok-fault_lines.ensures in
    faults_found (tree_of c.args.tariff) c.in_ok-faults.faults.items c.in-Ok-fault_lines.lines.items
    c.in_ok-faults.ensures
    (not_none c.in_ok-faults.faults.items c.in_ok-faults.faults.len c.in_ok-faults.faults.ok.0
    (sym c.is_empty.ensures ∙ c.if-is_empty.false)) are
