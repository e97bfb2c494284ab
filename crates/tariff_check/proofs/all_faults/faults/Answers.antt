use Rattle.std.proofs.Common.{◌∙◌, map, sym}
use Rattle.tariff_check.{specs.Common.{line_of}, proofs.AllFaults.{all_before}}
use Rattle.tariff_check.proofs.all_faults.faults.Goals as goal

pub returns-then-not-is_empty : goal.returns-then-not-is_empty
returns-then-not-is_empty c =
    let made = rw (c.new-faults.ensures.items, c.faults_before_cuts.ensures, c.as_slice-lines.ensures)
    at c.in_ok-put_there.ensures in
    all_before (map line_of c.args.tariff.now.lines) c.put_there.new.faults.items c.put_there.new.faults.len
    c.put_there.new.faults.ok.0 made (sym c.is_empty.ensures ∙ c.if-not-is_empty.true)
