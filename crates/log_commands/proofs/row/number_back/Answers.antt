use Rattle.std.proofs.Common.{◌-◌, ◌≡◌, Option, arith, subst, ⊎_elim}
use Rattle.log_commands.{specs.LogRow.{slot_back}, proofs.row.number_back.Goals.{else-back-last-via-else-back-last}}
use Rattle.log_commands.{specs.LogScan.{IsEntry}, proofs.Rows.{row_record}}
use Rattle.log_commands.{specs.declared.scanning.Entry.{Entry}, proofs.Bounds.{bound_closed, bound_entry}}
use Rattle.log_commands.proofs.row.number_back.Goals.{else-back-last-via-then-back-last+else-entry-last}
use Rattle.log_commands.proofs.row.number_back.Goals.{else-back-last-via-then-back-last+then-entry-last+else-entry-newer}
use Rattle.log_commands.proofs.row.number_back.Goals as goal

pub returns-then-entry-newer : goal.returns-then-entry-newer
returns-then-entry-newer c = record {
  row = λ image is row.
      let place_is : c.in-Some.entry.place ≡ c.args.last - c.args.back = omega (arith, c.if-entry-last.true) in
      row_record image c.args.last c.args.back c.args.newer c.requires row c.in-Some.entry
      (subst (λ (e : Option Entry). IsEntry image (slot_back c.args.last c.args.back) e) c.in-Some.is is)
      c.if-back-last.true place_is c.if-entry-newer.true;
  stands = λ image records is ends bound. (bound_entry image c.args.last c.args.back c.args.newer records c.requires
      ends bound c.in-Some.entry
      (subst (λ (e : Option Entry). IsEntry image (slot_back c.args.last c.args.back) e) c.in-Some.is is)).3;
}

pub returns-else-back-last-clause-stands : goal.returns-else-back-last-clause-stands
returns-else-back-last-clause-stands c image records is ends bound =
    let told = bound_entry image c.args.last c.args.back c.args.newer records c.requires ends bound c.in-Some.entry
    (subst (λ (e : Option Entry). IsEntry image (slot_back c.args.last c.args.back) e) c.in-Some.is is) in
    elim c.else-back-last.branch [
      | else-back-last-via-then-back-last+then-entry-last+else-entry-newer w ↦
          omega (arith, told.2, w.if-entry-newer.false)
      | else-back-last-via-then-back-last+else-entry-last w ↦ omega (arith, told.1, w.if-entry-last.false)
      | else-back-last-via-else-back-last w ↦ omega (arith, told.0, w.if-back-last.false)
    ]

pub returns-else-back-eq255-clause-stands : goal.returns-else-back-eq255-clause-stands
returns-else-back-eq255-clause-stands c image records is ends bound =
    let told = bound_closed image c.args.last c.args.back c.args.newer records c.requires ends bound
    (subst (λ (e : Option Entry). IsEntry image (slot_back c.args.last c.args.back) e) c.in-None.is is) in
    ⊎_elim (λ over. omega (arith, over, c.if-back-last-2.false)) (λ at. omega (arith, at, c.if-back-eq255.false)) told.0
