use Rattle.std.proofs.Common.{ℕ, ◌≡◌, arith, subst}
use Rattle.log_commands.{specs.LogRow.{IsRow}, proofs.Rows.{row_stands}}
use Rattle.log_commands.proofs.row.is_row.Goals as goal

pub returns-clause-row : goal.returns-clause-row
returns-clause-row c is image entries =
    let all : c.loop-back.back ≡ 256 = omega (arith, c.loop-back.auto.back-end, c.loop-back-test.false) in
    row_stands image c.args.last c.loop-back.newer
    (subst (λ (back : ℕ). IsRow image c.args.last back c.loop-back.newer) all (c.loop-back.invariant.row image entries))
