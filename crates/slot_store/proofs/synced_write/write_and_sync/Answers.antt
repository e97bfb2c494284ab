use Rattle.{std.proofs.Common.{arith, length}, slot_store.proofs.Moments.{call_leaves, write_beside}}
use Rattle.slot_store.proofs.synced_write.write_and_sync.Goals as goal

pub returns-in_err-write_at-clause-any_moment : goal.returns-in_err-write_at-clause-any_moment
returns-in_err-write_at-clause-any_moment g c =
    let written = write_beside g.B.Printer c.args.at (length c.args.bytes.now) c.args.board.now c.write_at.new.self
    c.write_at.ensures.image c.write_at.ensures.flight c.write_at.ensures.text in
    call_leaves g.B.Printer c.args.at (length c.args.bytes.now) c.args.board.now c.write_at.new.self
    (g.met.B.Printer.only_now c.args.board.now) written c.write_at.ensures.time

pub returns-in_err-write_at-clause-beside : goal.returns-in_err-write_at-clause-beside
returns-in_err-write_at-clause-beside g c =
    write_beside g.B.Printer c.args.at (length c.args.bytes.now) c.args.board.now c.write_at.new.self
    c.write_at.ensures.image c.write_at.ensures.flight c.write_at.ensures.text

pub returns-in_err-write_at-clause-steps : goal.returns-in_err-write_at-clause-steps
returns-in_err-write_at-clause-steps g c = omega (arith, c.write_at.ensures.step)
