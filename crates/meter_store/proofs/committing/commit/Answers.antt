use Rattle.{std.proofs.Common.{Some, arith}, meter_store.proofs.Commits.{keeps_state, leaves_either, writes_other}}
use Rattle.meter_store.proofs.committing.commit.Goals as goal

pub store-requires-clause-ready : goal.store-requires-clause-ready
store-requires-clause-ready g c told = (
  Some c.args.durable.now,
  record {
    ready = rw c.new.ensures (c.requires.settled told);
    newer = rw c.after-after.ensures.state (omega arith);
  },
)

pub returns-in_err-place-clause-any_moment : goal.returns-in_err-place-clause-any_moment
returns-in_err-place-clause-any_moment g c told =
    leaves_either g.B.Printer c.new.result c.args.place c.args.durable.now c.after-after.result _ c.args.board.now
    c.store.new.board c.new.ensures c.after-after.ensures.state
    (c.store.ensures.any_moment told (Some c.args.durable.now) (record {
      ready = rw c.new.ensures (c.requires.settled told);
      newer = rw c.after-after.ensures.state (omega arith);
    }))

pub returns-clause-any_moment : goal.returns-clause-any_moment
returns-clause-any_moment g c told =
    leaves_either g.B.Printer c.new.result c.args.place c.args.durable.now c.after-after.result _ c.args.board.now
    c.store.new.board c.new.ensures c.after-after.ensures.state
    (c.store.ensures.any_moment told (Some c.args.durable.now) (record {
      ready = rw c.new.ensures (c.requires.settled told);
      newer = rw c.after-after.ensures.state (omega arith);
    }))

pub returns-clause-settled : goal.returns-clause-settled
returns-clause-settled g c told =
    keeps_state g.B.Printer c.new.result c.args.place c.in_ok-place.place c.after-after.result
    c.store.new.board c.new.ensures
    (c.in_ok-place.ensures.settled told)

pub returns-in_err-place-clause-beside : goal.returns-in_err-place-clause-beside
returns-in_err-place-clause-beside g c = writes_other g.B.Printer c.new.result c.args.place c.args.board.now
    c.store.new.board c.new.ensures c.store.ensures.beside

pub returns-clause-beside : goal.returns-clause-beside
returns-clause-beside g c = writes_other g.B.Printer c.new.result c.args.place c.args.board.now c.store.new.board
    c.new.ensures c.store.ensures.beside
