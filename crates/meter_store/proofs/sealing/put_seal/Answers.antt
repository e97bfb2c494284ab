use Rattle.{std.proofs.Common.{subst, sym}, outside.proofs.Laws.{on_failed}}
use Rattle.{seal_record.specs.Decoding.{reads, seal_number_of}, meter_store.specs.Common.{IsReady, IsSettled, Pair}}
use Rattle.meter_store.proofs.Sealings.{newer_found, next_beside, put_next, ready_found}
use Rattle.meter_store.proofs.sealing.put_seal.Goals as goal

pub returns-in_err-place-clause-any_moment : goal.returns-in_err-place-clause-any_moment
returns-in_err-place-clause-any_moment g c told old is =
    let board = g.B.Printer in
    let here = c.ready_for-ready.ensures in
    let ready = subst (λ (p : Pair). IsReady reads seal_number_of p (board.image c.args.board.now)
    (board.in_flight c.args.board.now) old) (sym here) (ready_found board c.args.board.now c.args.found old is) in
    put_next board _ c.args.found c.args.seal.now old c.args.board.now c.store.new.board c.requires.slot here
    (c.store.ensures.any_moment told old (record {
      ready = ready;
      newer = newer_found board c.args.board.now c.args.found old _ is c.requires.number;
    }))

pub returns-clause-any_moment : goal.returns-clause-any_moment
returns-clause-any_moment g c told old is =
    let board = g.B.Printer in
    let here = c.ready_for-ready.ensures in
    let ready = subst (λ (p : Pair). IsReady reads seal_number_of p (board.image c.args.board.now)
    (board.in_flight c.args.board.now) old) (sym here) (ready_found board c.args.board.now c.args.found old is) in
    put_next board _ c.args.found c.args.seal.now old c.args.board.now c.store.new.board c.requires.slot here
    (c.store.ensures.any_moment told old (record {
      ready = ready;
      newer = newer_found board c.args.board.now c.args.found old _ is c.requires.number;
    }))

pub returns-clause-settled : goal.returns-clause-settled
returns-clause-settled g c told =
    let board = g.B.Printer in
    let here = c.ready_for-ready.ensures in
    subst (λ (p : Pair). IsSettled reads seal_number_of p.at c.in_ok-place.place (board.image c.store.new.board)
    (board.in_flight c.store.new.board) c.args.seal.now) here
    (c.in_ok-place.ensures.settled told)

pub returns-in_err-place-clause-settled : goal.returns-in_err-place-clause-settled
returns-in_err-place-clause-settled g c told = on_failed c.from_residual.result _ c.from_residual.ensures.0

pub returns-in_err-place-clause-beside : goal.returns-in_err-place-clause-beside
returns-in_err-place-clause-beside g c = next_beside g.B.Printer _ c.args.found c.args.board.now c.store.new.board
    c.ready_for-ready.ensures c.store.ensures.beside

pub returns-in_err-place-clause-steps : goal.returns-in_err-place-clause-steps
returns-in_err-place-clause-steps g c = c.store.ensures.steps

pub returns-clause-beside : goal.returns-clause-beside
returns-clause-beside g c = next_beside g.B.Printer _ c.args.found c.args.board.now c.store.new.board
    c.ready_for-ready.ensures c.store.ensures.beside

pub returns-clause-steps : goal.returns-clause-steps
returns-clause-steps g c = c.store.ensures.steps
