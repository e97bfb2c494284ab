use Rattle.{std.proofs.Common.{None, ap, subst, sym}, outside.proofs.Laws.{on_failed}}
use Rattle.{slot_store.specs.Stages.{is_spare_open}, totals_record.specs.Reading.{reads}}
use Rattle.meter_store.{specs.Common.{Durable, IsReady, IsSettled, Pair}, proofs.Sealings.{first_beside, put_first}}
use Rattle.meter_store.specs.Stored.{state_number_of}
use Rattle.meter_store.proofs.sealing.put_totals.Goals as goal

pub returns-in_err-place-clause-any_moment : goal.returns-in_err-place-clause-any_moment
returns-in_err-place-clause-any_moment g c told =
    let board = g.B.Printer in
    let ready = subst (λ (p : Pair). IsReady reads state_number_of p (board.image c.args.board.now)
    (board.in_flight c.args.board.now) None) (sym c.blank.ensures) (c.requires told) in
    put_first board _ _ c.args.board.now c.store.new.board c.blank.ensures c.zero.ensures.state
    (c.store.ensures.any_moment told None (record { ready = ready; newer = tt }))

pub returns-clause-any_moment : goal.returns-clause-any_moment
returns-clause-any_moment g c told =
    let board = g.B.Printer in
    let ready = subst (λ (p : Pair). IsReady reads state_number_of p (board.image c.args.board.now)
    (board.in_flight c.args.board.now) None) (sym c.blank.ensures) (c.requires told) in
    put_first board _ _ c.args.board.now c.store.new.board c.blank.ensures c.zero.ensures.state
    (c.store.ensures.any_moment told None (record { ready = ready; newer = tt }))

pub returns-clause-settled : goal.returns-clause-settled
returns-clause-settled g c told =
    let board = g.B.Printer in
    subst (λ (d : Durable). IsSettled reads state_number_of 0 c.in_ok-place.place (board.image c.store.new.board)
    (board.in_flight c.store.new.board) d) c.zero.ensures.state
    (subst (λ (p : Pair). IsSettled reads state_number_of p.at c.in_ok-place.place (board.image c.store.new.board)
    (board.in_flight c.store.new.board) c.zero.result) c.blank.ensures
    (c.in_ok-place.ensures.settled told))

pub returns-in_err-place-clause-settled : goal.returns-in_err-place-clause-settled
returns-in_err-place-clause-settled g c told = on_failed c.from_residual.result _ c.from_residual.ensures.0

pub returns-in_err-place-clause-beside : goal.returns-in_err-place-clause-beside
returns-in_err-place-clause-beside g c =
    first_beside g.B.Printer c.blank.result c.args.board.now c.store.new.board c.blank.ensures c.store.ensures.beside

pub returns-in_err-place-clause-steps : goal.returns-in_err-place-clause-steps
returns-in_err-place-clause-steps g c =
    c.store.ensures.closed (ap (λ (pair : Pair). is_spare_open pair.latest) c.blank.ensures)

pub returns-clause-beside : goal.returns-clause-beside
returns-clause-beside g c =
    first_beside g.B.Printer c.blank.result c.args.board.now c.store.new.board c.blank.ensures c.store.ensures.beside

pub returns-clause-steps : goal.returns-clause-steps
returns-clause-steps g c = c.store.ensures.closed (ap (λ (pair : Pair). is_spare_open pair.latest) c.blank.ensures)
