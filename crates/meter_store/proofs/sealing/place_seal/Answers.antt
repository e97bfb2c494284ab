use Rattle.{outside.proofs.Laws.{on_failed}, slot_store.proofs.Laws.{fewer_steps, steps_then}}
use Rattle.meter_store.proofs.Sealings.{found_after, keeps_both, keeps_found, leaves_both, leaves_first, leaves_found}
use Rattle.meter_store.proofs.Sealings.{writes_both, writes_first}
use Rattle.meter_store.proofs.sealing.place_seal.Goals as goal

pub returns-in_err-put_seal-in-Some-clause-any_moment : goal.returns-in_err-put_seal-in-Some-clause-any_moment
returns-in_err-put_seal-in-Some-clause-any_moment g c told old is =
    leaves_found g.B.Printer c.args.board.now c.put_seal.new.board c.args.totals _ old c.args.seal.now c.in-Some.is
    (c.requires.totals told) c.put_seal.ensures.beside (c.put_seal.ensures.any_moment told old is)

pub returns-in_ok-put_seal-in-Some-clause-any_moment : goal.returns-in_ok-put_seal-in-Some-clause-any_moment
returns-in_ok-put_seal-in-Some-clause-any_moment g c told old is =
    leaves_found g.B.Printer c.args.board.now c.put_seal.new.board c.args.totals _ old c.args.seal.now c.in-Some.is
    (c.requires.totals told) c.put_seal.ensures.beside (c.put_seal.ensures.any_moment told old is)

pub returns-in_ok-put_seal-in-Some-clause-sealed : goal.returns-in_ok-put_seal-in-Some-clause-sealed
returns-in_ok-put_seal-in-Some-clause-sealed g c told =
    keeps_found g.B.Printer c.args.board.now c.put_seal.new.board c.args.totals _ c.args.seal.now _ c.in-Some.is
    (c.requires.totals told) c.put_seal.ensures.beside (c.in_ok-put_seal-in-Some.ensures.settled told)

pub returns-in_err-put_totals-in-None-clause-any_moment : goal.returns-in_err-put_totals-in-None-clause-any_moment
returns-in_err-put_totals-in-None-clause-any_moment g c told old is =
    rw c.in-None.is (leaves_first g.B.Printer c.args.board.now c.put_totals.new.board c.args.found old c.args.seal.now
    is
    c.put_totals.ensures.beside (c.put_totals.ensures.any_moment told))

pub put_seal-requires-in-None-clause-found : goal.put_seal-requires-in-None-clause-found
put_seal-requires-in-None-clause-found g c told =
    let found = c.requires.found told in (
      found.0,
      found_after g.B.Printer c.args.board.now c.put_totals.new.board c.args.found found.0 found.1
          c.put_totals.ensures.beside,
    )

pub returns-in_err-put_seal-in-None-clause-any_moment : goal.returns-in_err-put_seal-in-None-clause-any_moment
returns-in_err-put_seal-in-None-clause-any_moment g c told old is =
    rw c.in-None.is (leaves_both g.B.Printer c.args.board.now c.put_totals.new.board c.put_seal-in-None.new.board
    c.args.found old c.args.seal.now _ is c.put_totals.ensures.beside (c.put_totals.ensures.any_moment told)
    (c.in_ok-put_totals-in-None.ensures.settled told) c.put_seal-in-None.ensures.beside
    (c.put_seal-in-None.ensures.any_moment told old
    (found_after g.B.Printer c.args.board.now c.put_totals.new.board c.args.found old is c.put_totals.ensures.beside)))

pub returns-in_ok-put_seal-in-None-clause-any_moment : goal.returns-in_ok-put_seal-in-None-clause-any_moment
returns-in_ok-put_seal-in-None-clause-any_moment g c told old is =
    rw c.in-None.is (leaves_both g.B.Printer c.args.board.now c.put_totals.new.board c.put_seal-in-None.new.board
    c.args.found old c.args.seal.now _ is c.put_totals.ensures.beside (c.put_totals.ensures.any_moment told)
    (c.in_ok-put_totals-in-None.ensures.settled told) c.put_seal-in-None.ensures.beside
    (c.put_seal-in-None.ensures.any_moment told old
    (found_after g.B.Printer c.args.board.now c.put_totals.new.board c.args.found old is c.put_totals.ensures.beside)))

pub returns-in_ok-put_seal-in-None-clause-sealed : goal.returns-in_ok-put_seal-in-None-clause-sealed
returns-in_ok-put_seal-in-None-clause-sealed g c told =
    rw c.in-None.is (keeps_both g.B.Printer c.put_totals.new.board c.put_seal-in-None.new.board c.args.seal.now _ _
    (c.in_ok-put_totals-in-None.ensures.settled told) c.put_seal-in-None.ensures.beside
    (c.in_ok-put_seal-in-None.ensures.settled told))

pub returns-in_err-put_seal-in-Some-clause-sealed : goal.returns-in_err-put_seal-in-Some-clause-sealed
returns-in_err-put_seal-in-Some-clause-sealed g c told = on_failed c.from_residual.result _ c.from_residual.ensures.0

pub returns-in_err-put_totals-in-None-clause-sealed : goal.returns-in_err-put_totals-in-None-clause-sealed
returns-in_err-put_totals-in-None-clause-sealed g c told =
    on_failed c.from_residual-in_err-put_totals-in-None.result _ c.from_residual-in_err-put_totals-in-None.ensures.0

pub returns-in_err-put_seal-in-None-clause-sealed : goal.returns-in_err-put_seal-in-None-clause-sealed
returns-in_err-put_seal-in-None-clause-sealed g c told =
    on_failed c.from_residual-in_err-put_seal-in-None.result _ c.from_residual-in_err-put_seal-in-None.ensures.0

pub returns-in_err-put_seal-in-Some-clause-beside : goal.returns-in_err-put_seal-in-Some-clause-beside
returns-in_err-put_seal-in-Some-clause-beside g c = rw c.in-Some.is c.put_seal.ensures.beside

pub returns-in_err-put_seal-in-Some-clause-steps : goal.returns-in_err-put_seal-in-Some-clause-steps
returns-in_err-put_seal-in-Some-clause-steps g c = fewer_steps _ _ 6 4 c.put_seal.ensures.steps

pub returns-in_ok-put_seal-in-Some-clause-beside : goal.returns-in_ok-put_seal-in-Some-clause-beside
returns-in_ok-put_seal-in-Some-clause-beside g c = rw c.in-Some.is c.put_seal.ensures.beside

pub returns-in_ok-put_seal-in-Some-clause-steps : goal.returns-in_ok-put_seal-in-Some-clause-steps
returns-in_ok-put_seal-in-Some-clause-steps g c = fewer_steps _ _ 6 4 c.put_seal.ensures.steps

pub returns-in_err-put_totals-in-None-clause-beside : goal.returns-in_err-put_totals-in-None-clause-beside
returns-in_err-put_totals-in-None-clause-beside g c =
    rw c.in-None.is (writes_first g.B.Printer c.args.board.now c.put_totals.new.board c.put_totals.ensures.beside)

pub returns-in_err-put_totals-in-None-clause-steps : goal.returns-in_err-put_totals-in-None-clause-steps
returns-in_err-put_totals-in-None-clause-steps g c = fewer_steps _ _ 4 6 c.put_totals.ensures.steps

pub returns-in_err-put_seal-in-None-clause-beside : goal.returns-in_err-put_seal-in-None-clause-beside
returns-in_err-put_seal-in-None-clause-beside g c = rw c.in-None.is (writes_both g.B.Printer c.args.board.now
    c.put_totals.new.board c.put_seal-in-None.new.board c.put_totals.ensures.beside c.put_seal-in-None.ensures.beside)

pub returns-in_err-put_seal-in-None-clause-steps : goal.returns-in_err-put_seal-in-None-clause-steps
returns-in_err-put_seal-in-None-clause-steps g c =
    steps_then _ _ _ 4 6 c.put_totals.ensures.steps c.put_seal-in-None.ensures.steps

pub returns-in_ok-put_seal-in-None-clause-beside : goal.returns-in_ok-put_seal-in-None-clause-beside
returns-in_ok-put_seal-in-None-clause-beside g c = rw c.in-None.is (writes_both g.B.Printer c.args.board.now
    c.put_totals.new.board c.put_seal-in-None.new.board c.put_totals.ensures.beside c.put_seal-in-None.ensures.beside)

pub returns-in_ok-put_seal-in-None-clause-steps : goal.returns-in_ok-put_seal-in-None-clause-steps
returns-in_ok-put_seal-in-None-clause-steps g c =
    steps_then _ _ _ 4 6 c.put_totals.ensures.steps c.put_seal-in-None.ensures.steps

pub put_seal-requires-clause-valid : goal.put_seal-requires-clause-valid
put_seal-requires-clause-valid g c = c.requires.valid

pub put_seal-requires-clause-number : goal.put_seal-requires-clause-number
put_seal-requires-clause-number g c = c.requires.number

pub put_seal-requires-clause-slot : goal.put_seal-requires-clause-slot
put_seal-requires-clause-slot g c = c.requires.slot

pub put_seal-requires-clause-found : goal.put_seal-requires-clause-found
put_seal-requires-clause-found g c = c.requires.found

pub put_seal-requires-in-None-clause-valid : goal.put_seal-requires-in-None-clause-valid
put_seal-requires-in-None-clause-valid g c = c.requires.valid

pub put_seal-requires-in-None-clause-number : goal.put_seal-requires-in-None-clause-number
put_seal-requires-in-None-clause-number g c = c.requires.number

pub put_seal-requires-in-None-clause-slot : goal.put_seal-requires-in-None-clause-slot
put_seal-requires-in-None-clause-slot g c = c.requires.slot
