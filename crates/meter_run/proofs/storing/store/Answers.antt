use Rattle.std.{specs.Option.{ForSome}, proofs.Common.{subst, sym}}
use Rattle.meter_run.{specs.Common.{Durable, Fits, after}, proofs.BoardDeeds.{beside_commit, commit_point}}
use Rattle.meter_run.proofs.storing.store.Goals as goal

pub returns-in-Ok-clause-agrees : goal.returns-in-Ok-clause-agrees
returns-in-Ok-clause-agrees g c = λ tables fits. record {
  slot = c.in-Ok.ensures.slot_in;
  settled = c.in-Ok.ensures.settled;
  fits = subst (λ (d : Durable). ForSome d.hold (Fits tables)) (sym c.in-Ok.ensures.state) fits;
}

pub returns-in-Ok-clause-points : goal.returns-in-Ok-clause-points
returns-in-Ok-clause-points g c = λ told tables seal deed fits fits_after is.
    let d = c.args.known.now.durable in
    commit_point g.B.Printer tables seal c.args.board.now c.commit.new.board d c.args.known.now.place
    (after d c.args.change.now) deed is fits fits_after (c.commit.ensures.any_moment told) c.commit.ensures.beside.text

pub returns-in-Ok-clause-turn : goal.returns-in-Ok-clause-turn
returns-in-Ok-clause-turn g c = λ told. record {
  place = c.args.known.now.place;
  settled = c.requires.settled told;
  writes = c.commit.ensures.beside;
  leaves = c.commit.ensures.any_moment told;
}

pub returns-in-Ok-clause-beside : goal.returns-in-Ok-clause-beside
returns-in-Ok-clause-beside g c = λ told.
    let d = c.args.known.now.durable in
    beside_commit g.B.Printer c.args.known.now.place d (after d c.args.change.now) c.args.board.now c.commit.new.board
    c.requires.slot c.commit.ensures.beside (c.commit.ensures.any_moment told)

pub returns-in-Err-clause-agrees : goal.returns-in-Err-clause-agrees
returns-in-Err-clause-agrees g c = λ tables fits. tt

pub returns-in-Err-clause-turn : goal.returns-in-Err-clause-turn
returns-in-Err-clause-turn g c = λ told. tt

pub returns-in-Err-clause-points : goal.returns-in-Err-clause-points
returns-in-Err-clause-points g c = λ told tables seal deed fits fits_after is.
    let d = c.args.known.now.durable in
    commit_point g.B.Printer tables seal c.args.board.now c.commit.new.board d c.args.known.now.place
    (after d c.args.change.now) deed is fits fits_after (c.commit.ensures.any_moment told) c.commit.ensures.beside.text

pub returns-in-Err-clause-beside : goal.returns-in-Err-clause-beside
returns-in-Err-clause-beside g c = λ told.
    let d = c.args.known.now.durable in
    beside_commit g.B.Printer c.args.known.now.place d (after d c.args.change.now) c.args.board.now c.commit.new.board
    c.requires.slot c.commit.ensures.beside (c.commit.ensures.any_moment told)
