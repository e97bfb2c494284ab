use Rattle.std.proofs.Common.{◌≡◌, ap, arith, length, length-take}
use Rattle.data_port.proofs.Pieces.{more_of}
use Rattle.data_port.proofs.serving.serve_next.Goals as goal

pub returns-clause-more : goal.returns-clause-more
returns-clause-more g c =
    let size : length c.front-bytes.result.now ≡ c.in-Ok.count =
    omega (
      arith,
      ap length c.front-bytes.ensures,
      c.in-Ok.ensures.within,
      c.requires.most.1,
      c.read_piece.array_long,
      length-take c.in-Ok.count c.read_piece.new.piece,
    ) in
    let serves = c.in_ok-serve_piece.ensures.serves in (
      c.in-Ok.ensures.within,
      more_of c.front-bytes.result.now size (omega (arith, c.if-count-eq0.false))
          (λ k. rw c.front-bytes.ensures (c.in-Ok.ensures.taken k)) serves.0 serves.1 serves.2
          c.serve_piece.ensures.steps,
    )
