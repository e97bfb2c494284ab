use Rattle.data_port.{specs.State.{standing_of}, proofs.PieceBytes.{Feeds}}
use Rattle.data_port.proofs.port.Port.feed.Given as goal

abbrev pub invariant-loop-place : goal.invariant-loop-place
invariant-loop-place l = Feeds l.fn.self (standing_of l.self-inside.state) l.piece l.place l.fn.out.items l.out.items
