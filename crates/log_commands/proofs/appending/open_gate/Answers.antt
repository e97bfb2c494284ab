use Rattle.{std.proofs.{Common.{sym}, lemmas.Result.{on_ok_weaker}}, outside.proofs.Laws.{leaves_wider}}
use Rattle.log_commands.proofs.{Results.{both}, Staged.{open_leaves, open_ready, same_place}}
use Rattle.log_commands.proofs.appending.open_gate.Goals as goal

pub returns-clause-any_moment : goal.returns-clause-any_moment
returns-clause-any_moment g c told records it written rise =
    leaves_wider g.G.Printer _ _ _ _ (λ image text left.
    open_leaves _ image _ c.args.last records it written rise
    (same_place _ _ image _ _ 1 c.next_at.ensures.is left.bytes)) c.write_and_sync.ensures.any_moment

pub returns-clause-ready : goal.returns-clause-ready
returns-clause-ready g c told = on_ok_weaker c.write_and_sync.result (λ done records it written rise.
    open_ready _ _ _ _ c.args.last records it written rise (same_place _ _ _ _ _ 1 c.next_at.ensures.is
    c.write_and_sync.ensures.beside.rest) (rw (sym c.next_at.ensures.is) done.0) done.1)
    (both _ _ c.write_and_sync.result (c.write_and_sync.ensures.written told) (c.write_and_sync.ensures.durable told))
