use Rattle.std.proofs.{Common.{◌≡◌, Bool, false, refl, subst, sym, true}, lemmas.Result.{on_ok_weaker}}
use Rattle.{outside.proofs.Laws.{leaves_none, leaves_wider}, log_commands.specs.Common.{MayLeave, OrWithin}}
use Rattle.log_commands.specs.Appends.{IsReady}
use Rattle.log_commands.proofs.{Results.{both}, Staged.{same_place, shut_already, shut_ends, shut_leaves, still_leaves}}
use Rattle.log_commands.proofs.appending.shut_gate.Goals as goal

pub returns-then-not-is_open-clause-any_moment : goal.returns-then-not-is_open-clause-any_moment
returns-then-not-is_open-clause-any_moment g c told records ready =
    leaves_none g.G.Printer _ c.args.log.now (λ image text left.
    still_leaves _ image _ c.args.last c.args.is_open records ready
    (g.met.G.Printer.only_now c.args.log.now image text left).bytes)

pub returns-then-not-is_open-clause-shut : goal.returns-then-not-is_open-clause-shut
returns-then-not-is_open-clause-shut g c told records ready =
    let closed : c.args.is_open ≡ false = search in
    shut_already (g.G.Printer.image c.args.log.now) (g.G.Printer.image c.args.log.now)
    (g.G.Printer.in_flight c.args.log.now) c.args.last records (g.G.Printer.in_flight c.args.log.now)
    (subst (λ (b : Bool). IsReady (g.G.Printer.image c.args.log.now)
    (g.G.Printer.in_flight c.args.log.now) c.args.last b records) closed ready) refl ready.still

pub returns-clause-any_moment : goal.returns-clause-any_moment
returns-clause-any_moment g c told records ready =
    let opened : c.args.is_open ≡ true = search in
    let is : IsReady (g.G.Printer.image c.args.log.now) (g.G.Printer.in_flight c.args.log.now) c.args.last true
    records =
    subst (λ (b : Bool). IsReady (g.G.Printer.image c.args.log.now)
    (g.G.Printer.in_flight c.args.log.now) c.args.last b records) opened ready in
    let image = g.G.Printer.image c.args.log.now in
    let in_flight = g.G.Printer.in_flight c.args.log.now in
    let printed = g.G.Printer.printed c.args.log.now in
    leaves_wider g.G.Printer (MayLeave image (OrWithin in_flight c.next_at.result 1) printed) _ _ _
    (λ left text may_leave. shut_leaves _ left _ c.args.last records is
    (same_place image in_flight left c.next_at.result _ 1 c.next_at.ensures.is may_leave.bytes))
    c.write_and_sync.ensures.any_moment

pub returns-clause-shut : goal.returns-clause-shut
returns-clause-shut g c told = on_ok_weaker c.write_and_sync.result (λ done records ready.
    shut_ends _ _ _ c.args.last records c.args.is_open _ ready (same_place _ _ _ _ _ 1 c.next_at.ensures.is
    c.write_and_sync.ensures.beside.rest) (rw (sym c.next_at.ensures.is) done.0) done.1)
    (both _ _ c.write_and_sync.result (c.write_and_sync.ensures.written told) (c.write_and_sync.ensures.durable told))
