use Rattle.std.proofs.Common.{ℕ, ◌+◌, ◌∙◌, List, inl, inr, nat_lt, refl, subst, sym, ⊎_elim}
use Rattle.{std.proofs.lemmas.Result.{on_ok_weaker}, outside.proofs.Laws.{leaves_then, leaves_wider}}
use Rattle.log_commands.{specs.Appends.{IsReady, IsStep}, proofs.{OtherSlots.{kept_and_new}, Staged.{kept_rise}}}
use Rattle.log_commands.{specs.LogList.{StandsFor, last_ones}, proofs.Causes.{cause_later, err_later}}
use Rattle.log_commands.specs.Record.{Record}
use Rattle.log_commands.proofs.appending.append.Goals as goal

pub returns-in_err-shut_gate-clause-any_moment : goal.returns-in_err-shut_gate-clause-any_moment
returns-in_err-shut_gate-clause-any_moment g c told records ready rise =
    leaves_wider g.G.Printer _ (λ image text. IsStep records c.args.it.now image) _ _ (λ image text kept. inl kept)
    (c.shut_gate.ensures.any_moment told records ready)

pub returns-in_err-write_body-clause-any_moment : goal.returns-in_err-write_body-clause-any_moment
returns-in_err-write_body-clause-any_moment g c told records ready rise =
    let step = λ (image text : List ℕ). IsStep records c.args.it.now image in
    let shut = c.in_ok-shut_gate.ensures.shut told records ready in
    leaves_then g.G.Printer step _ _ _
    (leaves_wider g.G.Printer _ step _ _ (λ image text kept. inl kept)
    (c.shut_gate.ensures.any_moment told records ready))
    (leaves_wider g.G.Printer _ step _ _ (λ image text stands. inl (inr stands))
    (c.write_body.ensures.any_moment told (last_ones 255 records) shut))

pub returns-in_err-write_body-clause-cause : goal.returns-in_err-write_body-clause-cause
returns-in_err-write_body-clause-cause g c =
    err_later _ _ _ _ (c.in_ok-shut_gate.ensures.cause.kept refl) c.in_err-write_body.ensures.cause
    c.from_residual-in_err-write_body.result c.from_residual-in_err-write_body.ensures.1

pub returns-clause-any_moment : goal.returns-clause-any_moment
returns-clause-any_moment g c told records ready rise =
    let step = λ (image text : List ℕ). IsStep records c.args.it.now image in
    let shut = c.in_ok-shut_gate.ensures.shut told records ready in
    let written = c.in_ok-write_body.ensures.written told (last_ones 255 records) shut in
    leaves_then g.G.Printer step _ _ _
    (leaves_then g.G.Printer step _ _ _
    (leaves_wider g.G.Printer _ step _ _ (λ image text kept. inl kept)
    (c.shut_gate.ensures.any_moment told records ready))
    (leaves_wider g.G.Printer _ step _ _ (λ image text stands. inl (inr stands))
    (c.write_body.ensures.any_moment told (last_ones 255 records) shut)))
    (leaves_wider g.G.Printer _ step _ _ (λ image text stands. ⊎_elim (λ kept. inl (inr kept))
    (λ new. inr (subst (λ (l : List Record). StandsFor l image) (sym (kept_and_new records c.args.it.now)) new)) stands)
    (c.open_gate.ensures.any_moment told (last_ones 255 records) c.args.it.now written
    (kept_rise records c.args.it.now rise)))

pub returns-clause-ready : goal.returns-clause-ready
returns-clause-ready g c told = on_ok_weaker c.open_gate.result (λ opens records ready rise.
    let shut = c.in_ok-shut_gate.ensures.shut told records ready in
    let written = c.in_ok-write_body.ensures.written told (last_ones 255 records) shut in
    subst (λ (l : List Record). IsReady (g.G.Printer.image c.open_gate.new.log)
    (g.G.Printer.in_flight c.open_gate.new.log)
    (c.args.last + 1) (nat_lt 254 c.args.last) l) (sym (kept_and_new records c.args.it.now))
    (opens (last_ones 255 records) c.args.it.now written (kept_rise records c.args.it.now rise)))
    (c.open_gate.ensures.ready told)

pub returns-clause-cause : goal.returns-clause-cause
returns-clause-cause g c =
    cause_later _ _ _ (c.in_ok-write_body.ensures.cause.kept refl ∙ c.in_ok-shut_gate.ensures.cause.kept refl) _
    c.open_gate.ensures.cause
