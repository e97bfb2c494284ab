use Rattle.std.proofs.Common.{[], ℕ, ◌∙◌, List, inl, inr, refl, subst, sym, ⊎_elim}
use Rattle.{memory_devices.specs.MemoryBoard.{moment_of}, run_chains.proofs.ChainLinks.{linked, since_first}}
use Rattle.run_chains.specs.{ChainSteps.{HasLink}, Common.{BoardState, HasState, image_of, left_since_of, new_board}}
use Rattle.run_chains.specs.Link.{text_before}
use Rattle.run_chains.proofs.chains.run_over.Goals as goal

pub returns-clause-link : goal.returns-clause-link
returns-clause-link g c = λ d has.
    let files = c.args.files.now in
    let files_left = c.run-status.new.files in
    let old = c.in_ok-board.board in
    let new = c.run-status.new.board in
    let fresh = c.in_ok-board.ensures.new in
    let next = c.left_by-next.result in
    let left = c.left_by-next.ensures in
    let call : g.P.Program.ran files (new_board (image_of old.state) []) files_left new.state c.run-status.result =
    subst (λ (image : List ℕ). g.P.Program.ran files (new_board image []) files_left new.state c.run-status.result)
    (sym fresh.image_is)
    (subst (λ (board : BoardState). g.P.Program.ran files board files_left new.state c.run-status.result)
    c.in_ok-board.ensures.state c.run-status.ensures.ran) in
    subst (λ (image : List ℕ). HasLink g.P.Program.ran d image files files_left c.args.cut c.run-status.result next
    c.stored_number-number.result) fresh.image_is
    (linked _ files files_left old new c.run-status.result c.run-status.ensures.runs tt fresh.text_is fresh.settled
    c.if-status-eq-BOARD_FAULT.false c.if-status-eq-NO_MEMORY.false
    c.run-status.ensures.others
    new.state refl (λ i x h. subst (λ (moment : ℕ). left_since_of new.state moment i x) (sym fresh.moment_is) h)
    call d (subst (λ (image : List ℕ). HasState image d) (sym fresh.image_is) has) c.args.cut next
    (since_first (left_since_of new.state) (moment_of old.state) fresh.moment_is next
    (text_before c.args.cut new.state) c.args.image.now (image_of old.state) fresh.image_is left.left)
    refl left.whole (λ fill first. left.none fill first ∙ sym fresh.image_is) left.inside c.stored_number-number.result
    c.stored_number-number.ensures)

pub returns-then-status-eq-BOARD_FAULT-clause-memory : goal.returns-then-status-eq-BOARD_FAULT-clause-memory
returns-then-status-eq-BOARD_FAULT-clause-memory g c =
    let files_left = c.run-status.new.files in
    let new = c.run-status.new.board in
    let status = c.run-status.result in
    let call : g.P.Program.ran c.args.files.now (new_board c.args.image.now []) files_left new.state status =
    subst (λ (board : BoardState). g.P.Program.ran c.args.files.now board files_left new.state status)
    c.in_ok-board.ensures.state c.run-status.ensures.ran in
    inr (new.state, status, call, ⊎_elim inl (λ failed. inr failed.1) c.then-status-eq-BOARD_FAULT.either)
