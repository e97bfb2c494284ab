use Rattle.std.{specs.List.{flat_map, range_with_len}, proofs.lemmas.List.{append-nil}}
use Rattle.std.proofs.{Common.{ℕ, ◌++◌, ◌+◌, ◌∙◌, ◌≡◌, List, ap, arith, refl, sym}, lemmas.Result.{err_from_is_err_and}}
use Rattle.call_ends.proofs.Laws.{out-as, out-by, out-failed, out-ok, out-print, out-row, out-row_failed}
use Rattle.store_commands.specs.TotalsText.{position_at, positions_text, totals_heading}
use Rattle.store_commands.proofs.totals.print_totals.Goals as goal

pub returns-in_err-print : goal.returns-in_err-print
returns-in_err-print g c =
    let p = c.print.ensures in
    let e = err_from_is_err_and c.from_residual.result c.from_residual.ensures.1 in
    let rows = positions_text c.args.decimals c.args.durable.now.totals.shares in
    rw e.1 (out-as (ap (λ (x : List ℕ). x ++ rows) (c.as_slice.ensures.value ∙ c.heading-line.ensures.text))
    (omega arith)
    (out-failed rows 9 c.in_err-print.was
    (out-print g.B.Printer p.whole p.begun p.image p.flight p.time p.cause p.step)))

pub loop-place-init : goal.loop-place-init
loop-place-init g c =
    let p = c.print.ensures in
    out-as (c.as_slice.ensures.value ∙ c.heading-line.ensures.text ∙ sym (append-nil _)) (omega arith)
    (out-ok c.in_ok-print.was (out-print g.B.Printer p.whole p.begun p.image p.flight p.time p.cause p.step))

pub returns-in_err-print_position : goal.returns-in_err-print_position
returns-in_err-print_position g c =
    let p = c.print_position.ensures in
    let failed = c.from_residual-in_err-print_position in
    let e = err_from_is_err_and failed.result failed.ensures.1 in
    rw e.1 (out-as refl (omega (arith, c.loop-place-test.true)) (out-row_failed
    (totals_heading c.args.decimals c.args.durable.now) (position_at c.args.decimals c.args.durable.now.totals.shares)
    c.loop-place.invariant (out-by p.whole p.begun p.cause p.steps p.store) 9 0 (omega (arith, c.loop-place-test.true))
    c.in_err-print_position.was))

pub loop-place-preserved : goal.loop-place-preserved
loop-place-preserved g c =
    let p = c.print_position.ensures in
    out-as refl (omega arith) (out-row (totals_heading c.args.decimals c.args.durable.now)
    (position_at c.args.decimals c.args.durable.now.totals.shares) c.loop-place.invariant
    (out-by p.whole p.begun p.cause p.steps p.store) c.in_ok-print_position.was)

pub returns : goal.returns
returns g c =
    let so_far = c.loop-place.invariant in
    let all : c.loop-place.place ≡ 9 = omega (arith, c.loop-place-test.false, c.loop-place.auto.place-end) in
    out-as (ap (λ (n : ℕ). totals_heading c.args.decimals c.args.durable.now
    ++ flat_map (position_at c.args.decimals c.args.durable.now.totals.shares) (range_with_len 0 n)) all)
    (omega (arith, all)) (out-by {most = 1 + c.loop-place.place} so_far.whole so_far.begun
    (record { kept = λ ok. so_far.cause.kept refl; failed = λ err. absurd cc }) so_far.steps so_far.store)
