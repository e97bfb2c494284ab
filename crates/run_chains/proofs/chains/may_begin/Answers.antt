use Rattle.std.{specs.Prelude.{is_some}, proofs.{Common.{◌∙◌, ◌≡◌, Ok, ap, arith, sym}, lemmas.Bool.{false≢true}}}
use Rattle.run_chains.{specs.Common.{opening_in}, proofs.ChainScan.{sealed_if, sealed_not, sealed_then}}
use Rattle.run_chains.proofs.chains.may_begin.Goals as goal

pub returns-in-Ok : goal.returns-in-Ok
returns-in-Ok g c =
    let image = c.args.image.now in
    let exact : c.open_store.result ≡ opening_in image =
    c.open_store.ensures.exact tt (λ e. omega (arith, c.open_store.ensures.cause e))
    ∙ ap opening_in c.new-board.ensures in
    let found : opening_in image ≡ Ok c.in-Ok.opening = sym exact ∙ c.in-Ok.is in
    let answered = c.is_some.ensures ∙ ap is_some c.sealed_store.ensures.answer in (
      λ some. sealed_if image c.in-Ok.opening found (sym answered ∙ some),
      λ h. answered ∙ sealed_then image c.in-Ok.opening found h,
    )

pub returns-in-Err : goal.returns-in-Err
returns-in-Err g c =
    let image = c.args.image.now in
    let exact : c.open_store.result ≡ opening_in image =
    c.open_store.ensures.exact tt (λ e. omega (arith, c.open_store.ensures.cause e))
    ∙ ap opening_in c.new-board.ensures in
    (λ some. absurd (false≢true some), λ h. absurd (sealed_not image c.in-Err.field-0 (sym exact ∙ c.in-Err.is) h))
