use Rattle.std.proofs.Common.{[], ℕ, ℤ, ◌<◌, ◌∙◌, ◌∷◌, FitsSigned, List, ap, arith, length, refl, rules, subst, sym}
use Rattle.std.proofs.{Common.{w32}, lemmas.{Int.{to_z-of_z}, Result.{err_from_is_err_and}}}
use Rattle.{offset_rules.specs.Texts.{offset_lines}, seal_record.specs.PlainText.{secured_line}}
use Rattle.call_ends.proofs.Laws.{out-as, out-by, out-failed, out-print, out-then}
use Rattle.store_commands.{specs.Common.{ended_text}, proofs.SealedTexts.{sealed_parts}}
use Rattle.store_commands.proofs.sealed_params.print_seal.Goals as goal

pub returns-in_err-print : goal.returns-in_err-print
returns-in_err-print g c =
    let p = c.print.ensures in
    let e = err_from_is_err_and c.from_residual.result c.from_residual.ensures.1 in
    rw e.1 (out-as (sealed_parts c.args.seal.now (c.as_slice.ensures.value ∙ c.sealed_heading-heading.ensures.text) refl
    refl) (omega arith) (out-failed _ 33 c.in_err-print.was
    (out-print g.B.Printer p.whole p.begun p.image p.flight p.time p.cause p.step)))

pub returns-in_err-print_pairs : goal.returns-in_err-print_pairs
returns-in_err-print_pairs g c =
    let p = c.print.ensures in
    let q = c.print_pairs.ensures in
    let failed = c.from_residual-in_err-print_pairs in
    let e = err_from_is_err_and failed.result failed.ensures.1 in
    rw e.1 (out-as (sealed_parts c.args.seal.now (c.as_slice.ensures.value ∙ c.sealed_heading-heading.ensures.text)
    (ap offset_lines c.pairs.ensures.value) refl)
    (omega (arith, c.requires.params.offsets.few, ap length c.pairs.ensures.value))
    (out-then c.in_ok-print.was (out-print g.B.Printer p.whole p.begun p.image p.flight p.time p.cause p.step)
    (out-failed _ 1 c.in_err-print_pairs.was (out-by q.whole q.begun q.cause q.steps q.store))))

pub print-requires-2-clause-some : goal.print-requires-2-clause-some
print-requires-2-clause-some g c =
    subst (λ (x : List ℕ). 0 < length x) (sym c.as_slice-2.ensures.value) c.secured_line-last.ensures.some

pub returns : goal.returns
returns g c =
    let p = c.print.ensures in
    let q = c.print_pairs.ensures in
    let r = c.print-2.ensures in
    let fits : FitsSigned w32 c.args.seal.now.params.secured = search rules in
    out-as (sealed_parts c.args.seal.now (c.as_slice.ensures.value ∙ c.sealed_heading-heading.ensures.text)
    (ap offset_lines c.pairs.ensures.value) (c.as_slice-2.ensures.value ∙ c.secured_line-last.ensures.text
    ∙ ap (λ (day : ℤ). ended_text (secured_line day ∷ [])) (to_z-of_z w32 c.args.seal.now.params.secured fits)))
    (omega (arith, c.requires.params.offsets.few, ap length c.pairs.ensures.value))
    (out-then c.in_ok-print.was (out-print g.B.Printer p.whole p.begun p.image p.flight p.time p.cause p.step)
    (out-then c.in_ok-print_pairs.was (out-by q.whole q.begun q.cause q.steps q.store)
    (out-print g.B.Printer r.whole r.begun r.image r.flight r.time r.cause r.step)))
