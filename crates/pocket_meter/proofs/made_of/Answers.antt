use Rattle.std.proofs.Common.{◌∙◌, ◌≡◌, IfOk, subst, sym}
use Rattle.{tariff_tree.specs.{Tree.{tree_of}, declared.tariff.Tariff.{Tariff}}, tariff_check.specs.Faults.{IsSound}}
use Rattle.{tariff_syntax.specs.Reads.{IsParsed, Reads}, tariff_compile.specs.Tables.{IsTablesOf, tables_of}}
use Rattle.{meter_texts.proofs.Laws.{made_by}, pocket_meter.proofs.OkValues.{was_ok}}
use Rattle.pocket_meter.proofs.made_of.Goals as goal

pub returns-clause-made : goal.returns-clause-made
returns-clause-made c =
    let read = was_ok _ _ c.in_ok-ok.ensures.value in
    let good = was_ok _ _ c.in_ok-checked.ensures.value in
    let said = was_ok _ _ c.in_ok-params.ensures.value in
    let made = was_ok _ _ c.in_ok-tables.ensures.value in
    let t = c.in_ok-ok.field-0 in
    let sound : (c.in_ok-checked.checked ≡ t) × IsSound (tree_of t) =
    subst (λ r. IfOk r (λ x. (x ≡ t) × IsSound (tree_of t))) good c.check.ensures.sound in
    made_by c.args.tariff.now c.args.params.now (tree_of c.in_ok-checked.checked) c.in_ok-tables.tables _
    (subst (λ (x : Tariff). Reads c.args.tariff.now (tree_of x)) (sym sound.0)
    (subst (IsParsed c.args.tariff.now) read c.parse.ensures.answer).1)
    (subst (λ (x : Tariff). IsSound (tree_of x)) (sym sound.0) sound.1)
    (sym c.read_params.ensures.answer ∙ said)
    (subst (λ r. IfOk r (IsTablesOf (tree_of c.in_ok-checked.checked))) made c.compile.ensures.tables)
    (subst (λ r. IfOk r (λ x. x ≡ tables_of (tree_of c.in_ok-checked.checked) c.in_ok-params.params.constant)) made
    c.compile.ensures.value)
