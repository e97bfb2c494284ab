use Rattle.std.proofs.{Common.{◌∙◌, arith, sym}, lemmas.Option.{slice_get_within}}
use Rattle.tariff_compile.{specs.Common.{condition_of}, proofs.SameInContexts.{one_answer}}
use Rattle.tariff_compile.proofs.marking.marks_of_atom.Goals as goal

pub returns-in-Some : goal.returns-in-Some
returns-in-Some c = λ place x at.
    let first = c.in-Some.first.now in
    let agree = c.requires.alike first (sym c.in-Some.ensures.value) place x at in
    c.all_or_none.ensures place (omega (arith, slice_get_within c.args.contexts.now place x at, c.requires.few))
    ∙ (c.sat.ensures
    ∙ one_answer c.args.alike (condition_of c.args.cond.now) first x (sym c.if-not-is_asked.ensures) agree)
