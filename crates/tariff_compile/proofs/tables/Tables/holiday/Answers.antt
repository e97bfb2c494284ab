use Rattle.std.proofs.{Common.{◌∙◌, FitsSigned, ap, rules, sym, w32}, lemmas.Int.{to_z-of_z}}
use Rattle.tariff_compile.{specs.{Common.{has_day}, Tables.{TableParts}}, proofs.Compiled.{holiday-dates, holiday-some}}
use Rattle.tariff_compile.proofs.tables.Tables.holiday.Goals as goal

pub returns-clause-value : goal.returns-clause-value
returns-clause-value g c =
    let fits : FitsSigned w32 c.args.day = search rules in
    c.holiday.ensures.value
    ∙ (ap (has_day c.self.inside.cuts.holidays) (to_z-of_z w32 c.args.day fits)
    ∙ ap (λ (p : TableParts). has_day p.cuts.holidays c.args.day) c.self.view_is)

pub returns-clause-tree : goal.returns-clause-tree
returns-clause-tree g c = λ t year month date is of.
    returns-clause-value g c ∙ holiday-dates t c.args.self.now c.args.day year month date is of

pub returns-clause-some : goal.returns-clause-some
returns-clause-some g c = λ holiday. holiday-some c.args.self.now c.args.day (sym (returns-clause-value g c) ∙ holiday)
