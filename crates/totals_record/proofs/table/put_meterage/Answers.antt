use Rattle.std.proofs.Common.{◌++◌}
use Rattle.{taxi_units.proofs.Laws.{appended_behind}, totals_record.specs.Bytes.{eight, sixteen}}
use Rattle.totals_record.proofs.table.put_meterage.Goals as goal

pub returns-clause-items : goal.returns-clause-items
returns-clause-items c =
    let start = c.args.out.now.items in let m = c.args.meterage.now in
    let s1 = appended_behind start (sixteen m.cover_left) (eight m.steps_full) _ _
    (c.put_sixteen.ensures.items) c.put_eight.ensures.items in
    let s2 =
    appended_behind start ((sixteen m.cover_left) ++ eight m.steps_full) (sixteen m.rest) _ _ (s1)
    c.put_sixteen-2.ensures.items in
    s2
