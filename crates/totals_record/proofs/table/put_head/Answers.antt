use Rattle.std.proofs.Common.{◌++◌}
use Rattle.{taxi_units.proofs.Laws.{appended_behind}, totals_record.specs.Bytes.{eight, sixteen}}
use Rattle.totals_record.proofs.table.put_head.Goals as goal

pub returns-clause-items : goal.returns-clause-items
returns-clause-items c =
    let start = c.args.out.now.items in let t = c.args.totals.now in
    let s1 = appended_behind start (eight c.args.number) (sixteen t.distance_mm) _ _
    (c.put_eight.ensures.items) c.put_sixteen.ensures.items in
    let s2 = appended_behind start ((eight c.args.number) ++ sixteen t.distance_mm) (sixteen t.hired_mm) _ _
    (s1) c.put_sixteen-2.ensures.items in
    let s3 = appended_behind start (((eight c.args.number) ++ sixteen t.distance_mm) ++ sixteen t.hired_mm)
    (eight t.hirings) _ _
    (s2) c.put_eight-2.ensures.items in
    let s4 = appended_behind start
    ((((eight c.args.number) ++ sixteen t.distance_mm) ++ sixteen t.hired_mm) ++ eight t.hirings)
    (sixteen t.supplements) _ _ (s3) c.put_sixteen-3.ensures.items in
    let s5 = appended_behind start
    (((((eight c.args.number) ++ sixteen t.distance_mm) ++ sixteen t.hired_mm) ++ eight t.hirings)
    ++ sixteen t.supplements) (sixteen t.fare) _ _ (s4) c.put_sixteen-4.ensures.items in
    s5
