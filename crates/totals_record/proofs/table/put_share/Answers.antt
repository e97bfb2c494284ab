use Rattle.taxi_units.proofs.Laws.{appended_behind}
use Rattle.totals_record.proofs.table.put_share.Goals as goal

pub returns-clause-items : goal.returns-clause-items
returns-clause-items c = appended_behind _ _ _ _ _ (c.put_eight.ensures.items) c.put_sixteen.ensures.items
