use Rattle.taxi_units.proofs.Laws.{appended_behind}
use Rattle.totals_record.proofs.bytes.put_sixteen.Goals as goal

pub returns-clause-items : goal.returns-clause-items
returns-clause-items c = appended_behind _ _ _ _ _ c.put_eight.ensures.items c.put_eight-2.ensures.items
