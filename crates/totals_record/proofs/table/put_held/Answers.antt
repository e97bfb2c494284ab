use Rattle.std.proofs.Common.{[], ◌∷◌}
use Rattle.{taxi_units.proofs.Laws.{appended_behind}, totals_record.specs.Spelling.{trip_bytes}}
use Rattle.totals_record.proofs.table.put_held.Goals as goal

pub returns-in-Some-clause-items : goal.returns-in-Some-clause-items
returns-in-Some-clause-items c = rw c.in-Some.is (appended_behind c.args.out.now.items (1 ∷ [])
    (trip_bytes c.in-Some.trip) _ _ c.put_bytes.ensures.items c.put_trip.ensures.items)
