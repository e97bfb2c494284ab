use Rattle.std.proofs.Common.{[], ◌∷◌}
use Rattle.{taxi_units.proofs.Laws.{appended_behind}, data_port.specs.Items.{held_trip, trip_content}}
use Rattle.data_port.proofs.contents.put_held.Goals as goal

pub returns-in-Some-clause-items : goal.returns-in-Some-clause-items
returns-in-Some-clause-items c =
    rw c.in-Some.is (appended_behind c.args.line.now.items (1 ∷ [])
    (trip_content (held_trip c.args.constant c.in-Some.trip)) _ _ c.push_bytes.ensures.text c.put_trip.ensures.items)
