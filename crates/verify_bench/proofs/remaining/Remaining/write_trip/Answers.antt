use Rattle.std.proofs.Common.{◌-◌, ◌≡◌, refl}
use Rattle.verify_bench.specs.AddedText.{place_of}
use Rattle.verify_bench.{specs.Generated.{lines_text, trip}, proofs.Trips.{left_after_trip, trip_has_text}}
use Rattle.verify_bench.proofs.remaining.Remaining.write_trip.Goals as goal

pub returns-clause-left : goal.returns-clause-left
returns-clause-left c =
    let written = c.put_trip.ensures in
    let cleared = c.clear.ensures in
    left_after_trip c.args.self.now
    (record { writing = c.put_trip.new.self; given = 0; trips = c.args.self.now.trips - 1 }) c.requires.all
    c.requires.some refl refl (rw (cleared.text, cleared.place) at written.text) (rw cleared.place at written.place)

pub returns-clause-some : goal.returns-clause-some
returns-clause-some c =
    let written = c.put_trip.ensures in
    let cleared = c.clear.ensures in
    let text : c.put_trip.new.self.text.items ≡ lines_text (trip (place_of c.args.self.now.writing)).lines =
    rw (cleared.text, cleared.place) at written.text in
    rw text (trip_has_text (place_of c.args.self.now.writing))
