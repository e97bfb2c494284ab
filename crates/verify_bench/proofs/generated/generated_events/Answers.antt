use Rattle.std.proofs.Common.{◌+◌, ◌-◌, ◌∙◌, ◌≡◌, ap, arith, sym}
use Rattle.verify_bench.specs.{AddedText.{lines_events, place_of}, Generated.{Place, beginning, generated_lines, trip}}
use Rattle.verify_bench.proofs.{GeneratedLaws.{events_of_lines}, Trips.{events_before, events_behind, events_of_all}}
use Rattle.verify_bench.proofs.generated.generated_events.Goals as goal

pub loop-trip-init : goal.loop-trip-init
loop-trip-init c =
    let up = c.put_up.ensures in
    let new = c.new-writing.ensures in
    let place : place_of c.put_up.new.self ≡ beginning c.args.seed = up.place ∙ new.place in
    let one : c.put_up.new.self.events ≡ 1 = omega (arith, up.counted, new.events) in
    let start = ap (λ (p : Place). p.tenths) place in
    record {
      all = events_before c.put_up.new.self.events (c.args.trips - 0)
          (place_of c.put_up.new.self) c.args.seed c.args.trips one place (omega arith);
      time = omega (arith, start);
      few = omega arith;
    }

pub loop-trip-preserved : goal.loop-trip-preserved
loop-trip-preserved c =
    let inv = c.loop-trip.invariant in
    let cleared = c.clear_text.ensures in
    let written = c.put_trip.ensures in
    let p = place_of c.loop-trip.writing in
    let next : place_of c.put_trip.new.self ≡ (trip p).next = rw cleared.place at written.place in
    let counted : c.put_trip.new.self.events ≡ c.loop-trip.writing.events + lines_events (trip p).lines =
    rw (cleared.place, cleared.events) at written.counted in
    let same = ap (λ (q : Place). q.tenths) cleared.place in
    record {
      all = events_behind (lines_events (generated_lines c.args.seed c.args.trips)) c.loop-trip.writing.events
          c.put_trip.new.self.events
          (c.args.trips - c.loop-trip.trip) (c.args.trips - (c.loop-trip.trip + 1)) p
          (place_of c.put_trip.new.self) inv.all (omega arith) (omega arith) counted next;
      time = omega (arith, written.few_tenths, same, inv.time);
      few = omega (arith, written.few_events, cleared.events, inv.few);
    }

pub returns : goal.returns
returns c =
    let total = lines_events (generated_lines c.args.seed c.args.trips) in
    let all : c.loop-trip.writing.events ≡ total = events_of_all total c.loop-trip.writing.events
    (c.args.trips - c.loop-trip.trip) (place_of c.loop-trip.writing) c.loop-trip.invariant.all (omega arith) in
    all ∙ sym (events_of_lines c.args.seed c.args.trips c.requires.1)
