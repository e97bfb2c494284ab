use Rattle.std.proofs.Common.{◌∙◌, ap, refl, subst, sym}
use Rattle.verify_bench.specs.{Bench.{AreTrips, BenchStands}, Common.{BenchMeter, Teller, step}, Told.{TellerStands}}
use Rattle.verify_bench.{specs.{Settings.{setting_under}, TripExplanations.{hired_at}}, proofs.Tellings.{told_event}}
use Rattle.verify_bench.proofs.teller.Teller.tell.Goals as goal

pub returns-clause-tells : goal.returns-clause-tells
returns-clause-tells c = λ m hired telling stands.
    let s = setting_under c.args.checked.now c.args.params.now in
    let event = c.args.event in
    let rated = c.tell_rate.new.self in
    let done = c.happen.new.self in
    let told = c.in_ok-happenings.happenings in
    let others = c.in_ok-tell_rate.ensures.others in
    let meter = ap (λ (t : Teller). t.meter) others in
    let at = subst (λ (b : BenchMeter). BenchStands s hired b m) (sym meter) stands.meter in
    let happens = c.in_ok-happenings.ensures.happens m hired telling at
    (ap (λ (t : Teller). t.shown) others ∙ stands.shown) (ap (λ (t : Teller). t.since) others ∙ stands.since)
    stands.kept in
    told_event s event m hired telling c.args.self.now rated done c.forget.new.self told c.happen.new.found.items
    c.args.stories.now c.tell_rate.new.stories c.put_both.new.stories c.put_ends.new.stories c.put.new.stories stands
    (c.in_ok-tell_rate.ensures.line m hired stands.meter) (c.in_ok-tell_rate.ensures.told m hired stands.meter) happens
    c.in_ok-happenings.ensures.line
    (c.in_ok-put_both.ensures s (step s event m).next (hired_at s event m hired) refl happens.meter)
    (rw c.as_slice.ensures.value at c.in_ok-put_ends.ensures)
    (c.in_ok-put.ensures s (step s event m).next (hired_at s event m hired) refl happens.meter)
    c.forget.ensures.others
    (c.forget.ensures.line (step s event m).next.trip s (hired_at s event m hired) happens.meter.trips)
