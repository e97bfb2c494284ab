use Rattle.std.{specs.Prelude.{nat_le}, proofs.lemmas.Result.{on_ok_weaker}}
use Rattle.std.proofs.{Common.{◌∙◌, ◌≡◌, ◌≢◌, None, Some, arith, false, refl, sym, true}, lemmas.Bool.{le-leb, lt-leb}}
use Rattle.verify_bench.specs.{Common.{ForHire, context_now, longest_trip, ticks_so_far}, Settings.{setting_under}}
use Rattle.verify_bench.proofs.{BenchSupply.{no_ticks, still_hired}, Benches.{stands_anew}}
use Rattle.verify_bench.proofs.bench_meter.BenchMeter.expire_or_press.Goals as goal

pub returns-then-ticks-ge-LONGEST_TRIP-clause-moves : goal.returns-then-ticks-ge-LONGEST_TRIP-clause-moves
returns-then-ticks-ge-LONGEST_TRIP-clause-moves c =
    let s = setting_under c.args.checked.now c.args.params.now in
    on_ok_weaker c.expire.result (λ goes m hired stands.
    let same = c.ticks.ensures.stands s m hired stands in
    let long : nat_le longest_trip (ticks_so_far m.trip) ≡ true =
    le-leb 8640000 (ticks_so_far m.trip) (omega (arith, same, c.if-ticks-ge-LONGEST_TRIP.true)) in
    let busy : m.operating ≢ ForHire = λ is.
    let none = no_ticks c.args.self.now.hiring c.ticks.result (c.requires.sound.for_hire (stands.operating ∙ is))
    c.ticks.ensures.own in
    absurd (omega (arith, none, c.if-ticks-ge-LONGEST_TRIP.true)) in
    rw (long, still_hired m.latch m.operating (context_now s m) hired busy) (goes m hired stands))
    c.expire.ensures.moves

pub returns-in-Some-clause-moves : goal.returns-in-Some-clause-moves
returns-in-Some-clause-moves c =
    let s = setting_under c.args.checked.now c.args.params.now in
    on_ok_weaker c.act.result (λ goes m hired stands.
    let same = c.ticks.ensures.stands s m hired stands in
    let few : nat_le longest_trip (ticks_so_far m.trip) ≡ false =
    lt-leb 8640000 (ticks_so_far m.trip) (omega (arith, same)) in
    let waits : m.latch ≡ Some c.in-Some.key = sym stands.latch ∙ c.in-Some.is in
    rw (few, waits) (goes (record m { latch = None }) hired
    (stands_anew s hired c.args.self.now m c.args.self.now.began m.began None None m.shown stands.began refl stands)))
    c.act.ensures.moves
