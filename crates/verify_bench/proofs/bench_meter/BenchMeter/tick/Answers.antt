use Rattle.{std.proofs.Common.{subst}, verify_bench.specs.Common.{interval_counted, roaming_checked, shown}}
use Rattle.verify_bench.specs.{Bench.{Moves}, Settings.{setting_under}, TripExplanations.{hired_by}}
use Rattle.verify_bench.specs.Common.{◌>>=◌, Context, Meter, context_now, expired_or_pressed, interval_begun}
use Rattle.verify_bench.proofs.Benches.{hired_after, moves_begun, moves_quietly, moves_shown, moves_then}
use Rattle.verify_bench.proofs.bench_meter.BenchMeter.tick.Goals as goal

pub returns-clause-moves : goal.returns-clause-moves
returns-clause-moves c m hired stands =
    let s = setting_under c.args.checked.now c.args.params.now in
    let a = c.args.found.now.items in
    let b = c.expire_or_press.new.found.items in
    let one = c.count_interval.new.self in
    let two = c.expire_or_press.new.self in
    let three = c.check_roaming.new.self in
    let m1 = (interval_counted s m).next in
    let t = m1.trip in
    let next = hired_by m.latch m.operating (context_now s m) hired in
    let counted = c.in_ok-count_interval.ensures.stands m hired stands in
    let m2 = (expired_or_pressed s m1).next in
    let acted = subst (λ (x : Context). Moves s hired x t a b two (expired_or_pressed s m1)) (hired_after s m hired)
    (c.in_ok-expire_or_press.ensures.moves m1 hired counted) in
    let roamed = c.check_roaming.ensures.moves s t b m2 hired next acted.state in
    let m3 = (roaming_checked s m2).next in
    let seen = moves_shown s hired next t b three m3 roamed.state in
    let begun = moves_begun s hired next t b three (shown s m3).next seen.state in
    let four = moves_then s hired next next t b b b three _ (shown s m3) interval_begun seen begun in
    let five = moves_then s hired next next t b b b three _ (roaming_checked s m2)
    (λ (n : Meter). shown s n >>= interval_begun) roamed four in
    let six = moves_then s hired next next t a b b two _ (expired_or_pressed s m1)
    (λ (n : Meter). roaming_checked s n >>= (λ (n : Meter). shown s n >>= interval_begun)) acted five in
    moves_then s hired hired next t a a b one _ (interval_counted s m) (λ (n : Meter). expired_or_pressed s n
    >>= (λ (n : Meter). roaming_checked s n >>= (λ (n : Meter). shown s n >>= interval_begun)))
    (moves_quietly s hired hired t a one m1 counted) six
