use Rattle.std.proofs.{Common.{[], ◌+◌, ◌≡◌, arith, drop, flat_map, length}, Math.Seq.{drop-length}}
use Rattle.verify_bench.specs.{Common.{run_events}, ExpectedReceipts.{expected_of}, Settings.{setting_under}}
use Rattle.verify_bench.proofs.{Carried.{events_next, expected_first}, ShortExplanations.{carried_short, ended_short}}
use Rattle.verify_bench.proofs.expecting.expect.Goals as goal

pub loop-run-init : goal.loop-run-init
loop-run-init c =
    let s = setting_under c.args.checked.now c.args.seal.now.params in
    rw c.new-found.ensures.items (record {
      amid = expected_first s (flat_map run_events c.args.runs.now) c.new-meter.result (c.new-meter.ensures.stands s);
      sound = c.new-meter.ensures.sound;
    })

pub loop-run-preserved : goal.loop-run-preserved
loop-run-preserved c =
    let s = setting_under c.args.checked.now c.args.seal.now.params in
    let all = expected_of s (flat_map run_events c.args.runs.now) in
    let left = flat_map run_events (drop (c.loop-run.run-index + 1) c.args.runs.now) in
    let split = events_next c.args.runs.now c.loop-run.run-index _ (omega arith) in
    let here = rw split at c.loop-run.invariant.amid in
    let carries = rw c.new-explained.ensures.items at c.in_ok-follow.ensures.carries in
    record {
      amid = rw (c.in_ok-put_expected.ensures, c.as_slice.ensures.value) (carried_short s all _ left c.loop-run.meter
          c.follow.new.self c.loop-run.found.items c.follow.new.found.items carries here);
      sound = c.in_ok-follow.ensures.sound;
    }

pub returns : goal.returns
returns c =
    let s = setting_under c.args.checked.now c.args.seal.now.params in
    let all = expected_of s (flat_map run_events c.args.runs.now) in
    let whole : c.loop-run.run-index ≡ length c.args.runs.now = omega arith in
    let none : drop c.loop-run.run-index c.args.runs.now ≡ [] = rw whole (drop-length c.args.runs.now) in
    let moves = rw c.new-explained-2.ensures.items at c.in_ok-drop_at_end.ensures in
    rw (c.in_ok-put_expected-2.ensures, c.as_slice-2.ensures.value)
    (ended_short s all c.loop-run.meter c.drop_at_end.new.self c.loop-run.found.items c.drop_at_end.new.found.items
    moves (rw none at c.loop-run.invariant.amid))
