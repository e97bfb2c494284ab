use Rattle.std.proofs.{Common.{[], ◌+◌, ◌≡◌, arith, drop, flat_map, length}, Math.Seq.{drop-length}}
use Rattle.verify_bench.specs.{Common.{run_events}, TripExplanations.{explanations_of}}
use Rattle.verify_bench.{specs.Settings.{setting_under}, proofs.Carried.{amid_first, amid_next, carried_to_the_end}}
use Rattle.verify_bench.proofs.expecting.explain.Goals as goal

pub loop-run-init : goal.loop-run-init
loop-run-init c =
    let s = setting_under c.args.checked.now c.args.params.now in
    rw c.new-found.ensures.items (record {
      amid = amid_first s (flat_map run_events c.args.runs.now) c.new-meter.result (c.new-meter.ensures.stands s);
      sound = c.new-meter.ensures.sound;
    })

pub loop-run-preserved : goal.loop-run-preserved
loop-run-preserved c =
    let s = setting_under c.args.checked.now c.args.params.now in
    let all = explanations_of s (flat_map run_events c.args.runs.now) in
    let left = flat_map run_events (drop (c.loop-run.run-index + 1) c.args.runs.now) in
    record {
      amid = c.in_ok-follow.ensures.carries all left (amid_next s all c.args.runs.now c.loop-run.run-index _
          c.loop-run.meter c.loop-run.found.items (omega arith) c.loop-run.invariant.amid);
      sound = c.in_ok-follow.ensures.sound;
    }

pub returns : goal.returns
returns c =
    let s = setting_under c.args.checked.now c.args.params.now in
    let all = explanations_of s (flat_map run_events c.args.runs.now) in
    let whole : c.loop-run.run-index ≡ length c.args.runs.now = omega arith in
    let none : drop c.loop-run.run-index c.args.runs.now ≡ [] = rw whole (drop-length c.args.runs.now) in
    carried_to_the_end s all c.loop-run.meter c.drop_at_end.new.self c.loop-run.found.items
    c.drop_at_end.new.found.items c.in_ok-drop_at_end.ensures (rw none at c.loop-run.invariant.amid)
