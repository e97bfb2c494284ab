use Rattle.std.proofs.{Common.{[], ◌+◌, ◌≡◌, arith, drop, flat_map, length}, Math.Seq.{drop-length}}
use Rattle.verify_bench.specs.{Common.{context_now, first_state, opened, run_events}, Settings.{setting_under}}
use Rattle.verify_bench.{specs.Story.{stories_of}, proofs.{Carried.{events_next}, Tellings.{told_first, told_next}}}
use Rattle.verify_bench.proofs.narrating.narrate.Goals as goal

pub loop-run-init : goal.loop-run-init
loop-run-init c =
    let s = setting_under c.args.checked.now c.args.params.now in
    record {
      amid = told_first s (flat_map run_events c.args.runs.now) c.new-teller.result c.new-stories.result
          (c.new-teller.ensures.stands s) c.new-stories.ensures.closed c.new-stories.ensures.begun
          (context_now s (opened s first_state));
      sound = c.new-teller.ensures.sound;
      few = omega (arith, c.new-teller.ensures.since);
    }

pub loop-run-preserved : goal.loop-run-preserved
loop-run-preserved c =
    let s = setting_under c.args.checked.now c.args.params.now in
    let all = stories_of s (flat_map run_events c.args.runs.now) in
    let left = flat_map run_events (drop (c.loop-run.run-index + 1) c.args.runs.now) in
    let split = events_next c.args.runs.now c.loop-run.run-index _ (omega arith) in
    record {
      amid = c.in_ok-follow.ensures.tells all left (told_next s all c.args.runs.now c.loop-run.run-index _
          c.loop-run.teller c.loop-run.stories split c.loop-run.invariant.amid);
      sound = c.in_ok-follow.ensures.sound;
      few = omega (arith, c.in_ok-follow.ensures.few, c.loop-run.invariant.few);
    }

pub returns : goal.returns
returns c =
    let s = setting_under c.args.checked.now c.args.params.now in
    let all = stories_of s (flat_map run_events c.args.runs.now) in
    let whole : c.loop-run.run-index ≡ length c.args.runs.now = omega arith in
    let none : drop c.loop-run.run-index c.args.runs.now ≡ [] = rw whole (drop-length c.args.runs.now) in
    c.in_ok-tell_end.ensures all (rw none at c.loop-run.invariant.amid)
