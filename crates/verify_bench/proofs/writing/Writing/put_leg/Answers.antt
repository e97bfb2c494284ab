use Rattle.std.proofs.Common.{[], ◌*◌, ◌+◌, ◌∷◌, arith}
use Rattle.verify_bench.specs.{AddedText.{place_of}, Generated.{Place, clock_read, drawn, intervals, road, value}}
use Rattle.verify_bench.proofs.Adds.{adds_drawn, adds_first, adds_more, adds_within}
use Rattle.verify_bench.proofs.writing.Writing.put_leg.Goals as goal

pub returns : goal.returns
returns c =
    let old = c.args.self.now in
    let first = c.draw-pulses.new.self in
    let second = c.draw-count.new.self in
    let mid = c.put_intervals.new.self in
    let pulses = c.draw-pulses.result in
    let count = 50 + c.draw-count.result in
    let few = c.draw-count.ensures.below in
    let driven = adds_within second mid 10 count (2 * count) 10 1049 2098 (intervals pulses count (place_of second))
    (omega arith) (omega arith) (omega arith) c.put_intervals.ensures in
    let by_count = adds_drawn first second mid 10 1049 2098 (λ (place : Place). intervals pulses
    (50 + value 1000 place) place) c.draw-count.ensures.state (rw c.draw-count.ensures.value at driven) in
    let by_both = adds_drawn old first mid 10 1049 2098
    (λ (place : Place). intervals (value 17 place) (50 + value 1000 (drawn place)) (drawn place))
    c.draw-pulses.ensures.state (rw c.draw-pulses.ensures.value at by_count) in
    adds_more old mid c.read_clock.new.self 10 1049 2098 13 0 1 (road ∷ []) clock_read
    (adds_first old mid 10 1049 2098 road by_both) c.read_clock.ensures
