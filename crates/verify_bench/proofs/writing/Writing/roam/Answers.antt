use Rattle.std.proofs.Common.{[], ◌*◌, ◌+◌, ◌∷◌, arith}
use Rattle.verify_bench.{specs.AddedText.{place_of}, proofs.Adds.{adds_drawn, adds_first, adds_more, adds_within}}
use Rattle.verify_bench.specs.Generated.{Place, clock_read, intervals, value, way}
use Rattle.verify_bench.proofs.writing.Writing.roam.Goals as goal

pub returns : goal.returns
returns c =
    let old = c.args.self.now in
    let read = c.read_clock.new.self in
    let drawn = c.draw-count.new.self in
    let new = c.put_intervals.new.self in
    let count = 100 + c.draw-count.result in
    let few = c.draw-count.ensures.below in
    let driven = adds_within drawn new 10 count (2 * count) 10 999 1998 (intervals 10 count (place_of drawn))
    (omega arith) (omega arith) (omega arith) c.put_intervals.ensures in
    let behind = adds_drawn read drawn new 10 999 1998 (λ (place : Place). intervals 10 (100 + value 900 place) place)
    c.draw-count.ensures.state (rw c.draw-count.ensures.value at driven) in
    let both = adds_more old read new 13 0 1 10 999 1998 (clock_read ∷ []) way
    (adds_first old read 13 0 1 clock_read c.read_clock.ensures) behind in
    adds_within old new 23 999 1999 23 999 2000 _ (omega arith) (omega arith) (omega arith) both
