use Rattle.std.proofs.Common.{[], ◌*◌, ◌∷◌, arith, refl}
use Rattle.verify_bench.{specs.AddedText.{place_of}, proofs.Adds.{adds_drawn, adds_first, adds_more, adds_moved}}
use Rattle.verify_bench.specs.{Common.{Down, One, Up}, Generated.{Place, came_back, later, line, second_of, value}}
use Rattle.verify_bench.proofs.writing.Writing.miss_supply.Goals as goal

pub returns : goal.returns
returns c =
    let old = c.args.self.now in
    let mid = c.put.new.self in
    let drawn = c.draw-seconds.new.self in
    let new = c.put_up.new.self in
    let back = λ (tenths : _) (place : Place). line (One (Up (second_of (later tenths place)))) (later tenths place) in
    let few = c.draw-seconds.ensures.below in
    let moved = adds_moved drawn _ new 1190 13 0 1 (back (10 * c.draw-seconds.result) (place_of drawn)) refl refl
    (omega arith) c.put_up.ensures in
    let behind = adds_drawn mid drawn new 13 1190 1 (λ (place : Place). back (10 * value 120 place) place)
    c.draw-seconds.ensures.state (rw c.draw-seconds.ensures.value at moved) in
    adds_more old mid new 13 0 1 13 1190 1 (line (One Down) ∷ []) came_back
    (adds_first old mid 13 0 1 (line (One Down)) c.put.ensures) behind
