use Rattle.std.proofs.Common.{[], ◌∷◌, arith}
use Rattle.verify_bench.specs.Common.{Clear, Hire, Stop}
use Rattle.verify_bench.specs.Generated.{driven, drop_perhaps, extra_perhaps, key_pressed, position_chosen, roamed}
use Rattle.verify_bench.{specs.Generated.{zone_chosen}, proofs.Adds.{adds_first, adds_more, adds_within}}
use Rattle.verify_bench.proofs.writing.Writing.put_trip.Goals as goal

pub returns : goal.returns
returns c =
    let p = c.args.self.now in
    let p1 = adds_first p c.roam.new.self 23 999 2000 roamed c.roam.ensures in
    let p2 = adds_more p c.roam.new.self c.choose_position.new.self 23 999 2000 23 1 3
    (roamed ∷ []) position_chosen p1 c.choose_position.ensures in
    let p3 = adds_more p c.choose_position.new.self c.choose_zone.new.self 46 1000 2003 23 1 3
    (roamed ∷ position_chosen ∷ []) zone_chosen p2 c.choose_zone.ensures in
    let p4 = adds_more p c.choose_zone.new.self c.press.new.self 69 1001 2006 23 1 3
    (roamed ∷ position_chosen ∷ zone_chosen ∷ []) (key_pressed Hire) p3 c.press.ensures in
    let p5 = adds_more p c.press.new.self c.drive.new.self 92 1002 2009 115 5245 10495
    (roamed ∷ position_chosen ∷ zone_chosen ∷ key_pressed Hire ∷ []) driven p4 c.drive.ensures in
    let p6 = adds_more p c.drive.new.self c.choose_extra.new.self 207 6247 12504 23 1 3
    (roamed ∷ position_chosen ∷ zone_chosen ∷ key_pressed Hire ∷ driven ∷ []) extra_perhaps p5 c.choose_extra.ensures in
    let p7 = adds_more p c.choose_extra.new.self c.drop_supply.new.self 230 6248 12507 26 1190 2
    (roamed ∷ position_chosen ∷ zone_chosen ∷ key_pressed Hire ∷ driven ∷ extra_perhaps ∷ []) drop_perhaps p6
    c.drop_supply.ensures in
    let p8 = adds_more p c.drop_supply.new.self c.press-2.new.self 256 7438 12509 23 1 3
    (roamed ∷ position_chosen ∷ zone_chosen ∷ key_pressed Hire ∷ driven ∷ extra_perhaps ∷ drop_perhaps ∷ [])
    (key_pressed Stop) p7 c.press-2.ensures in
    let p9 = adds_more p c.press-2.new.self c.press-3.new.self 279 7439 12512 23 1 3 (roamed ∷ position_chosen
    ∷ zone_chosen ∷ key_pressed Hire ∷ driven ∷ extra_perhaps ∷ drop_perhaps ∷ key_pressed Stop ∷ [])
    (key_pressed Clear) p8 c.press-3.ensures in
    adds_within p c.press-3.new.self 302 7440 12515 400 7500 15000 _ (omega arith) (omega arith) (omega arith) p9
