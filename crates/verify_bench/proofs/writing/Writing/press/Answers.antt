use Rattle.std.proofs.Common.{[], ◌∷◌}
use Rattle.{taxi_units.specs.declared.event.Event.TheVariants.{Key}, verify_bench.proofs.Adds.{adds_first, adds_more}}
use Rattle.verify_bench.specs.{Common.{One}, Generated.{intervals, line}}
use Rattle.verify_bench.proofs.writing.Writing.press.Goals as goal

pub returns : goal.returns
returns c =
    let key = line (One (Key c.args.key)) in
    adds_more c.args.self.now c.put.new.self c.put_intervals.new.self 13 0 1 10 1 2 (key ∷ []) (intervals 0 1)
    (adds_first c.args.self.now c.put.new.self 13 0 1 key c.put.ensures) c.put_intervals.ensures
