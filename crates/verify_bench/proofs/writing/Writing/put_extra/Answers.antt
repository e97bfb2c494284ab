use Rattle.std.proofs.Common.{◌+◌}
use Rattle.verify_bench.{specs.{Common.{Extra}, Generated.{Place, key_pressed, value}}, proofs.Adds.{adds_drawn}}
use Rattle.verify_bench.proofs.writing.Writing.put_extra.Goals as goal

pub returns : goal.returns
returns c =
    adds_drawn c.args.self.now c.draw-number.new.self c.press.new.self 23 1 3
    (λ (place : Place). key_pressed (Extra (1 + value 3 place)) place)
    c.draw-number.ensures.state (rw c.draw-number.ensures.value at c.press.ensures)
