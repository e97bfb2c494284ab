use Rattle.std.proofs.Common.{[], ◌*◌, ◌∙◌, ◌∷◌, ◌≤◌, arith, length, refl}
use Rattle.verify_bench.{specs.AddedText.{lines_events}, proofs.{Adds.{adds_intervals}, Lines.{intervals_are_short}}}
use Rattle.verify_bench.specs.Common.{Many}
use Rattle.verify_bench.proofs.writing.Writing.put_intervals.Goals as goal

pub push_bytes-requires : goal.push_bytes-requires
push_bytes-requires c =
    let text = c.as_slice.ensures.value ∙ c.line_of-line.ensures in
    let short : length c.as_slice.result.now ≤ 10 =
    rw text (intervals_are_short c.args.pulses c.args.count c.requires.pulses c.requires.count) in
    omega arith

pub returns : goal.returns
returns c =
    let most : lines_events (Many c.args.pulses c.args.count ∷ []) ≤ 2 * c.args.count =
    rw c.events_of.ensures.count at c.events_of.ensures.most in
    adds_intervals c.args.self.now _ c.args.pulses c.args.count c.requires.pulses c.requires.count refl refl
    (omega (arith, c.events_of.ensures.count)) most
    (rw (c.as_slice.ensures.value, c.line_of-line.ensures) at c.push_bytes.ensures.text)
