use Rattle.std.proofs.Common.{◌∙◌, ap}
use Rattle.shift_book.{specs.{Common.{Numbers}, Shares.{free_behind}}, proofs.GrowthSums.{unsigned_done, unsigned_fits}}
use Rattle.shift_book.proofs.shift.unsigned_of.Goals as goal

pub plus-unsigned-requires : goal.plus-unsigned-requires
plus-unsigned-requires c =
    unsigned_fits c.args.now.now c.args.marks.now c.loop-mark.left.now c.in-Some.mark.now c.in-Some.rest.now
    c.loop-mark.unsigned c.free_behind.result
    c.in-Some.ensures.cases.0
    (c.free_behind.ensures ∙ ap (λ (n : Numbers). free_behind c.in-Some.mark.now n) c.point_behind.ensures)
    c.loop-mark.invariant.so_far c.requires.fit

pub returns : goal.returns
returns c = unsigned_done c.args.now.now c.args.marks.now c.loop-mark.left.now c.loop-mark.unsigned
    c.in_default.ensures.cases c.loop-mark.invariant.so_far
