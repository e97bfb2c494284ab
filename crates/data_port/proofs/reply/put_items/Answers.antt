use Rattle.{std.proofs.Common.{arith}, data_port.proofs.Bodies.{most_of_all, rise_high, rise_low, room_before}}
use Rattle.data_port.proofs.reply.put_items.Goals as goal

pub put_item-requires-clause-code : goal.put_item-requires-clause-code
put_item-requires-clause-code c =
    let i = c.loop-code.code-index in
    let low = rise_low 0 c.args.items.now i 0 c.requires.rise c.loop-code-test.true in
    (omega (arith, low), rise_high 0 c.args.items.now i 0 c.requires.rise c.loop-code-test.true)

pub put_item-requires-clause-room : goal.put_item-requires-clause-room
put_item-requires-clause-room c =
    room_before c.args.durable.now c.args.seal.now c.args.items.now c.loop-code.code-index 0 c.loop-code.line.items
    c.requires.durable c.requires.seal c.requires.rise c.loop-code-test.true c.loop-code.invariant

pub returns-clause-most : goal.returns-clause-most
returns-clause-most c =
    most_of_all c.args.durable.now c.args.seal.now c.args.items.now c.loop-code.code-index c.loop-code.line.items
    c.requires.durable c.requires.seal c.requires.rise (omega (arith, c.loop-code-test.false)) c.loop-code.invariant
