use Rattle.{std.proofs.Common.{arith}, log_commands.proofs.Counted.{spare_count}}
use Rattle.log_commands.proofs.top.count_of.Goals as goal

pub returns-else-tail-2-clause-count : goal.returns-else-tail-2-clause-count
returns-else-tail-2-clause-count c image records ends opened closed =
    spare_count image c.args.tail.now.last c.args.tail.now.is_open records ends opened closed
    (omega (arith, c.if-tail.false)) c.if-tail-2.false
