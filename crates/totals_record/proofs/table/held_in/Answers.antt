use Rattle.{std.proofs.{Common.{Some, ap}, lemmas.Bool.{ne_eqb}}, totals_record.specs.Common.{byte_at}}
use Rattle.totals_record.proofs.table.held_in.Goals as goal

pub returns-then-bytes-eq1 : goal.returns-then-bytes-eq1
returns-then-bytes-eq1 c = rw c.if-bytes-eq1.true (ap Some c.trip_in.ensures)

pub returns-else-bytes-eq1 : goal.returns-else-bytes-eq1
returns-else-bytes-eq1 c = rw (ne_eqb (byte_at c.args.bytes.now 80) 1 c.if-bytes-eq1.false)
