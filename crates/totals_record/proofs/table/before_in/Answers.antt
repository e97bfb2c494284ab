use Rattle.{std.proofs.lemmas.Bool.{ne_eqb}, totals_record.specs.{Common.{byte_at}, Table.{share_in}}}
use Rattle.totals_record.proofs.table.before_in.Goals as goal

pub returns-then-bytes-eq1 : goal.returns-then-bytes-eq1
returns-then-bytes-eq1 c =
    rw c.if-bytes-eq1.true (λ i. share_in (c.eight_at.ensures i) (c.sixteen_at.ensures i))

pub returns-else-bytes-eq1 : goal.returns-else-bytes-eq1
returns-else-bytes-eq1 c = rw (ne_eqb (byte_at c.args.bytes.now 510) 1 c.if-bytes-eq1.false) c.share_at.ensures
