use Rattle.std.proofs.Common.{refl}
use Rattle.totals_record.proofs.table.shares_in.Goals as goal

pub returns : goal.returns
returns c = rw c.share_at.ensures
    (rw c.share_at-2.ensures (rw c.share_at-3.ensures (rw c.share_at-4.ensures (rw c.share_at-5.ensures
    (rw c.share_at-6.ensures (rw c.share_at-7.ensures (rw c.share_at-8.ensures (rw c.share_at-9.ensures refl))))))))
