use Rattle.totals_record.specs.Common.{byte_at}
use Rattle.totals_record.proofs.table.decode.Goals as goal

pub returns : goal.returns
returns c =
    λ i. record {
      number = c.eight_at.ensures i;
      totals = record {
        distance_mm = c.sixteen_at.ensures i;
        hired_mm = c.sixteen_at-2.ensures i;
        hirings = c.eight_at-2.ensures i;
        supplements = c.sixteen_at-3.ensures i;
        fare = c.sixteen_at-4.ensures i;
        shares = c.shares_in.ensures i;
        before = c.before_in.ensures i;
      };
      hold = c.held_in.ensures i;
      layout = byte_at c.args.bytes.now 510;
    }
