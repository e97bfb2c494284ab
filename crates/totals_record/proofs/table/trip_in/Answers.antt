use Rattle.totals_record.specs.Table.{trip_table}
use Rattle.totals_record.proofs.table.trip_in.Goals as goal

pub returns : goal.returns
returns c =
    λ i. record (trip_table.read c.args.bytes.now 81) {
      started = c.eight_at.ensures i;
      saved = c.eight_at-2.ensures i;
      roam = c.four_at.ensures i;
      pulses = c.eight_at-3.ensures i;
      ticks = c.four_at-2.ensures i;
      initial = c.four_at-3.ensures i;
      minimum = c.four_at-4.ensures i;
      meterage = c.meterage_in.ensures i;
      extras = c.extras_in.ensures i;
      extras_sum = c.eight_at-4.ensures i;
    }
