use Rattle.tariff_check.proofs.CutOrder.{cuts_in_order, each_in_order}
use Rattle.tariff_check.proofs.soundness_laws.cuts_are_in_order.Goals as goal

pub returns : goal.returns
returns c = record { cuts = cuts_in_order; numbers = each_in_order }
