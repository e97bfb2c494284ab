use Rattle.tariff_check.proofs.AllFaults.{each_before_cuts_is_named, each_named_is_there, each_of_cuts_is_named}
use Rattle.tariff_check.proofs.AllFaults.{first_named, named_in_order, none_named, zero_measure}
use Rattle.tariff_check.proofs.soundness_laws.all_faults_begin_with_the_first.Goals as goal

pub returns : goal.returns
returns c = record {
  first = first_named;
  none = none_named;
  in_order = named_in_order;
  there = each_named_is_there;
  before_cuts = each_before_cuts_is_named;
  from_cuts = each_of_cuts_is_named;
  measure = zero_measure;
}
