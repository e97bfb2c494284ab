use Rattle.verify_bench.proofs.Partition.{all_add_up, all_have_uncharged, all_make, ways_charge}
use Rattle.verify_bench.proofs.TripGroups.{all_have_groups}
use Rattle.verify_bench.proofs.whole_laws.explanations_add_up.Goals as goal

pub returns : goal.returns
returns c = record {
  whole = all_add_up;
  receipt = all_make;
  ways = ways_charge;
  groups = all_have_groups;
  uncharged = all_have_uncharged;
}
