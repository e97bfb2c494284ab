use Rattle.std.{specs.List.{sum_by}, proofs.Common.{◌+◌, ◌≡◌, take}}
use Rattle.totals_record.proofs.ranges.add_up.Given as goal

abbrev pub invariant-loop-share : goal.invariant-loop-share
invariant-loop-share l = record {
  hirings : sum_by (λ share. share.hirings) (take l.share-index l.shares) + l.hirings_left ≡ l.hirings;
  fare : sum_by (λ share. share.fare) (take l.share-index l.shares) + l.fare_left ≡ l.fare;
}
