-- Rules: what should come of a hiring, from its explanation.
use Rattle.verify_bench.specs.{Common.{Expected}, TripExplanations.{Explanation}}

-- an explanation is cut short to its receipt's kind, fare and distance, and the ticks of the trip
abbrev pub short_of : Explanation → Expected
short_of e = record {
  kind = e.receipt.kind;
  fare = e.receipt.fare;
  hired_mm = e.receipt.hired_mm;
  ticks = e.whole.ticks;
}
