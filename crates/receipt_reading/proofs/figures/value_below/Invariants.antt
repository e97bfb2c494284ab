use Rattle.std.{specs.Str.Parse.{digits_value_after}, proofs.Common.{◌<◌, ◌≡◌, drop, length}}
use Rattle.taxi_units.specs.Number.{digits_at_front}
use Rattle.receipt_reading.proofs.figures.value_below.Given as goal

abbrev pub invariant-loop-byte : goal.invariant-loop-byte
invariant-loop-byte l = record {
  below : l.value < l.limit;
  value : digits_value_after 10 l.value (drop l.byte-index l.digits) ≡ digits_value_after 10 l.start l.digits;
  digits : digits_at_front (drop l.byte-index l.digits) ≡ length (drop l.byte-index l.digits);
}
