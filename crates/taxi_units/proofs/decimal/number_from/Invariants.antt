use Rattle.std.{specs.Str.Parse.{digits_value_after}, proofs.Common.{◌^◌, ◌≡◌, ◌≤◌, drop, length}}
use Rattle.taxi_units.specs.Number.{digits_at_front}
use Rattle.taxi_units.proofs.decimal.number_from.Given as goal

abbrev pub invariant-loop-byte : goal.invariant-loop-byte
invariant-loop-byte l = record {
  small : l.number ≤ 10 ^ 12;
  value : digits_value_after 10 l.number (drop l.byte-index l.digits) ≡ digits_value_after 10 l.start l.digits;
  digits : digits_at_front (drop l.byte-index l.digits) ≡ length (drop l.byte-index l.digits);
}
