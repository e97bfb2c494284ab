use Rattle.std.proofs.Common.{◌+◌, ◌≡◌, drop}
use Rattle.taxi_units.specs.Number.{digits_at_front}
use Rattle.taxi_units.proofs.decimal.count_digits.Given as goal

abbrev pub invariant-loop-byte : goal.invariant-loop-byte
invariant-loop-byte l = record {
  index : l.count ≡ l.byte-index;
  digits : digits_at_front l.bytes ≡ l.count + digits_at_front (drop l.byte-index l.bytes);
}
