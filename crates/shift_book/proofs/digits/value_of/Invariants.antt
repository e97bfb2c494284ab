use Rattle.std.{specs.Str.Parse.{digits_value, digits_value_after}, proofs.Common.{◌≡◌, drop, length}}
use Rattle.shift_book.specs.Common.{digits_at_front}
use Rattle.shift_book.proofs.digits.value_of.Given as goal

abbrev pub invariant-loop-byte : goal.invariant-loop-byte
invariant-loop-byte l = record {
  value : digits_value_after 10 l.value (drop l.byte-index l.digits) ≡ digits_value 10 l.digits;
  digits : digits_at_front (drop l.byte-index l.digits) ≡ length (drop l.byte-index l.digits);
}
