use Rattle.std.{specs.Str.Parse.{digits_value, digits_value_after}, proofs.Common.{◌≡◌, drop, length}}
use Rattle.commands.specs.Common.{digits_at_front}
use Rattle.commands.proofs.words.number_of_digits.Given as goal

abbrev pub invariant-loop-byte : goal.invariant-loop-byte
invariant-loop-byte l = record {
  value : digits_value_after 10 l.number (drop l.byte-index l.digits) ≡ digits_value 10 l.digits;
  digits : digits_at_front (drop l.byte-index l.digits) ≡ length (drop l.byte-index l.digits);
}
