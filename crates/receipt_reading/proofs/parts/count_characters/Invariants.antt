use Rattle.std.{specs.List.{prefix_len}, proofs.Common.{◌+◌, ◌≡◌, drop}}
use Rattle.taxi_units.specs.Identifier.{is_identifier_character}
use Rattle.receipt_reading.proofs.parts.count_characters.Given as goal

abbrev pub invariant-loop-byte : goal.invariant-loop-byte
invariant-loop-byte l = record {
  index : l.count ≡ l.byte-index;
  characters : prefix_len is_identifier_character l.text
      ≡ l.count + prefix_len is_identifier_character (drop l.byte-index l.text);
}
