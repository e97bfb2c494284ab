use Rattle.std.{specs.List.{prefix_len}, proofs.Common.{◌+◌, ◌≡◌, drop}}
use Rattle.shift_book.specs.Common.{is_identifier_character}
use Rattle.shift_book.proofs.reading.count_characters.Given as goal

abbrev pub invariant-loop-byte : goal.invariant-loop-byte
invariant-loop-byte l = record {
  passed : l.count ≡ l.byte-index;
  front : prefix_len is_identifier_character l.text
      ≡ l.count + prefix_len is_identifier_character (drop l.byte-index l.text);
}
