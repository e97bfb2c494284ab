use Rattle.std.proofs.Common.{◌+◌, ◌≡◌, drop}
use Rattle.commands.specs.Common.{digits_at_front}
use Rattle.commands.proofs.words.are_digits.Given as goal

abbrev pub invariant-loop-byte : goal.invariant-loop-byte
invariant-loop-byte l = record {
  digits : digits_at_front l.word ≡ l.byte-index + digits_at_front (drop l.byte-index l.word);
}
