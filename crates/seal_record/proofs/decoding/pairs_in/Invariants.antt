use Rattle.std.proofs.Common.{◌≡◌}
use Rattle.{arrayvec.specs.ArrayVec.{array_vec_len}, seal_record.specs.{Common.{read_row}, Decoding.{pair_table}}}
use Rattle.seal_record.proofs.decoding.pairs_in.Given as goal

-- the first `i` pairs were read
abbrev pub invariant-loop-i : goal.invariant-loop-i
invariant-loop-i l = record {
  items : l.pairs.items ≡ read_row pair_table l.i l.bytes 68;
  len : array_vec_len l.pairs ≡ l.i;
}
