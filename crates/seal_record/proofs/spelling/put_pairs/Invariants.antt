use Rattle.std.proofs.Common.{◌*◌, ◌++◌, ◌+◌, ◌≡◌, flat_map, take}
use Rattle.{arrayvec.specs.ArrayVec.{array_vec_len}, seal_record.specs.Spelling.{pair_bytes}}
use Rattle.seal_record.proofs.spelling.put_pairs.Given as goal

-- the pairs so far were appended
abbrev pub invariant-loop-pair : goal.invariant-loop-pair
invariant-loop-pair l = record {
  items : l.out.items ≡ l.fn.out.items ++ flat_map pair_bytes (take l.pair-index l.pairs);
  len : array_vec_len l.out ≡ array_vec_len l.fn.out + 12 * l.pair-index;
}
