use Rattle.std.{specs.List.{flat_map}, proofs.Common.{◌*◌, ◌++◌, ◌+◌, ◌≡◌, take}}
use Rattle.{arrayvec.specs.ArrayVec.{array_vec_len}, totals_record.specs.Spelling.{share_bytes}}
use Rattle.totals_record.proofs.table.put_shared.Given as goal

abbrev pub invariant-loop-share : goal.invariant-loop-share
invariant-loop-share l = record {
  items : l.out.items ≡ l.fn.out.items ++ flat_map share_bytes (take l.share-index l.totals.shares);
  len : array_vec_len l.out ≡ array_vec_len l.fn.out + 24 * l.share-index;
}
