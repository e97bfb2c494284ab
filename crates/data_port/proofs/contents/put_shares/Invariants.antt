use Rattle.std.{specs.List.{flat_map}, proofs.Common.{◌*◌, ◌++◌, ◌+◌, ◌≡◌, take}}
use Rattle.{arrayvec.specs.ArrayVec.{array_vec_len}, data_port.specs.Common.{share_bytes}}
use Rattle.data_port.proofs.contents.put_shares.Given as goal

-- the shares so far were appended
abbrev pub invariant-loop-share : goal.invariant-loop-share
invariant-loop-share l = record {
  items : l.line.items ≡ l.fn.line.items ++ flat_map share_bytes (take l.share-index l.totals.shares);
  len : array_vec_len l.line ≡ array_vec_len l.fn.line + 24 * l.share-index;
}
