use Rattle.std.proofs.Common.{◌++◌, ◌+◌, ◌≡◌, replicate}
use Rattle.arrayvec.specs.ArrayVec.{array_vec_len}
use Rattle.slot_bodies.proofs.body_bytes.put_zeros.Given as goal

-- one zero was appended in each turn
abbrev pub invariant-loop-i : goal.invariant-loop-i
invariant-loop-i l = record {
  items : l.out.items ≡ l.fn.out.items ++ replicate l._i 0;
  len : array_vec_len l.out ≡ array_vec_len l.fn.out + l._i;
}
