use Rattle.std.proofs.Common.{◌++◌, ◌+◌, ◌≡◌, replicate}
use Rattle.arrayvec.specs.ArrayVec.{array_vec_len}
use Rattle.data_port.proofs.contents.put_zeros.Given as goal

-- as many zeros were appended as the loop went round
abbrev pub invariant-loop-i : goal.invariant-loop-i
invariant-loop-i l = record {
  items : l.line.items ≡ l.fn.line.items ++ replicate l._i 0;
  len : array_vec_len l.line ≡ array_vec_len l.fn.line + l._i;
}
