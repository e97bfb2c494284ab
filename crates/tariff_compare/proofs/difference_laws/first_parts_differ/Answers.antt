use Rattle.tariff_compare.proofs.FirstParts.{frame_is_first, is_then_same, kind_is_first, same_by}
use Rattle.tariff_compare.proofs.difference_laws.first_parts_differ.Goals as goal

pub returns : goal.returns
returns c = record {
  frame = λ t u k d t_has u_has. frame_is_first t u d t_has.writable u_has.writable;
  kind = kind_is_first;
  same = λ kind one other. (same_by kind one other, is_then_same kind one other);
}
