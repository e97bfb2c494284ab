use Rattle.{std.{specs.Option.{option_or}, proofs.Common.{ap}}, tariff_compare.specs.Differences.{context_difference}}
use Rattle.tariff_compare.{specs.Sides.{side_of}, proofs.DifferenceLaws.{in_is_first, none_is_same, same_is_none}}
use Rattle.tariff_compare.proofs.Frames.{frame_same, same_frame}
use Rattle.tariff_compare.proofs.difference_laws.differences_are_first.Goals as goal

pub returns : goal.returns
returns c = record {
  none = λ t u k t_has u_has. (none_is_same t u k t_has u_has, same_is_none t u k t_has u_has);
  frame = λ t u k d is. ap (λ o. option_or o (context_difference (side_of t k) (side_of u k))) is;
  same_frame = λ t u k t_has u_has. (frame_same t u t_has.writable u_has.writable, same_frame t u);
  context = in_is_first;
}
