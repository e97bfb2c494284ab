use Rattle.{std.proofs.Common.{refl}, tariff_check.proofs.{ChoiceLaws.{all_lines}, FrameLines.{frame_told}}}
use Rattle.tariff_check.proofs.KindLaws.{in_one_part}
use Rattle.tariff_check.proofs.soundness_laws.sound_tariffs_are_their_parts.Goals as goal

pub returns : goal.returns
returns c = record { one_part = in_one_part; lines = all_lines; supplements = λ t number. refl; frame = frame_told }
