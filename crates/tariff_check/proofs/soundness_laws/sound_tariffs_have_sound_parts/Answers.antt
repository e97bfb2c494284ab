use Rattle.tariff_check.proofs.{Laws.{sound_tariffs_have_sound_parts-none}, SoundParts.{sound_parts}}
use Rattle.tariff_check.proofs.soundness_laws.sound_tariffs_have_sound_parts.Goals as goal

pub returns : goal.returns
returns c = record { none = sound_tariffs_have_sound_parts-none; parts = sound_parts }
