use Rattle.near_commands.proofs.NearSound.{near_measure, near_sound}
use Rattle.near_commands.proofs.near_laws.near_tariffs_are_sound.Goals as goal

pub returns : goal.returns
returns c = record { sound = near_sound; measure = near_measure }
