use Rattle.log_commands.proofs.OneList.{none_bad, one_list}
use Rattle.log_commands.proofs.log_laws.an_image_stands_for_one_list.Goals as goal

pub returns-clause-one : goal.returns-clause-one
returns-clause-one c image a b = one_list image a b

pub returns-clause-sound : goal.returns-clause-sound
returns-clause-sound c image records slot small stands = none_bad image records slot small stands
