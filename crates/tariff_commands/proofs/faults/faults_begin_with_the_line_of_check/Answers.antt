use Rattle.tariff_commands.proofs.FaultsLaws.{begins_is, first_is, named_is, none_is, sound_is, status_is}
use Rattle.tariff_commands.proofs.faults.faults_begin_with_the_line_of_check.Goals as goal

pub returns-clause-status : goal.returns-clause-status
returns-clause-status c = status_is

pub returns-clause-begins : goal.returns-clause-begins
returns-clause-begins c = begins_is

pub returns-clause-sound : goal.returns-clause-sound
returns-clause-sound c = sound_is

pub returns-clause-none : goal.returns-clause-none
returns-clause-none c = none_is

pub returns-clause-first : goal.returns-clause-first
returns-clause-first c = first_is

pub returns-clause-syntax : goal.returns-clause-syntax
returns-clause-syntax c = named_is
