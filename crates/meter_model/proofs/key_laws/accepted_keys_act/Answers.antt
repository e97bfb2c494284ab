use Rattle.meter_model.proofs.KeyActs.{adds, clears, goes_on, hires, refuses, sets_position, sets_zone, stops}
use Rattle.meter_model.proofs.key_laws.accepted_keys_act.Goals as goal

pub returns-clause-hire : goal.returns-clause-hire
returns-clause-hire c = hires

pub returns-clause-stop : goal.returns-clause-stop
returns-clause-stop c = stops

pub returns-clause-go_on : goal.returns-clause-go_on
returns-clause-go_on c = goes_on

pub returns-clause-clear : goal.returns-clause-clear
returns-clause-clear c = clears

pub returns-clause-position : goal.returns-clause-position
returns-clause-position c = sets_position

pub returns-clause-zone : goal.returns-clause-zone
returns-clause-zone c = sets_zone

pub returns-clause-extra : goal.returns-clause-extra
returns-clause-extra c = adds

pub returns-clause-refused : goal.returns-clause-refused
returns-clause-refused c = refuses
