-- For proofs: how a command ends by requests, parameters or rules that it couldn't read.
use Rattle.{std.specs.Prelude.{Err, Ok, Result}, data_port.specs.declared.serving.PortFault.{PortFault}}
use Rattle.call_ends.specs.declared.ending.Ended.TheVariants.{BadFrame, BadRules, Done, EndlessRequests}
use Rattle.store_commands.specs.Common.{BadParams, BoardFault, Ended, NoMemory, ReadFault, RulesFault}
use Rattle.store_commands.specs.declared.params.ParamsFault.{ParamsFault}
use Rattle.store_commands.specs.declared.offsets.RulesFault.TheVariants as rules
use Rattle.store_commands.specs.declared.params.ParamsFault.TheVariants as params
use Rattle.data_port.specs.declared.serving.PortFault.TheVariants as ports

-- how a command ended that served its requests
abbrev pub ended_serving : {T : Type 0} → Result T PortFault → Ended
ended_serving (Ok done) = Done
ended_serving (Err ports.ReadFault) = ReadFault
ended_serving (Err ports.BoardFault) = BoardFault
ended_serving (Err (ports.Frame place)) = BadFrame place
ended_serving (Err ports.TooLong) = EndlessRequests

-- how a command ended that couldn't read its parameters
abbrev pub ended_for_params : ParamsFault → Ended
ended_for_params params.ReadFault = ReadFault
ended_for_params (params.Refused why) = BadParams why
ended_for_params params.NoMemory = NoMemory

-- how a command ended that couldn't read its rules of offsets
abbrev pub ended_for_rules : RulesFault → Ended
ended_for_rules rules.ReadFault = ReadFault
ended_for_rules (rules.Refused why) = BadRules why
