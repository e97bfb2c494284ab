-- Which faults of parameters and rules are those of a read.
use Rattle.std.proofs.Common.{◌≡◌, ◌≢◌, refl}
use Rattle.store_commands.specs.{Common.{ReadFault, RulesFault}, StoreEnds.{ended_for_params, ended_for_rules}}
use Rattle.store_commands.specs.declared.params.ParamsFault.{ParamsFault}
use Rattle.store_commands.specs.declared.offsets.RulesFault.TheVariants as rules
use Rattle.call_ends.specs.declared.ending.Ended.TheVariants as ended
use Rattle.store_commands.specs.declared.params.ParamsFault.TheVariants as params

pub read_fault-rules : (fault : RulesFault) → ended_for_rules fault ≡ ReadFault → fault ≡ rules.ReadFault
read_fault-rules rules.ReadFault e = refl
read_fault-rules (rules.Refused why) e = absurd cc

pub not_board-rules : (fault : RulesFault) → ended_for_rules fault ≢ ended.BoardFault
not_board-rules rules.ReadFault = λ e. absurd cc
not_board-rules (rules.Refused why) = λ e. absurd cc

pub read_fault-params : (fault : ParamsFault) → ended_for_params fault ≡ ended.ReadFault → fault ≡ params.ReadFault
read_fault-params params.ReadFault e = refl
read_fault-params (params.Refused why) e = absurd cc
read_fault-params params.NoMemory e = absurd cc

pub not_board-params : (fault : ParamsFault) → ended_for_params fault ≢ ended.BoardFault
not_board-params params.ReadFault = λ e. absurd cc
not_board-params (params.Refused why) = λ e. absurd cc
not_board-params params.NoMemory = λ e. absurd cc

pub no_memory-params : (fault : ParamsFault) → ended_for_params fault ≡ ended.NoMemory → fault ≡ params.NoMemory
no_memory-params params.ReadFault e = absurd cc
no_memory-params (params.Refused why) e = absurd cc
no_memory-params params.NoMemory e = refl
