-- For proofs: how the command `compare` ends. Compare says what a comparison is.
use Rattle.{std.specs.Prelude.{Bool, false, true}, tariff_commands.specs.Common.{Ended, NoMemory, TextFault}}
use Rattle.call_ends.specs.declared.ending.Ended.TheVariants.{BadOther, Different, Done, ReadFault}
use Rattle.call_ends.specs.declared.tariff.TextFault.TheVariants as texts

-- how a command ended that couldn't read the other one of two tariffs
abbrev pub ended_for_other : TextFault → Ended
ended_for_other texts.ReadFault = ReadFault
ended_for_other (texts.Refused why) = BadOther why
ended_for_other texts.NoMemory = NoMemory

-- how a command ended that printed a comparison
abbrev pub ended_comparing : (differ : Bool) → Ended
ended_comparing true = Different
ended_comparing false = Done
