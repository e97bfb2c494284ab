-- For proofs: how the command `form` ends if its text has no tariff.
use Rattle.tariff_syntax.specs.declared.parsing.ParseFault.{ParseFault}
use Rattle.call_ends.specs.declared.ending.Ended.TheVariants.{BadTariff}
use Rattle.tariff_commands.specs.Common.{Ended, NoMemory, Syntax, TooLong}
use Rattle.tariff_syntax.specs.declared.parsing.ParseFault.TheVariants as faults

-- how a command ended whose text has no tariff
abbrev pub ended_unparsed : ParseFault → Ended
ended_unparsed faults.TooLong = BadTariff TooLong
ended_unparsed (faults.Syntax line) = BadTariff (Syntax line)
ended_unparsed faults.NoMemory = NoMemory
