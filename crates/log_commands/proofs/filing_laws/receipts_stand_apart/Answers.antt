use Rattle.{std.proofs.Common.{[]}, log_commands.proofs.Overlaps.{none_within}}
use Rattle.log_commands.proofs.filing_laws.receipts_stand_apart.Goals as goal

pub returns-clause-beginning : goal.returns-clause-beginning
returns-clause-beginning c one other more h k is = none_within other one [] more is k h

pub returns-clause-within : goal.returns-clause-within
returns-clause-within c one other before behind h k is = none_within other one before behind is k h
