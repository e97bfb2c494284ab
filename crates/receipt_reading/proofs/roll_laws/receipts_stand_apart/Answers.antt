use Rattle.{std.proofs.Common.{[]}, receipt_reading.proofs.{Overlaps.{none_within}, RollLaws.{one_printed}}}
use Rattle.receipt_reading.proofs.roll_laws.receipts_stand_apart.Goals as goal

pub returns-clause-one : goal.returns-clause-one
returns-clause-one c = one_printed

pub returns-clause-beginning : goal.returns-clause-beginning
returns-clause-beginning c one other more h k is = none_within other one [] more is k h

pub returns-clause-within : goal.returns-clause-within
returns-clause-within c one other before behind h k is = none_within other one before behind is k h
